-- Two fragments become one: what is always under way.
use Rattle.std.proofs.Common.{◌≡◌, ◌≢◌, ℕ, ◌<◌, true, Option, Some, sym, ◌∙◌, ap, subst₂, ⊎_elim, ◌⊎◌, arith}
use Rattle.ghs_node.specs.declared.mark.Mark.TheVariants.{Branch}
use Rattle.ghs_node.specs.Words.{is_branch}
use Rattle.ghs_graph.specs.declared.key.Key.{Key}
use Rattle.peer_network.specs.Network.{Network, port_at, At, far, far_port, InNetwork}
use Rattle.ghs_protocol.proofs.clauses.Scene.{Member, Scene, End, end, forest}
use Rattle.ghs_protocol.proofs.clauses.Fragments.{Names}
use Rattle.ghs_protocol.proofs.clauses.Wiring.{IsKeyed}
use Rattle.ghs_protocol.proofs.clauses.Uniting.{joining, relabel}
use Rattle.ghs_protocol.proofs.clauses.Whole.{Invariant}
use Rattle.ghs_protocol.proofs.clauses.UnderWay.{ProbeAsks, ChildBrought, IsCore, HeardBy, CoreHeard, Lives}
use Rattle.ghs_protocol.proofs.acts.SameForest.{branch_mark}
use Rattle.ghs_protocol.proofs.union.Floors.{Joining, Joined_in, Left_out, joining_is, joining_as}

-- a link that isn't Branch at one end gives no fragment its name
pub no_name : (g : Network) →
    IsKeyed g →
    (w : Scene) → Invariant g w →
    (u b : ℕ) → At g u b →
    (w.at u).mark b ≢ Branch →
    (v : ℕ) → InNetwork g v →
    (w.at v).coming_name ≡ Some (port_at g u b).key →
    ⊥
no_name g keyed w holds u b at ne v is e =
    ⊎_elim (λ z. ne (branch_mark ((w.at u).mark b) (subst₂ (λ x y. is_branch ((w.at x).mark y) ≡ true) z.0 z.1 name.joined.here)))
    (λ z. ne (branch_mark ((w.at u).mark b) (subst₂ (λ x y. is_branch ((w.at x).mark y) ≡ true) z.0 z.1 name.joined.there)))
    (keyed name.node name.port u b name.at at name.key)
  where
    name : Names g (forest w) (w.at v).fragment (port_at g u b).key
    name = holds.trees.names_within.inside v (port_at g u b).key is e

module _ (g : Network) (w : Scene) (lives : Lives g w) (c a l : ℕ) (n : Option Key)
    -- who joins is below the new level, or has it and the name already, and then so has the core's other end
    (low : (t : ℕ) →
    InNetwork g t →
    ((w.at t).fragment ≡ c) ⊎ ((w.at t).fragment ≡ a) →
    ((w.at t).head.level < l) ⊎ (((w.at t).coming ≡ l) × ((w.at t).coming_name ≡ n) ×
    ((p : ℕ) → At g t p → IsCore (end g w t p) (end g w (far g t p) (far_port g t p)) → (w.at (far g t p)).coming ≡ (w.at t).coming)))
    (after : Invariant g (relabel c a l n w)) where
  abbrev new : ℕ → Member
  new t = joining c a l n (w.at t)

  abbrev renamed : ℕ → ℕ → End
  renamed t p = record (end g w t p) {
    is = record (w.at t) { fragment = (new t).fragment; coming = (new t).coming; coming_name = (new t).coming_name };
  }

  end_as : (t p : ℕ) → end g (relabel c a l n w) t p ≡ renamed t p
  end_as t p = λ i. record {
    port = p;
    key = (port_at g t p).key;
    mark = (joining_as c a l n (w.at t) i).mark p;
    is = joining_as c a l n (w.at t) i;
    seen = w.seen t p;
  }

  marks_of : (t : ℕ) → (new t).mark ≡ (w.at t).mark
  marks_of t = ap (λ (m : Member). m.mark) (joining_as c a l n (w.at t))

  -- both ends of a joined link are in one fragment afterwards
  within : (t p : ℕ) →
      At g t p →
      (w.at t).mark p ≡ Branch →
      (w.at (far g t p)).mark (far_port g t p) ≡ Branch →
      (new t).fragment ≡ (new (far g t p)).fragment
  within t p at m m' =
      after.trees.joined_within t p at (record {
        here = ap (λ f. is_branch (f p)) (marks_of t) ∙ ap is_branch m;
        there = ap (λ f. is_branch (f (far_port g t p))) (marks_of (far g t p)) ∙ ap is_branch m';
      })

  united_heard : (t p : ℕ) → At g t p → CoreHeard (renamed t p) (renamed (far g t p) (far_port g t p))
  united_heard t p at z top found none = go (joining_is c a l n (w.at t))
    where
      is : InNetwork g t
      is = record { some = at.some; node = at.node }

      f : ℕ
      f = far g t p

      one : (new t).fragment ≡ (new (far g t p)).fragment
      one = within t p at z.0 z.1

      coming_there : (new (far g t p)).coming ≡ (new t).coming
      coming_there = (after.trees.by_fragment (far g t p) t (sym one)).0

      -- as before but for the coming level
      again :
          HeardBy (w.at (far g t p)).head.level (w.at (far g t p)).coming (w.at (far g t p)).head.phase (w.at (far g t p)).head.best
          (w.at t).head.best (w.at (far g t p)).head.halted →
          (w.at (far g t p)).coming ≡ (new (far g t p)).coming →
          HeardBy (w.at (far g t p)).head.level (new (far g t p)).coming (w.at (far g t p)).head.phase (w.at (far g t p)).head.best
          (w.at t).head.best (w.at (far g t p)).head.halted
      again h e = record { top = h.top ∙ e; done = h.done; key = h.key; halts = h.halts }

      before :
          (w.at t).coming_name ≡ Some (port_at g t p).key →
          (w.at t).head.level ≡ (w.at t).coming →
          HeardBy (w.at (far g t p)).head.level (w.at (far g t p)).coming (w.at (far g t p)).head.phase (w.at (far g t p)).head.best
          (w.at t).head.best (w.at (far g t p)).head.halted
      before name same = lives.heard t p at (z.0, z.1, z.2, z.3, name) same found none

      go :
          Joining c a l n (w.at t) →
          HeardBy (w.at (far g t p)).head.level (new (far g t p)).coming (w.at (far g t p)).head.phase (w.at (far g t p)).head.best
          (w.at t).head.best (w.at (far g t p)).head.halted
      go (Joined_in i x y v) =
          ⊎_elim (λ lt. absurd (omega (arith, top, y, lt)))
          (λ q.
          let name = q.1 ∙ sym v ∙ z.4 in
          again (before name (top ∙ y ∙ sym q.0)) (q.2 p at (z.0, z.1, z.2, z.3, name) ∙ q.0 ∙ sym y ∙ sym coming_there))
          (low t is i)
      go (Left_out ne ne' s) =
          again
          (before (ap (λ (m : Member). m.coming_name) (sym s) ∙ z.4) (top ∙ ap (λ (m : Member). m.coming) s))
          (beyond (joining_is c a l n (w.at (far g t p))))
        where
          beyond : Joining c a l n (w.at (far g t p)) → (w.at (far g t p)).coming ≡ (new (far g t p)).coming
          beyond (Joined_in i x y v) = absurd (ne' (ap (λ (m : Member). m.fragment) (sym s) ∙ one ∙ x))
          beyond (Left_out me me' s') = ap (λ (m : Member). m.coming) (sym s')

  pub united_lives : Lives g (relabel c a l n w)
  united_lives = record {
    asks = λ t p at. subst₂ ProbeAsks (sym (end_as t p)) (sym (end_as (far g t p) (far_port g t p))) (lives.asks t p at);
    brought = λ t p at. subst₂ ChildBrought (sym (end_as t p)) (sym (end_as (far g t p) (far_port g t p))) (lives.brought t p at);
    heard = λ t p at. subst₂ CoreHeard (sym (end_as t p)) (sym (end_as (far g t p) (far_port g t p))) (united_heard t p at);
  }
