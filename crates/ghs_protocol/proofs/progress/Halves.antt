-- The two sides of a root link, and why both halves of a core never report one key.
use Rattle.std.proofs.Common.{◌≡◌, ◌≢◌, ℕ, ◌<◌, Bool, true, false, Some, None, length, refl, sym, ◌∙◌, ap, subst, subst₂, ⊎_elim, ◌⊎◌, inl, inr}
use Rattle.std.proofs.lemmas.Option.{same_Some}
use Rattle.ghs_graph.specs.declared.key.Key.{Key}
use Rattle.ghs_node.specs.declared.mark.Mark.TheVariants.{Branch}
use Rattle.ghs_node.specs.Words.{is_branch, best_key, Best}
use Rattle.peer_network.specs.Network.{Network, port_at, At, far, far_port, InNetwork}
use Rattle.peer_network.proofs.lemmas.Wired.{IsWired}
use Rattle.ghs_protocol.proofs.clauses.Scene.{Scene, Forest, end, tree_end, forest}
use Rattle.ghs_protocol.proofs.clauses.TreeMessages.{Reported}
use Rattle.ghs_protocol.proofs.clauses.Fragments.{IsJoinedIn, Goes_out, Both_ways, Reach}
use Rattle.ghs_protocol.proofs.clauses.Wiring.{IsKeyed}
use Rattle.ghs_protocol.proofs.clauses.Whole.{Invariant}
use Rattle.ghs_protocol.proofs.search.FirstReport.{mark_is}
use Rattle.ghs_protocol.proofs.progress.Depths.{IsChild, upwards}
use Rattle.ghs_protocol.proofs.clauses.Nodes.{IsAtTop}
use Rattle.ghs_node.proofs.lemmas.{branch_mark}

-- u lies below x, by ways that are no root links
pub data Side (g : Network) (s : Forest) (x : ℕ) : ℕ → Type 0 where
  Itself : {u : ℕ} → u ≡ x → Side g s x u
  Under : {u : ℕ} (p : ℕ) → At g u p → s.up u ≡ Some p → s.up (far g u p) ≢ Some (far_port g u p) → Side g s x (far g u p) → Side g s x u

-- a link that is the way of both its ends
pub record RootLink (g : Network) (s : Forest) (a j : ℕ) : Type 0 where
  pub at : At g a j
  pub joined : IsJoinedIn g s a j
  pub up : s.up a ≡ Some j
  pub up_beyond : s.up (far g a j) ≡ Some (far_port g a j)

module _ (g : Network) (wired : IsWired g) (s : Forest) where
  pub turned : (a j : ℕ) → RootLink g s a j → RootLink g s (far g a j) (far_port g a j)
  turned a j r = record {
    at = wired.there a j r.at;
    joined = record {
      here = r.joined.there;
      there = subst₂ (λ x y. s.branch x y ≡ true) (sym (wired.back a j r.at)) (sym (wired.back_port a j r.at)) r.joined.here;
    };
    up = r.up_beyond;
    up_beyond = subst₂ (λ x y. s.up x ≡ Some y) (sym (wired.back a j r.at)) (sym (wired.back_port a j r.at)) r.up;
  }

  -- its end's way is no way to a parent
  no_child : (a j : ℕ) → RootLink g s a j → (u p : ℕ) → u ≡ a → s.up u ≡ Some p → s.up (far g u p) ≢ Some (far_port g u p) → ⊥
  no_child a j r u p e up down =
      let same : p ≡ j = same_Some p j (sym up ∙ ap s.up e ∙ r.up) in
      down (subst₂ (λ x y. s.up (far g x y) ≡ Some (far_port g x y)) (sym e) (sym same) r.up_beyond)

  -- nobody is on both sides of a root link
  pub not_both_sides : (a j : ℕ) → RootLink g s a j → {u : ℕ} → Side g s a u → Side g s (far g a j) u → ⊥
  not_both_sides a j r (Itself e) (Itself e') = wired.apart a j r.at (sym e' ∙ e)
  not_both_sides a j r {u} (Itself e) (Under p at up down t) = no_child a j r u p e up down
  not_both_sides a j r {u} (Under p at up down t) (Itself e') = no_child (far g a j) (far_port g a j) (turned a j r) u p e' up down
  not_both_sides a j r {u} (Under p at up down t) (Under p' at' up' down' t') =
      not_both_sides a j r t (subst (λ q. Side g s (far g a j) (far g u q)) (same_Some p' p (sym up' ∙ up)) t')

-- an outgoing link of this key, on x's side
pub record Tip (g : Network) (w : Scene) (x : ℕ) (k : Key) (f : ℕ) : Type 0 where
  pub node : ℕ
  pub port : ℕ
  pub at : At g node port
  pub key : (port_at g node port).key ≡ k
  pub inside : (w.at node).fragment ≡ f
  pub outside : (w.at (far g node port)).fragment ≢ f
  pub side : Side g (forest w) x node

-- who has reported k, its way being its in_branch
pub record Stands (w : Scene) (k : Key) (v : ℕ) : Type 0 where
  pub top : IsAtTop (w.at v)
  pub way : (w.at v).up ≡ (w.at v).head.in_branch
  pub best : best_key (w.at v).head.best ≡ Some k

module _ (g : Network) (wired : IsWired g) (w : Scene) (holds : Invariant g w) (a j : ℕ) (r : RootLink g (forest w) a j) (k : Key) where
  -- no Connect of the fragment is under way
  no_out : (v p : ℕ) →
      At g v p →
      (w.at v).fragment ≡ (w.at a).fragment →
      (w.at v).mark p ≡ Branch →
      is_branch ((w.at (far g v p)).mark (far_port g v p)) ≡ false →
      ⊥
  no_out v p at same here away =
      ⊎_elim
      (λ h.
      let z : true ≡ false =
      sym (subst₂ (λ x y. is_branch ((w.at (far g x y)).mark (far_port g x y)) ≡ true) (sym h.0) (sym h.1) r.joined.there) ∙ away in
      cc)
      (λ h. let z : true ≡ false = sym (subst₂ (λ x y. is_branch ((w.at x).mark y) ≡ true) (sym h.0) (sym h.1) r.joined.here) ∙ away in cc)
      (holds.trees.one_root v p a j at r.at (Goes_out (ap is_branch here) away) (Both_ways r.joined r.up r.up_beyond) same)

  -- a node on x's side that has reported k leads to the outgoing link of that key
  abbrev LeadsToTip : ℕ → ℕ → Type 0
  LeadsToTip x v = InNetwork g v → (w.at v).fragment ≡ (w.at a).fragment → Side g (forest w) x v → Stands w k v → Tip g w x k (w.at a).fragment

  bool_is : (b : Bool) → (b ≡ true) ⊎ (b ≡ false)
  bool_is true = inl refl
  bool_is false = inr refl

  some_best : (b : Best) → best_key b ≡ Some k → (q : ℕ) × (b ≡ Some (q, k))
  some_best None e = cc
  some_best (Some (q, l)) e = let same : l ≡ k = same_Some l k e in (q, ap (λ z. Some (q, z)) same)

  step : (x v : ℕ) → ((z : ℕ) → IsChild g (forest w) z v → LeadsToTip x z) → LeadsToTip x v
  step x v below is same side st = go (some_best (w.at v).head.best st.best)
    where
      go : (q : ℕ) × ((w.at v).head.best ≡ Some (q, k)) → Tip g w x k (w.at a).fragment
      go (q, e) = by_mark (mark_is ((w.at v).mark q))
        where
          fits : (q < length (g.ports v)) × ((w.at v).head.in_branch ≢ Some q)
          fits = (holds.nodes v is).best_port q k e

          at : At g v q
          at = record { some = is.some; node = is.node; port = fits.0 }

          at' : At g (far g v q) (far_port g v q)
          at' = wired.there v q at

          own : (w.at v).mark q ≢ Branch → Tip g w x k (w.at a).fragment
          own ne =
              let l = (holds.links v q at).search.find_leads k e st.top ne in
              record { node = v; port = q; at = at; key = sym l.key; inside = same; outside = λ h. l.apart (h ∙ sym same); side = side }

          not_up : (w.at v).up ≢ Some q
          not_up h = fits.1 (sym st.way ∙ h)

          reported : (here : (w.at v).mark q ≡ Branch) → is_branch ((w.at (far g v q)).mark (far_port g v q)) ≡ true → Tip g w x k (w.at a).fragment
          reported here there =
              below (far g v q) child (record { some = at'.some; node = at'.node }) (sym (holds.trees.joined_within v q at joined) ∙ same)
              (Under (far_port g v q) at' up down (subst (λ y. Side g (forest w) x y) (sym (wired.back v q at)) side))
              (record { top = rep.level; way = up ∙ sym rep.in_branch; best = rep.key })
            where
              joined : IsJoinedIn g (forest w) v q
              joined = record { here = ap is_branch here; there = there }

              rep : Reported (tree_end (end g w (far g v q) (far_port g v q))) (Some k)
              rep = (holds.links v q at).search.find_reported k e st.top (record { here = here; there = branch_mark _ there })

              up : (w.at (far g v q)).up ≡ Some (far_port g v q)
              up = ⊎_elim (λ h. absurd (not_up h)) (λ h. h) (holds.trees.joined_lead v q at joined)

              down : (w.at (far g (far g v q) (far_port g v q))).up ≢ Some (far_port g (far g v q) (far_port g v q))
              down h = not_up (subst₂ (λ x y. (w.at x).up ≡ Some y) (wired.back v q at) (wired.back_port v q at) h)

              child : IsChild g (forest w) (far g v q) v
              child = record {
                port = far_port g v q;
                at = at';
                up = up;
                joined = record {
                  here = there;
                  there =
                      subst₂ (λ x y. is_branch ((w.at x).mark y) ≡ true) (sym (wired.back v q at)) (sym (wired.back_port v q at)) (ap is_branch here);
                };
                down = down;
                to = wired.back v q at;
              }

          by_mark : ((w.at v).mark q ≡ Branch) ⊎ ((w.at v).mark q ≢ Branch) → Tip g w x k (w.at a).fragment
          by_mark (inr ne) = own ne
          by_mark (inl here) =
              ⊎_elim (λ there. reported here there) (λ away. absurd (no_out v q at same here away))
              (bool_is (is_branch ((w.at (far g v q)).mark (far_port g v q))))

  pub tip : (x v : ℕ) → Reach g (forest w) v → LeadsToTip x v
  tip x v r' = upwards g (forest w) (LeadsToTip x) (step x) v r'

  -- the two halves of a core don't report one key
  pub no_tie : IsKeyed g → InNetwork g (far g a j) → Stands w k a → Stands w k (far g a j) → ⊥
  no_tie keyed is' here there =
      let b = far g a j in
      let same : (w.at b).fragment ≡ (w.at a).fragment = sym (holds.trees.joined_within a j r.at r.joined) in
      let t = tip a a
      (holds.trees.reached a j (record { some = r.at.some; node = r.at.node }) r.up) (record { some = r.at.some; node = r.at.node }) refl
      (Itself refl) here in
      let t' = tip b b (holds.trees.reached b (far_port g a j) is' r.up_beyond) is' same (Itself refl) there in
      ⊎_elim
      (λ h. not_both_sides g wired (forest w) a j r t.side (subst (λ y. Side g (forest w) b y) (sym h.0) t'.side))
      (λ h. t.outside (ap (λ y. (w.at y).fragment) h.0 ∙ t'.inside))
      (keyed t.node t.port t'.node t'.port t.at t'.at (t.key ∙ sym t'.key))
