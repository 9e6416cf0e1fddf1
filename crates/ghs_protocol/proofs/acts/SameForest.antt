-- What an act that leaves the fragments' forest owes.
use Rattle.std.proofs.Common.{◌≡◌, ◌≢◌, ℕ, false, Some, refl, sym, ◌∙◌, ap, ap₂, subst, subst₂, ⊎_elim, length}
use Rattle.std.proofs.Math.Path.{fun_ext}
use Rattle.std.proofs.lemmas.Bool.{cases_eq}
use Rattle.ghs_graph.specs.declared.key.Key.{Key}
use Rattle.ghs_node.specs.declared.mark.Mark.{Mark}
use Rattle.ghs_node.specs.declared.mark.Mark.TheVariants.{Branch, Basic, Rejected}
use Rattle.ghs_node.specs.Words.{is_branch, Outgoing}
use Rattle.ghs_node.specs.declared.message.Phase.TheVariants.{Sleeping, Found}
use Rattle.peer_network.specs.Network.{Network, port_at, At, far, far_port, InNetwork}
use Rattle.peer_network.proofs.lemmas.Wired.{IsWired}
use Rattle.peer_network.specs.Updates.{put}
use Rattle.ghs_protocol.specs.Steps.{sent_on}
use Rattle.peer_network.proofs.lemmas.Updates.{put_same, put_other, put_alike}
use Rattle.peer_network.proofs.lemmas.Sums.{sum_same}
use Rattle.peer_network.specs.Sums.{sum_below}
use Rattle.ghs_protocol.proofs.clauses.Scene.{Seen, adds, Member, Scene, End, end, Forest, forest, acts, far_end}
use Rattle.ghs_protocol.proofs.clauses.Changes.{seen_beyond}
use Rattle.ghs_protocol.proofs.clauses.Nodes.{NodeFits}
use Rattle.ghs_protocol.proofs.clauses.Whole.{LinkFits, Invariant, NamesOf}
use Rattle.ghs_protocol.proofs.clauses.Fragments.{Names, ForestFits}
use Rattle.ghs_protocol.proofs.clauses.Rest.{Quiet, Resting, has_call, debt, debts, DebtsCounted}
use Rattle.ghs_protocol.proofs.acts.Ends.{here_end_is, far_end_is, other_end_is, acts_keeps}
-- for those who know branches by this file
pub use Rattle.ghs_node.proofs.lemmas.{branch_mark}

-- the same in what fragments are read off
pub record Alike (m x : Member) : Type 0 where
  pub fragment : x.fragment ≡ m.fragment
  pub coming : x.coming ≡ m.coming
  pub coming_name : x.coming_name ≡ m.coming_name
  pub up : x.up ≡ m.up
  pub branch : (p : ℕ) → is_branch (x.mark p) ≡ is_branch (m.mark p)

pub mark_branch : (m : Mark) → is_branch m ≡ false → m ≢ Branch
mark_branch Branch e = cc
mark_branch _ e = λ z. cc

module _ (g : Network) (wired : IsWired g) (u : ℕ) (u_is : InNetwork g u) (x : Member) (own : ℕ → Seen) (ss : Outgoing) (w : Scene) where
  after : Scene
  after = acts g u x own ss w

  -- the ends of u's link i after the act
  abbrev pub near' : ℕ → End
  near' i = record { port = i; key = (port_at g u i).key; mark = (x).mark (i); is = x; seen = own i }

  abbrev pub far' : ℕ → End
  far' i = record (far_end g w u i) { seen = adds (seen_beyond g w u i) (sent_on ss i) }

  -- and before, seen from u
  abbrev pub near : ℕ → End
  near i = end g w u i

  pub forest_after : Alike (w.at u) x → forest (acts g u x own ss w) ≡ forest w
  forest_after h =
      λ i. record {
        branch = fun_ext (λ v. fun_ext (λ p. put_alike (λ (m : Member). is_branch (m.mark p)) w.at u x (h.branch p) v)) i;
        fragment = fun_ext (put_alike (λ (m : Member). m.fragment) w.at u x h.fragment) i;
        coming = fun_ext (put_alike (λ (m : Member). m.coming) w.at u x h.coming) i;
        coming_name = fun_ext (put_alike (λ (m : Member). m.coming_name) w.at u x h.coming_name) i;
        up = fun_ext (put_alike (λ (m : Member). m.up) w.at u x h.up) i;
      }

  pub node_after : (P : ℕ → Member → Type 0) →
      ((v : ℕ) → InNetwork g v → P (length (g.ports v)) (w.at v)) →
      P (length (g.ports u)) x →
      (v : ℕ) → InNetwork g v →
      P (length (g.ports v)) ((acts g u x own ss w).at v)
  node_after P before here v is =
      ⊎_elim (λ (e : v ≡ u).
      subst (λ y. P (length (g.ports y)) (put w.at u x y)) (sym e) (subst (P (length (g.ports u))) (sym (put_same w.at u x)) here))
      (λ ne. subst (P (length (g.ports v))) (sym (put_other w.at u v x ne)) (before v is))
      (cases_eq v u)

  -- a quiet fragment stays so
  pub quiet_after : (a : ℕ) →
      Quiet g w a →
      (x.fragment ≡ a → x.head.phase ≡ Found) →
      ((i : ℕ) → At g u i → x.fragment ≡ a → has_call (own i).tree ≡ false) →
      ((i : ℕ) → At g u i → (w.at (far g u i)).fragment ≡ a → has_call (adds (seen_beyond g w u i) (sent_on ss i)).tree ≡ false) →
      Quiet g (acts g u x own ss w) a
  quiet_after a q found mine theirs = record {
    found = node_after (λ n m. m.fragment ≡ a → m.head.phase ≡ Found) q.found found;
    uncalled = acts_keeps g wired u u_is.some u_is.node x own ss w (λ e f. e.is.fragment ≡ a → has_call e.seen.tree ≡ false) q.uncalled mine theirs;
  }

  -- find_count, where only u's own sum changes
  pub sums_after :
      DebtsCounted g w →
      x.head.find_count ≡ sum_below (length (g.ports u)) (λ i. debt (near' i) (far' i)) →
      ((i : ℕ) → At g u i → debt (far' i) (near' i) ≡ debt (far_end g w u i) (near i)) →
      DebtsCounted g (acts g u x own ss w)
  sums_after counted mine theirs v is = ⊎_elim here away (cases_eq v u)
    where
      w' : Scene
      w' = acts g u x own ss w

      here : v ≡ u → (w'.at v).head.find_count ≡ debts g w' v
      here e =
          subst (λ y. (w'.at y).head.find_count ≡ debts g w' y) (sym e)
          (ap (λ (m : Member). m.head.find_count) (put_same w.at u x) ∙ mine ∙
          sum_same (length (g.ports u)) _ _ (λ i lt.
          let at : At g u i = record { some = u_is.some; node = u_is.node; port = lt } in
          sym (ap₂ debt (here_end_is g wired u u_is.some u_is.node x own ss w i) (far_end_is g wired u u_is.some u_is.node x own ss w i at))))

      term :
          v ≢ u →
          (p : ℕ) → At g v p →
          debt (end g w v p) (end g w (far g v p) (far_port g v p)) ≡ debt (end g w' v p) (end g w' (far g v p) (far_port g v p))
      term ne p at = ⊎_elim toward beside (cases_eq (far g v p) u)
        where
          toward :
              far g v p ≡ u →
              debt (end g w v p) (end g w (far g v p) (far_port g v p)) ≡ debt (end g w' v p) (end g w' (far g v p) (far_port g v p))
          toward e =
              let i = far_port g v p in
              let at' : At g u i = subst (λ y. At g y i) e (wired.there v p at) in
              let b : far g u i ≡ v = ap (λ y. far g y i) (sym e) ∙ wired.back v p at in
              let b' : far_port g u i ≡ p = ap (λ y. far_port g y i) (sym e) ∙ wired.back_port v p at in
              let back : end g w (far g u i) (far_port g u i) ≡ far_end g w u i = λ k. record {
                port = far_port g u i;
                key = wired.same_key u i at' k;
                mark = (w.at (far g u i)).mark (far_port g u i);
                is = w.at (far g u i);
                seen = seen_beyond g w u i;
              } in
              let both : debt (end g w (far g u i) (far_port g u i)) (end g w u i) ≡ debt (end g w' (far g u i) (far_port g u i)) (end g w' u i) =
              ap (λ (z : End). debt z (end g w u i)) back ∙ sym (theirs i at') ∙
              sym (ap₂ debt (far_end_is g wired u u_is.some u_is.node x own ss w i at') (here_end_is g wired u u_is.some u_is.node x own ss w i)) in
              subst
              (λ y. debt (end g w v p) (end g w y i) ≡ debt (end g w' v p) (end g w' y i))
              (sym e)
              (subst₂ (λ y z. debt (end g w y z) (end g w u i) ≡ debt (end g w' y z) (end g w' u i)) b b' both)

          beside :
              far g v p ≢ u →
              debt (end g w v p) (end g w (far g v p) (far_port g v p)) ≡ debt (end g w' v p) (end g w' (far g v p) (far_port g v p))
          beside ne' =
              sym (ap₂ debt (other_end_is g wired u u_is.some u_is.node x own ss w v p at ne ne')
              (other_end_is g wired u u_is.some u_is.node x own ss w _ _ (wired.there v p at) ne' (λ y. ne (sym (wired.back v p at) ∙ y))))

      away : v ≢ u → (w'.at v).head.find_count ≡ debts g w' v
      away ne =
          ap (λ (m : Member). m.head.find_count) (put_other w.at u v x ne) ∙ counted v is ∙
          sum_same (length (g.ports v)) _ _ (λ p lt. term ne p (record { some = is.some; node = is.node; port = lt }))

  -- all together
  pub kept_after :
      Invariant g w →
      Alike (w.at u) x →
      NodeFits (length (g.ports u)) x →
      ((i : ℕ) → At g u i → LinkFits (NamesOf g w) (near' i) (far' i)) →
      ((i : ℕ) → At g u i → LinkFits (NamesOf g w) (far' i) (near' i)) →
      (x.head.phase ≡ Sleeping → (w.at u).head.phase ≡ Sleeping) →
      ((k : Key) → x.head.name ≡ Some k → Names g (forest w) x.fragment k) →
      Resting g (acts g u x own ss w) →
      DebtsCounted g (acts g u x own ss w) →
      Invariant g (acts g u x own ss w)
  unfolding after
  kept_after holds alike node link link' awake named resting counted = record {
    nodes = node_after NodeFits holds.nodes node;
    trees = subst (ForestFits g) (sym forests) holds.trees;
    links =
        subst
        (λ (s : Forest). (v p : ℕ) → At g v p → LinkFits (Names g s) (end g after v p) (end g after (far g v p) (far_port g v p)))
        (sym forests)
        (acts_keeps g wired u u_is.some u_is.node x own ss w (LinkFits (NamesOf g w)) holds.links link link');
    alone = λ v t iv it asleep same. holds.alone v t iv it (slept v asleep) (sym (frags t) ∙ same ∙ frags v);
    named =
        subst
        (λ (s : Forest). (v : ℕ) → (k : Key) → InNetwork g v → (after.at v).head.name ≡ Some k → Names g s (after.at v).fragment k)
        (sym forests) (λ v k is e.
        node_after (λ n m. (m.head.name ≡ Some k → Names g (forest w) m.fragment k)) (λ v' is'. holds.named v' k is') (named k) v is e);
    resting = resting;
    counted = counted;
  }
    where
      forests : forest after ≡ forest w
      forests = forest_after alike

      frags : (v : ℕ) → (after.at v).fragment ≡ (w.at v).fragment
      frags v = put_alike (λ (m : Member). m.fragment) w.at u x alike.fragment v

      slept : (v : ℕ) → (after.at v).head.phase ≡ Sleeping → (w.at v).head.phase ≡ Sleeping
      slept v e =
          ⊎_elim (λ (h : v ≡ u).
          subst (λ y. (w.at y).head.phase ≡ Sleeping) (sym h)
          (awake (ap (λ (m : Member). m.head.phase) (sym (put_same w.at u x)) ∙ subst (λ y. (after.at y).head.phase ≡ Sleeping) h e)))
          (λ ne. ap (λ (m : Member). m.head.phase) (sym (put_other w.at u v x ne)) ∙ e)
          (cases_eq v u)

pub not_branch : (k : Mark) → k ≢ Branch → is_branch k ≡ false
not_branch Basic ne = refl
not_branch Branch ne = absurd (ne refl)
not_branch Rejected ne = refl
