-- A class has one root; a node of it has one way up, over one port, and the root none; and one least key leaves from a node or below it.
use Rattle.std.proofs.Common.{◌≡◌, ℕ, ⊎_elim, sym, ◌∙◌, subst}
use Rattle.ghs_graph.specs.declared.key.Key.{Key}
use Rattle.ghs_graph.specs.Graph.{Shape, IsGraph}
use Rattle.peer_network.specs.Network.{network_of, At, port_at}
use Rattle.peer_network.proofs.lemmas.Graphs.{graph_wired, graph_keyed, same_key}
use Rattle.boruvka_protocol.specs.Levels.{Taken, IsOfLevel}
use Rattle.boruvka_protocol.specs.WaysUp.{IsTop, IsUp, IsSub}
use Rattle.boruvka_protocol.proofs.lemmas.WaysUp.{classes_have_one_top, others_have_one_way_up, tops_have_no_way_up}
use Rattle.boruvka_protocol.proofs.invariant.Words.{IsRoot, IsWayUp, IsSubAt}

module _ (g : Shape) (ok : IsGraph g) where
  pub one_root : (l v r s : ℕ) → IsOfLevel g.keys l v → IsTop g.keys l v r → IsTop g.keys l v s → r ≡ s
  one_root l v r s proper a b = let t = classes_have_one_top g ok l v proper in t.3 r a ∙ sym (t.3 s b)

  pub root_has_none : {P : Type 0} (l v : ℕ) (k : Key) → IsOfLevel g.keys l v → IsRoot g.keys l v → IsWayUp g.keys l v k → P
  root_has_none l v k proper root a =
      let same : v ≡ a.root = one_root l v v a.root proper root a.top in
      absurd (tops_have_no_way_up g ok l v a.root a.top k (subst (λ x. IsUp (Taken g.keys l) a.root x k) same a.up))

  pub one_way_up : (l v : ℕ) (j k : Key) → IsOfLevel g.keys l v → IsWayUp g.keys l v j → IsWayUp g.keys l v k → j ≡ k
  one_way_up l v j k proper a b = one.2 j a.up ∙ sym (one.2 k (subst (λ r. IsUp (Taken g.keys l) r v k) same b.up))
    where
      same : b.root ≡ a.root
      same = one_root l v b.root a.root proper b.top a.top

      not_top : v ≡ a.root → ⊥
      not_top e = tops_have_no_way_up g ok l v a.root a.top j (subst (λ x. IsUp (Taken g.keys l) a.root x j) e a.up)

      one : (i : Key) × IsUp (Taken g.keys l) a.root v i × ((h : Key) → IsUp (Taken g.keys l) a.root v h → h ≡ i)
      one = others_have_one_way_up g ok l v a.root a.top not_top

  pub one_sub : (l v : ℕ) (j k : Key) → IsOfLevel g.keys l v → IsSubAt g.keys l v j → IsSubAt g.keys l v k → j ≡ k
  one_sub l v j k proper a b = same_key j k (b'.least j a.sub.is) (a.sub.least k b'.is)
    where
      b' : IsSub g.keys (Taken g.keys l) a.root v k
      b' = subst (λ x. IsSub g.keys (Taken g.keys l) x v k) (one_root l v b.root a.root proper b.top a.top) b.sub

  -- links of one node with one key stand at one port
  pub one_port : (v p q : ℕ) → At (network_of g) v p → At (network_of g) v q →
      (port_at (network_of g) v p).key ≡ (port_at (network_of g) v q).key → p ≡ q
  one_port v p q at at' e =
      ⊎_elim (λ x. x.1) (λ x. absurd ((graph_wired g ok).apart v p at x.0)) (graph_keyed g ok v p v q at at' e)

  -- so two ports that are ways up are one
  pub one_port_up : (l v p q : ℕ) → IsOfLevel g.keys l v → At (network_of g) v p → At (network_of g) v q →
      IsWayUp g.keys l v (port_at (network_of g) v p).key → IsWayUp g.keys l v (port_at (network_of g) v q).key → p ≡ q
  one_port_up l v p q proper at at' a b = one_port v p q at at' (one_way_up l v _ _ proper a b)

  -- at level 0 nothing is taken
  pub no_way_at_ground : {P : Type 0} (l v : ℕ) (k : Key) → ◌≡◌ {A = ℕ} l 0 → IsWayUp g.keys l v k → P
  no_way_at_ground l v k z a = absurd (subst (λ x. Taken g.keys x k) z a.up.link)
