-- What floors say of marks: Branch links are the tree's, Rejected ones aren't, and who has halted has the whole tree.
use Rattle.std.proofs.Common.{◌≡◌, ℕ, ◌≤◌, ◌<◌, true, List, refl, sym, ◌∙◌, ap, subst, subst₂, ⊎_elim, arith}
use Rattle.std.specs.List.{Contains}
use Rattle.std.proofs.lemmas.Option.{slice_get_within, get_or_from_slice_get}
use Rattle.ghs_graph.specs.declared.key.Key.{Key}
use Rattle.ghs_graph.specs.Key.{key_lt}
use Rattle.ghs_graph.specs.Graph.{Shape, IsGraph}
use Rattle.ghs_graph.specs.Links.{Joined, Same, Over as Along, Back, links, links_below, InTree, IsTree}
use Rattle.ghs_graph.specs.Laws.{links_but}
use Rattle.ghs_graph.specs.Ports.{port_number, port_on, ports_of, no_port}
use Rattle.ghs_graph.proofs.lemmas.Joining.{joined_back}
use Rattle.ghs_graph.proofs.lemmas.Computing.{tree, tree_is}
use Rattle.ghs_graph.proofs.lemmas.Forests.{none_is_spare}
use Rattle.ghs_graph.proofs.lemmas.Ports.{links_have_two_ports, among_at, far_end_a}
use Rattle.ghs_node.specs.Words.{is_branch}
use Rattle.ghs_node.specs.declared.mark.Mark.TheVariants.{Branch, Rejected}
use Rattle.peer_network.specs.Network.{Network, network_of, port_at, At, far, far_port, InNetwork}
use Rattle.ghs_protocol.specs.Marks.{Leads, Here, Over}
use Rattle.ghs_protocol.proofs.clauses.Scene.{Scene, forest}
use Rattle.ghs_protocol.proofs.clauses.Fragments.{IsJoinedIn}
use Rattle.ghs_protocol.proofs.clauses.Whole.{Invariant}
use Rattle.ghs_protocol.proofs.clauses.Floors.{Floor, Floors}
use Rattle.peer_network.proofs.lemmas.Graphs.{graph_wired, graph_keyed, is_key, port_ends}
use Rattle.ghs_protocol.proofs.lemmas.Fragments.{leads_on, leads_back}
use Rattle.ghs_protocol.proofs.search.FirstReport.{mark_is}
use Rattle.ghs_protocol.proofs.rows.Link.{link_fits}
use Rattle.ghs_node.proofs.lemmas.{branch_mark}

module _ (s : Shape) (ok : IsGraph s) where
  abbrev g : Network
  g = network_of s

  among : (k : Key) → Contains s.keys k → (1 ≤ k.a) × (k.a < k.b) × (k.b ≤ s.nodes)
  among k h = subst (λ (x : Key). (1 ≤ x.a) × (x.a < x.b) × (x.b ≤ s.nodes)) h.2 (among_at s.nodes s.keys h.0 k ok.among h.1)

  -- the port of a link at its smaller end
  pub at_a : (k : Key) → Contains s.keys k → At g k.a (port_number s.keys k.a k)
  at_a k h =
      let z = among k h in
      record {
        some = z.0;
        node = (let a = z.1 in let b = z.2 in omega (arith, a, b));
        port = slice_get_within (ports_of s.keys k.a) (port_number s.keys k.a k) _ (links_have_two_ports s ok k h).at_a;
      }

  is_port : (k : Key) → (h : Contains s.keys k) → port_at g k.a (port_number s.keys k.a k) ≡ port_on s.keys k.a k
  is_port k h = get_or_from_slice_get (ports_of s.keys k.a) (port_number s.keys k.a k) _ no_port (links_have_two_ports s ok k h).at_a

  pub key_there : (k : Key) → (h : Contains s.keys k) → (port_at g k.a (port_number s.keys k.a k)).key ≡ k
  key_there k h = ap (λ p. p.key) (is_port k h)

  pub far_there : (k : Key) → (h : Contains s.keys k) → far g k.a (port_number s.keys k.a k) ≡ k.b
  far_there k h = ap (λ p. p.far) (is_port k h) ∙ far_end_a k

  -- a way over links is a way over their ports
  module _ (T : Key → Type 0) (S : ℕ → ℕ → Type 0) (has : (k : Key) → T k → Contains s.keys k)
      (to : (v p : ℕ) → At g v p → T (port_at g v p).key → S v p) (both : (v p : ℕ) → At g v p → S v p → S (far g v p) (far_port g v p)) where
    step : (k : Key) → T k → Leads g S k.a k.b
    step k t =
        let h = has k t in
        subst (Leads g S k.a) (far_there k h)
        (Over (port_number s.keys k.a k) (at_a k h) (to k.a (port_number s.keys k.a k) (at_a k h) (subst T (sym (key_there k h)) t)) Here)

    pub join_leads : {a b : ℕ} → Joined T a b → Leads g S a b
    join_leads Same = Here
    join_leads (Along k t w) = leads_on g (step k t) (join_leads w)
    join_leads (Back k t w) = leads_on g (leads_back g (graph_wired s ok) both (step k t)) (join_leads w)

  -- and back
  pub leads_join : (T : Key → Type 0) (S : ℕ → ℕ → Type 0) →
      ((v p : ℕ) → At g v p → S v p → T (port_at g v p).key) →
      {a b : ℕ} → Leads g S a b →
      Joined T a b
  leads_join T S from Here = Same
  leads_join T S from {a} {b} (Over p at x w) = onward (leads_join T S from w)
    where
      k : Key
      k = (port_at g a p).key

      onward : Joined T (far g a p) b → Joined T a b
      onward rest =
          ⊎_elim (λ e. subst (λ y. Joined T y b) (sym e.0) (Along k (from a p at x) (subst (λ y. Joined T y b) e.1 rest)))
          (λ e. subst (λ y. Joined T y b) (sym e.0) (Back k (from a p at x) (subst (λ y. Joined T y b) e.1 rest))) (port_ends s ok a p at)

  -- the graph's minimum spanning forest
  abbrev forest_of : List Key
  forest_of = tree s.keys

  is_forest : IsTree s.keys forest_of
  is_forest = tree_is s.keys ok.rising

  module _ (w : Scene) (holds : Invariant (network_of s) w) (floor : ℕ → Floor) (floors : Floors (network_of s) w floor) where
    joined_back_in : (v p : ℕ) → At g v p → IsJoinedIn g (forest w) v p → IsJoinedIn g (forest w) (far g v p) (far_port g v p)
    joined_back_in v p at j = record {
      here = j.there;
      there =
          subst₂ (λ a b. is_branch ((w.at a).mark b) ≡ true) (sym ((graph_wired s ok).back v p at)) (sym ((graph_wired s ok).back_port v p at))
          j.here;
    }

    -- each Branch link is one of the tree
    pub branch_in_tree : (v p : ℕ) → At g v p → (w.at v).mark p ≡ Branch → InTree s.keys (port_at g v p).key
    branch_in_tree v p at m = (
      is_key s ok v p at,
      λ way. ⊎_elim
          (λ e. floors.in_tree v p at m (subst₂ (Leads g S) (sym e.0) (sym e.1) (small way)))
          (λ e. floors.in_tree v p at m (subst₂ (Leads g S) (sym e.0) (sym e.1) (leads_back g (graph_wired s ok) turn (small way))))
          (port_ends s ok v p at),
    )
      where
        S : ℕ → ℕ → Type 0
        S a b = key_lt (port_at (network_of s) a b).key (port_at (network_of s) v p).key ≡ true

        turn : (a b : ℕ) → At g a b → S a b → S (far g a b) (far_port g a b)
        turn a b at' e = subst (λ (k : Key). key_lt k (port_at g v p).key ≡ true) (sym ((graph_wired s ok).same_key a b at')) e

        small : {a b : ℕ} → Joined (links_below s.keys (port_at g v p).key) a b → Leads g S a b
        small way =
            join_leads (links_below s.keys (port_at g v p).key) (λ a b. key_lt (port_at g a b).key (port_at g v p).key ≡ true) (λ k t. t.0)
            (λ a b at' t. t.1) turn way

    -- the ends of a link that isn't joined, but lies inside a fragment, are joined by others of the tree
    spared : (v p : ℕ) →
        At g v p →
        (IsJoinedIn g (forest w) v p → ⊥) →
        (w.at v).fragment ≡ (w.at (far g v p)).fragment →
        InTree s.keys (port_at g v p).key →
        ⊥
    spared v p at apart same tree =
        ⊎_elim (λ e. spare (subst₂ (Joined T) e.0 e.1 way)) (λ e. spare (joined_turned (subst₂ (Joined T) e.0 e.1 way))) (port_ends s ok v p at)
      where
        k : Key
        k = (port_at (network_of s) v p).key

        T : Key → Type 0
        T = links_but forest_of k

        spare : Joined (links_but forest_of k) (port_at g v p).key.a (port_at g v p).key.b → ⊥
        spare = none_is_spare s.keys forest_of is_forest (port_at g v p).key (is_forest.all _ tree)

        joined_turned : {a b : ℕ} → Joined T a b → Joined T b a
        joined_turned x = joined_back x

        from : (a b : ℕ) → At g a b → IsJoinedIn g (forest w) a b → T (port_at g a b).key
        from a b at' j = (
          is_forest.all _ (branch_in_tree a b at' (branch_mark _ j.here)),
          λ e. ⊎_elim (λ z. apart (subst₂ (λ x y. IsJoinedIn g (forest w) x y) z.0 z.1 j))
              (λ z. apart (subst₂ (λ x y. IsJoinedIn g (forest w) x y) z.0 z.1 (joined_back_in a b at' j)))
              (graph_keyed s ok a b v p at' at e),
        )

        way : Joined T v (far g v p)
        way =
            let t = (graph_wired s ok).there v p at in
            leads_join T (IsJoinedIn g (forest w)) from
            (holds.trees.connected v (far g v p) (record { some = at.some; node = at.node }) (record { some = t.some; node = t.node }) same)

    -- no Rejected link is one of the tree
    pub rejected_aside : (v p : ℕ) → At g v p → (w.at v).mark p ≡ Rejected → InTree s.keys (port_at g v p).key → ⊥
    rejected_aside v p at m =
        spared v p at (λ j. let z = branch_mark _ j.here in cc (z, m))
        ((link_fits g (graph_wired s ok) w holds v p at).search.rejected_inside m)

    -- who has halted: all of its component is its fragment
    module _ (v : ℕ) (is : InNetwork g v) (halts : (w.at v).head.halted ≡ true) where
      reached : {a b : ℕ} → Leads g (λ x y. x ≡ x) a b → (w.at a).fragment ≡ (w.at v).fragment → (w.at b).fragment ≡ (w.at v).fragment
      reached Here e = e
      reached {a} (Over p at x l) e = reached l (floors.halted v a p is halts at e)

      pub component : (x : ℕ) → Joined (links s.keys) v x → (w.at x).fragment ≡ (w.at v).fragment
      component x way = reached (join_leads (links s.keys) (λ a b. a ≡ a) (λ k t. t) (λ a b at t. refl) (λ a b at e. refl) way) refl

      -- its Branch links are joined
      pub branch_is_joined : (t p : ℕ) → At g t p → Joined (links s.keys) v t → (w.at t).mark p ≡ Branch → IsJoinedIn g (forest w) t p
      branch_is_joined t p at way m =
          ⊎_elim (λ b. record { here = ap is_branch m; there = ap is_branch b })
          (λ b.
          absurd (((link_fits g (graph_wired s ok) w holds t p at).tree.out_connect (record { here = m; there = b })).apart
          (floors.halted v t p is halts at (component t way) ∙ sym (component t way))))
          (mark_is ((w.at (far g t p)).mark (far_port g t p)))

      -- and the links of its tree are
      pub tree_is_joined : (t p : ℕ) → At g t p → Joined (links s.keys) v t → InTree s.keys (port_at g t p).key → IsJoinedIn g (forest w) t p
      tree_is_joined t p at way tree =
          ⊎_elim (λ b. branch_is_joined t p at way b)
          (λ b.
          absurd (spared t p at (λ j. b (branch_mark _ j.here)) (component t way ∙ sym (floors.halted v t p is halts at (component t way))) tree))
          (mark_is ((w.at t).mark p))
