-- A search ends where nothing is missing: what its node knows is the least key that leaves the class from it or below it.
use Rattle.std.proofs.Common.{◌≡◌, ℕ, ◌<◌, ◌≤◌, inl, inr, ⊎_elim, true, false, Option, None, Some, List, refl, sym, ◌∙◌, ap, subst, cond, arith}
use Rattle.std.proofs.lemmas.Bool.{cases_eq, cases_Bool, both_ways, false_from_ne_true}
use Rattle.ghs_graph.specs.declared.key.Key.{Key}
use Rattle.ghs_graph.specs.Graph.{Shape, IsGraph}
use Rattle.ghs_graph.specs.Key.{key_lt, ends_at}
use Rattle.ghs_graph.specs.Links.{Joined, Same}
use Rattle.ghs_graph.specs.Ports.{far_end}
use Rattle.ghs_graph.proofs.lemmas.Joining.{joined_back}
use Rattle.ghs_graph.proofs.lemmas.Keys.{lt_irreflexive, lt_asymmetric}
use Rattle.ghs_graph.proofs.lemmas.Ports.{end_cases, far_end_a, far_end_b}
use Rattle.boruvka_protocol.specs.Levels.{Leaves, Taken, InClass}
use Rattle.boruvka_protocol.specs.WaysUp.{IsTop, IsUp, LeavesBelow, IsSub, IsOffered, Own, From_child}
use Rattle.boruvka_protocol.proofs.lemmas.Cuts.{taken_in_tree}
use Rattle.boruvka_protocol.proofs.lemmas.KeyOrder.{not_below_less, less_through}
use Rattle.boruvka_protocol.proofs.lemmas.WaysUp.{top_at, classes_have_one_top, nodes_have_one_sub, subs_are_of_children}
use Rattle.ghs_node.specs.Words.{Best, better}
use Rattle.peer_network.specs.Network.{Network, network_of, InNetwork, At, port_at, far, far_port}
use Rattle.peer_network.proofs.lemmas.Graphs.{port_ends, is_key, link_among, graph_rising}
use Rattle.peer_machine.specs.Net.{Net}
use Rattle.boruvka_node.specs.declared.head.Head.{Head}
use Rattle.boruvka_node.specs.declared.mark.Mark.TheVariants.{Branch}
use Rattle.boruvka_node.specs.declared.message.Message.{Message}
use Rattle.boruvka_node.specs.declared.message.Phase.TheVariants.{Search}
use Rattle.boruvka_node.specs.Words.{is_basic}
use Rattle.boruvka_node.specs.State.{State, mark_at, missing, least_basic}
use Rattle.boruvka_node.specs.Reaction.{own_best}
use Rattle.boruvka_protocol.proofs.invariant.Words.{IsWayUp, IsSubAt}
use Rattle.boruvka_protocol.proofs.invariant.Sides.{at_port, calls_in}
use Rattle.boruvka_protocol.proofs.invariant.Nodes.{NodeFits}
use Rattle.boruvka_protocol.proofs.invariant.Children.{HasReported}
use Rattle.boruvka_protocol.proofs.invariant.Search as heard
use Rattle.boruvka_protocol.proofs.invariant.Search.{HasChild, HasHeard, BestIsHeard, LeadsTo, By_child, BestIsSub, IsSearching}
use Rattle.boruvka_protocol.proofs.invariant.Whole.{NearlyFits}
use Rattle.boruvka_protocol.proofs.rows.Leaving.{AreEnds, joined_ends, end_there, far_back, not_taken, not_joined}
use Rattle.boruvka_protocol.proofs.rows.Late.{search_rest}
use Rattle.boruvka_protocol.proofs.rows.ClosingLinks.{taken_branch, child_heard}
use Rattle.boruvka_protocol.proofs.rows.OwnPorts.{own_key}
use Rattle.boruvka_protocol.proofs.rows.ClosingBest.{paid_at, heard_there, FirstIs, first_basic, port_with}
use Rattle.boruvka_protocol.proofs.follows.Cases.{mark_cases}

-- A link that leaves, by its ends.

ends_swapped : (v u : ℕ) (k : Key) → AreEnds v u k → AreEnds u v k
ends_swapped v u k ends = ⊎_elim (λ e. inr (e.1, e.0)) (λ e. inl (e.1, e.0)) ends

leaves_from : {S : Key → Type 0} (v u : ℕ) (k : Key) → AreEnds v u k → (Joined S v u → ⊥) → Leaves S v k
leaves_from {S} v u k ends out = ⊎_elim
    (λ e. inl (subst (λ x. Joined S v x) e.0 Same, λ j. out (subst (λ x. Joined S v x) (sym e.1) j)))
    (λ e. inr (subst (λ x. Joined S v x) e.0 Same, λ j. out (subst (λ x. Joined S v x) (sym e.1) j)))
    ends

-- the far end of a link that ends at u
ends_by_far : (u v : ℕ) (j : Key) → j.a < j.b → ends_at u j ≡ true → far_end u j ≡ v → AreEnds u v j
ends_by_far u v j lt e far_is = ⊎_elim
    (λ x. inl (x, sym far_is ∙ ap (λ z. far_end z j) x ∙ far_end_a j))
    (λ x. inr (x, sym far_is ∙ ap (λ z. far_end z j) x ∙ far_end_b j lt))
    (end_cases u j e)

module _ (gr : Shape) (ok : IsGraph gr) (w : Net State Message) (v : ℕ) (fits : NearlyFits gr.keys (network_of gr) w v)
    (here : InNetwork (network_of gr) v) (search : (w.node v).head.phase ≡ Search) (none : ◌≡◌ {A = ℕ} (missing (w.node v)) 0) where
  abbrev g : Network
  g = network_of gr

  abbrev n : State
  n = w.node v

  abbrev l : ℕ
  l = n.head.level

  abbrev S : Key → Type 0
  S k = Taken gr.keys l k

  abbrev fars : ℕ → Head
  fars p = (w.node (far g v p)).head

  abbrev queues : ℕ → List Message
  queues p = w.queue v p

  abbrev key : ℕ → Key
  key p = (port_at g v p).key

  pub node_here : NodeFits gr.keys v n
  node_here = fits.nodes v here (λ s. cc (search, s))

  pub level_lo : 1 ≤ l
  level_lo = ⊎_elim (λ z. search_rest n.head.phase search (node_here.ground z).rest) (λ ne. omega (arith, ne)) (cases_eq l 0)

  searching : IsSearching gr.keys g v n fars queues
  searching = (fits.search v here).search search

  pub ends_of : (p : ℕ) → At g v p → AreEnds v (far g v p) (key p)
  ends_of p at = port_ends gr ok v p at

  ordered : (k : Key) → S k → k.a < k.b
  ordered k s = (link_among gr ok k (taken_in_tree gr.keys l k s).0).1

  pub branch_of : (p : ℕ) → At g v p → S (key p) → mark_at n p ≡ Branch
  branch_of p at t = taken_branch gr.keys g v p None false (at_port n p) (at_port (w.node (far g v p)) (far_port g v p)) (w.queue v p)
      (w.queue (far g v p) (far_port g v p)) (w.queue (far g v p) (far_port g v p)) (fits.links v p at) search searching.stays level_lo
      (paid_at n none p) (heard_there n none p) (ends_of p at) t

  pub reported_of : (p : ℕ) → At g v p → IsWayUp gr.keys l (far g v p) (key p) → HasReported l (fars p).level (fars p).phase (calls_in (queues p))
  reported_of p at up = child_heard gr.keys g v p None false (at_port n p) (at_port (w.node (far g v p)) (far_port g v p)) (w.queue v p)
      (w.queue (far g v p) (far_port g v p)) (w.queue (far g v p) (far_port g v p)) (fits.links v p at) search searching.stays level_lo
      (paid_at n none p) (heard_there n none p) (ends_of p at) up

  -- The class's root, of all its nodes.

  abbrev top : (r : ℕ) × IsTop gr.keys l v r × InClass gr.keys l v r × ((s : ℕ) → IsTop gr.keys l v s → s ≡ r)
  top = classes_have_one_top gr ok l v node_here.class

  abbrev root : ℕ
  root = top.0

  root_of : (u : ℕ) → InClass gr.keys l v u → IsTop gr.keys l u root
  root_of u way = top_at gr.keys l v u root way top.1

  root_is : (u s : ℕ) → InClass gr.keys l v u → IsTop gr.keys l u s → s ≡ root
  root_is u s way t = top.3 s (top_at gr.keys l u v s (joined_back way) t)

  abbrev Offered : Key → Type 0
  Offered k = IsOffered gr.keys S root v k

  abbrev Leads : ℕ → Key → Type 0
  Leads p k = LeadsTo gr.keys g v n fars queues p k

  -- what a port leads to is offered
  own_offered : (p : ℕ) → At g v p → is_basic (mark_at n p) ≡ true → Offered (key p)
  own_offered p at basic = Own (is_key gr ok v p at) (end_there (far g v p) v (key p) (ends_swapped v (far g v p) (key p) (ends_of p at)))
      (leaves_from v (far g v p) (key p) (ends_of p at) ((fits.links v p at).marks.leads_out basic level_lo (heard_there n none p basic)))

  child_offered : (p : ℕ) (k : Key) → HasChild gr.keys g v n fars queues p → IsSubAt gr.keys l (far g v p) k → Offered k
  child_offered p k c sub =
      From_child (far g v p) (key p) (subst (λ x. IsUp S x (far g v p) (key p)) (root_is (far g v p) c.child.root way c.child.top) c.child.up)
      (far_back v (far g v p) (key p) (ordered (key p) c.child.up.link) (ends_of p c.at))
      (subst (λ x. IsSub gr.keys S x (far g v p) k) (root_is (far g v p) sub.root way sub.top) sub.sub)
    where
      way : InClass gr.keys l v (far g v p)
      way = joined_ends {P = S} v (far g v p) (key p) (ends_of p c.at) c.child.up.link

  offered : (p : ℕ) (k : Key) → Leads p k → Offered k
  offered p k (heard.Own at basic same) = subst Offered same (own_offered p at basic)
  offered p k (By_child c sub) = child_offered p k c sub

  -- and a port leads to all that is
  own_leads : (k : Key) → ends_at v k ≡ true → Leaves S v k → (p : ℕ) → At g v p → key p ≡ k → Leads p k
  own_leads k e out p at same = ⊎_elim
      (λ b. heard.Own at b same)
      (λ other. absurd (⊎_elim
      (λ x. not_taken v k out (subst S same ((fits.links v p at).marks.branch x)))
      (λ x.
      not_joined v k out (far g v p) (subst (λ y. AreEnds (far g v p) v y) same (ends_swapped v (far g v p) (key p) (ends_of p at)))
      (joined_back ((fits.links v p at).marks.inside x).0))
      other))
      (mark_cases (mark_at n p))

  child_leads : (u : ℕ) (j k : Key) → IsUp S root u j → far_end u j ≡ v → IsSub gr.keys S root u k → (p : ℕ) → At g v p → key p ≡ j → Leads p k
  child_leads u j k up far_is sub p at same = By_child
      (record {
        at = at;
        mark = branch_of p at (subst S (sym same) up.link);
        child = subst (λ x. IsWayUp gr.keys l x (key p)) (sym there)
            (subst (λ x. IsWayUp gr.keys l u x) (sym same) (record { root = root; top = root_of u way; up = up }));
      })
      (subst (λ x. IsSubAt gr.keys l x k) (sym there) (record { root = root; top = root_of u way; sub = sub }))
    where
      lt : j.a < j.b
      lt = ordered j up.link

      ends : AreEnds u v j
      ends = ends_by_far u v j lt up.ends far_is

      way : InClass gr.keys l v u
      way = joined_ends {P = S} v u j (ends_swapped u v j ends) up.link

      there : far g v p ≡ u
      there =
          sym (far_back (far g v p) v j lt (subst (λ x. AreEnds (far g v p) v x) same (ends_swapped v (far g v p) (key p) (ends_of p at))))
          ∙ far_back u v j lt ends

  leads : (k : Key) → Offered k → (p : ℕ) × Leads p k
  leads k (Own is e out) = let q = port_with gr v here k is e in (q.0, own_leads k e out q.0 q.1 q.2)
  leads k (From_child u j up far_is sub) =
      let lt = ordered j up.link in
      let e = end_there u v j (ends_by_far u v j lt up.ends far_is) in
      let q = port_with gr v here j (taken_in_tree gr.keys l j up.link).0 e in
      (q.0, child_leads u j k up far_is sub q.0 q.1 q.2)

  -- The best of what the children have reported and of the least Basic port is the least that any port leads to.

  abbrev IsBest : Best → Type 0
  IsBest None = (p : ℕ) (k : Key) → Leads p k → ⊥
  IsBest (Some b) = Leads b.0 b.1 × ((p : ℕ) (k : Key) → Leads p k → key_lt k b.1 ≡ false)

  heard_by : (p : ℕ) (k : Key) → HasChild gr.keys g v n fars queues p → IsSubAt gr.keys l (far g v p) k → HasHeard gr.keys g v n fars queues p k
  heard_by p k c sub = record { child = c; reported = reported_of p c.at c.child; sub = sub }

  by_ports : {P : Type 0} (p : ℕ) (k : Key) → Leads p k → (At g v p → is_basic (mark_at n p) ≡ true → key p ≡ k → P) →
      (HasHeard gr.keys g v n fars queues p k → P) → P
  by_ports p k (heard.Own at basic same) own child = own at basic same
  by_ports p k (By_child c sub) own child = child (heard_by p k c sub)

  no_basic : (b : Best) → BestIsHeard gr.keys g v n fars queues b → ((p : ℕ) → is_basic (mark_at n p) ≡ false) → IsBest b
  no_basic None h lacks = λ p k x. by_ports p k x (λ at basic same. both_ways (is_basic (mark_at n p)) (lacks p) basic) (h p k)
  no_basic (Some b) h lacks = (
    By_child h.0.child h.0.sub,
    λ p k x. by_ports p k x (λ at basic same. absurd (both_ways (is_basic (mark_at n p)) (lacks p) basic)) (h.1 p k),
  )

  module _ (q : ℕ) (at_q : At g v q) (basic_q : is_basic (mark_at n q) ≡ true) (first : (p : ℕ) → is_basic (mark_at n p) ≡ true → q ≤ p) where
    own_least : (p : ℕ) (k : Key) → At g v p → is_basic (mark_at n p) ≡ true → key p ≡ k → key_lt k (key q) ≡ false
    own_least p k at basic same = subst (λ (x : Key). key_lt x (key q) ≡ false) same (⊎_elim
        (λ (e : p ≡ q). subst (λ x. key_lt (key x) (key q) ≡ false) (sym e) (lt_irreflexive (key q)))
        (λ ne. let le = first p basic in lt_asymmetric (key q) (key p) (graph_rising gr ok v q p (omega (arith, ne, le)) at))
        (cases_eq p q))

    abbrev Better : Best → Type 0
    Better b = IsBest (better b q (Some (key q)))

    with_basic : (b : Best) → BestIsHeard gr.keys g v n fars queues b → Better b
    with_basic None h = (heard.Own at_q basic_q refl, λ p k x. by_ports p k x (own_least p k) (λ y. absurd (h p k y)))
    with_basic (Some b) h = ⊎_elim
        (λ t. subst (λ x. IsBest (cond x (Some (q, key q)) (Some b))) (sym t) (
          heard.Own at_q basic_q refl,
          λ p k x. by_ports p k x (own_least p k) (λ y. not_below_less k (key q) b.1 (h.1 p k y) t),
        ))
        (λ t. subst (λ x. IsBest (cond x (Some (q, key q)) (Some b))) (sym t) (
          By_child h.0.child h.0.sub,
          λ p k x.
              by_ports p k x
              (λ at basic same.
              false_from_ne_true (key_lt k b.1)
              (λ less. both_ways (key_lt k (key q)) (own_least p k at basic same) (less_through k b.1 (key q) less t)))
              (h.1 p k),
        ))
        (cases_Bool (key_lt (key q) b.1))

  best_of : (o : Option ℕ) → FirstIs 0 n.ports o → IsBest (own_best n o)
  best_of None lacks = no_basic n.head.best searching.best lacks
  best_of (Some q) f =
      let first = f.2 in
      let lt = first.within in
      let size = (fits.ground.nodes v).ports in
      let same : q ≡ f.0 = omega (arith, f.1) in
      let at : At g v q = record { some = here.some; node = here.node; port = omega (arith, lt, size, f.1) } in
      subst (λ (x : Key). IsBest (better n.head.best q (Some x))) (sym (own_key (fits.ground.nodes v) q at))
      (with_basic q at (subst (λ x. is_basic (mark_at n x) ≡ true) (sym same) first.basic)
      (λ p b. let le = first.before p b in omega (arith, le, f.1)) n.head.best searching.best)

  is_sub : (b : Best) → IsBest b → BestIsSub gr.keys g v n fars queues b
  is_sub None h = λ s t j x. ⊎_elim
      (λ some.
      let o = ((subs_are_of_children gr ok l v root some.0).0 some.1).is in
      let p = leads some.0 o in
      h p.0 some.0 p.1)
      (λ none_leaves. none_leaves j (subst (λ y. LeavesBelow gr.keys S y v j) (top.3 s t) x))
      (nodes_have_one_sub gr ok l v root top.1)
  is_sub (Some b) h = (
    record {
      root = root;
      top = top.1;
      sub = (subs_are_of_children gr ok l v root b.1).1
          (record { is = offered b.0 b.1 h.0; least = λ j o. let p = leads j o in h.1 p.0 j p.1 });
    },
    h.0,
  )

  pub best_is_sub : BestIsSub gr.keys g v n fars queues (own_best n (least_basic n.ports))
  best_is_sub = is_sub (own_best n (least_basic n.ports)) (best_of (least_basic n.ports) (first_basic n.ports))
