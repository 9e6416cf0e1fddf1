-- The greatest level of the deeds is the greatest of a node at the end.
use Rattle.std.proofs.Common.{◌≡◌, ◌≢◌, ℕ, ◌≤◌, max, Option, Some, List, [], ◌∷◌, ◌++◌, refl, ◌∙◌, ap, ⊎_elim, arith, unwrap_or}
use Rattle.std.proofs.lemmas.Bool.{cases_eq}
use Rattle.ghs_graph.specs.Graph.{Shape, IsGraph}
use Rattle.ghs_node.specs.NodeState.{NodeState}
use Rattle.peer_network.specs.declared.event.Event.{Event}
use Rattle.ghs_protocol.specs.Net.{Net, happens, opening}
use Rattle.peer_network.specs.Events.{event_node}
use Rattle.peer_network.specs.Network.{Network, network_of}
use Rattle.ghs_protocol.specs.Run.{IsAfter, net_after, run}
use Rattle.ghs_protocol.specs.Steps.{Happens, Woke, Took}
use Rattle.ghs_protocol.proofs.lemmas.Effects.{taken_there}
use Rattle.ghs_protocol.proofs.lemmas.Events.{happening}
use Rattle.peer_network.proofs.lemmas.Graphs.{graph_few, graph_wired}
use Rattle.ghs_protocol.proofs.lemmas.Lasting.{run_lasts}
use Rattle.ghs_protocol.proofs.lemmas.Runs.{both_some, net_after_is, run_joins}
use Rattle.ghs_protocol.proofs.lemmas.Sends.{node_there}
use Rattle.ghs_protocol.proofs.lemmas.WellFormed.{after_formed}
use Rattle.ghs_parts.specs.Deeds.{deed, deeds, deeds_behind}
use Rattle.ghs_parts.specs.Laws.{GreatestIsOfNodes}
use Rattle.ghs_parts.specs.Parts.{greatest_level}
use Rattle.ghs_parts.proofs.AddingUp.{node_in}

-- an event leaves other nodes as they are
others_stay : (g : Network) (w y : Net) (e : Event) (u : ℕ) → Happens g w e y → u ≢ event_node e → y.node u ≡ w.node u
others_stay g w _ _ u (Woke v d lo hi s r) ne = node_there g v d w u ne
others_stay g w _ _ u (Took v p m ms d at q r) ne = taken_there g v p m ms d w u ne

-- the net after one event more
after_one : (g : Network) (done : List Event) (e : Event) (w y : Net) → IsAfter g done w → happens g w e ≡ Some y → IsAfter g (done ++ e ∷ []) y
after_one g done e w y h here = run_joins g done (e ∷ []) (opening g) w h ∙ one
  where
    one : run g (e ∷ []) w ≡ Some y
    one = rw here refl

-- the level of a deed is its node's in the net after it
deed_level : (g : Shape) (done : List Event) (e : Event) (y : Net) → IsAfter (network_of g) (done ++ e ∷ []) y →
    (deed g done e).level ≡ (y.node (event_node e)).head.level
deed_level g done e y after = ap (λ (x : Net). (x.node (event_node e)).head.level) (net_after_is g (done ++ e ∷ []) y after)

-- a node has its level from a deed, or had it before
one_level : (g : Shape) (done : List Event) (e : Event) (w y : Net) (v : ℕ) → IsAfter (network_of g) (done ++ e ∷ []) y →
    Happens (network_of g) w e y → (y.node v).head.level ≤ max (w.node v).head.level (deed g done e).level
one_level g done e w y v after happened = ⊎_elim here there (cases_eq v (event_node e))
  where
    here : v ≡ event_node e → (y.node v).head.level ≤ max (w.node v).head.level (deed g done e).level
    here is =
        let level = deed_level g done e y after in
        let same : (y.node v).head.level ≡ (y.node (event_node e)).head.level = ap (λ u. (y.node u).head.level) is in
        omega (arith, level, same)

    there : v ≢ event_node e → (y.node v).head.level ≤ max (w.node v).head.level (deed g done e).level
    there ne =
        let same : (y.node v).head.level ≡ (w.node v).head.level =
        ap (λ (n : NodeState). n.head.level) (others_stay (network_of g) w y e v happened ne) in
        omega (arith, same)

levels_up : (g : Shape) (done es : List Event) (w x : Net) (v : ℕ) → IsAfter (network_of g) done w → run (network_of g) es w ≡ Some x →
    (x.node v).head.level ≤ max (w.node v).head.level (greatest_level (deeds_behind g done es))
levels_up g done [] w x v h r =
    let same : (w.node v).head.level ≡ (x.node v).head.level = ap (λ (o : Option Net). ((unwrap_or o w).node v).head.level) r in
    omega (arith, same)
levels_up g done (e ∷ es) w x v h r =
    both_some (happens (network_of g) w e) (λ y. run (network_of g) es y) x r (λ y here rest.
    let after = after_one (network_of g) done e w y h here in
    let ih = levels_up g (done ++ e ∷ []) es y x v after rest in
    let step = one_level g done e w y v after (happening (network_of g) w y e here) in
    omega (arith, ih, step))

-- what no node is above at the end, no deed is above
levels_down : (g : Shape) (b : ℕ) (done es : List Event) (w x : Net) → IsGraph g → IsAfter (network_of g) done w → run (network_of g) es w ≡ Some x →
    ((v : ℕ) → 1 ≤ v → v ≤ g.nodes → (x.node v).head.level ≤ b) → greatest_level (deeds_behind g done es) ≤ b
levels_down g b done [] w x ok h r most = omega arith
levels_down g b done (e ∷ es) w x ok h r most =
    both_some (happens (network_of g) w e) (λ y. run (network_of g) es y) x r (λ y here rest.
    let after = after_one (network_of g) done e w y h here in
    let ih = levels_down g b (done ++ e ∷ []) es y x ok after rest most in
    let node = node_in (network_of g) w y e (happening (network_of g) w y e here) in
    let formed = after_formed (network_of g) (graph_wired g ok) (graph_few g ok) (done ++ e ∷ []) y after in
    let lasts = (run_lasts (network_of g) (graph_wired g ok) es y x formed rest (event_node e)).level in
    let level = deed_level g done e y after in
    let top = most (event_node e) node.0 (omega (arith, node.1)) in
    omega (arith, ih, lasts, level, top))

pub greatest_is_of_nodes : GreatestIsOfNodes
greatest_is_of_nodes g es b ok r = (up, down)
  where
    same : net_after g es ≡ r.0
    same = net_after_is g es r.0 r.1

    up : (v : ℕ) → ((net_after g es).node v).head.level ≤ greatest_level (deeds g es)
    up v =
        let all = levels_up g [] es (opening (network_of g)) r.0 v refl r.1 in
        let at : ((net_after g es).node v).head.level ≡ (r.0.node v).head.level = ap (λ (x : Net). (x.node v).head.level) same in
        omega (arith, all, at)

    down : ((v : ℕ) → 1 ≤ v → v ≤ g.nodes → ((net_after g es).node v).head.level ≤ b) → greatest_level (deeds g es) ≤ b
    down most =
        levels_down g b [] es (opening (network_of g)) r.0 ok refl r.1
        (λ v lo hi.
        let top = most v lo hi in
        let at : ((net_after g es).node v).head.level ≡ (r.0.node v).head.level = ap (λ (x : Net). (x.node v).head.level) same in
        omega (arith, top, at))
