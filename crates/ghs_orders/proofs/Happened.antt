-- The events of a run have places, and the node of the last one is awake.
use Rattle.std.proofs.Common.{◌≡◌, ◌≢◌, ℕ, suc, ◌<◌, Some, List, [], ◌∷◌, ◌++◌, length, take, drop, sym, ◌∙◌, ap, subst}
use Rattle.std.specs.List.{slice_index_or}
use Rattle.std.proofs.lemmas.List.{take-append-drop}
use Rattle.std.proofs.Math.Seq.{drop-cons}
use Rattle.ghs_graph.specs.Graph.{Shape, IsGraph}
use Rattle.ghs_node.specs.declared.message.Phase.TheVariants.{Sleeping}
use Rattle.peer_network.specs.declared.event.Event.{Event}
use Rattle.peer_network.specs.Events.{event_node}
use Rattle.peer_network.specs.Network.{Network, network_of}
use Rattle.peer_network.proofs.lemmas.Graphs.{graph_few, graph_wired}
use Rattle.peer_index.specs.Places.{HasPlace}
use Rattle.ghs_protocol.specs.Net.{Net, happens, opening}
use Rattle.ghs_protocol.specs.Run.{IsRun, net_after, run}
use Rattle.ghs_protocol.specs.Steps.{Happens, Took, Woke}
use Rattle.ghs_protocol.proofs.lemmas.Events.{happening}
use Rattle.ghs_protocol.proofs.lemmas.Runs.{after_more, both_some, net_after_is, run_splits}
use Rattle.ghs_protocol.proofs.lemmas.WellFormed.{after_formed}
use Rattle.ghs_orders.proofs.Staying.{node_awake}

-- what happens has a place
happens_there : {g : Network} {w x : Net} {e : Event} → Happens g w e x → HasPlace g e
happens_there (Woke v d lo hi s r) = (lo, hi)
happens_there (Took v p m ms d at q r) = at

-- an event of a run has one
pub placed_in : (g : Shape) (es : List Event) (i : ℕ) (d : Event) → i < length es → IsRun (network_of g) es →
    HasPlace (network_of g) (slice_index_or es i d)
placed_in g es i d lt (w, r) =
    let e = slice_index_or es i d in
    let parts : es ≡ take i es ++ (e ∷ drop (suc i) es) =
    sym (take-append-drop i es) ∙ ap (λ (l : List Event). take i es ++ l) (drop-cons es i d lt) in
    let both : run (network_of g) (take i es ++ (e ∷ drop (suc i) es)) (opening (network_of g)) ≡ Some w =
    subst (λ (l : List Event). run (network_of g) l (opening (network_of g)) ≡ Some w) parts r in
    run_splits (network_of g) (take i es) (e ∷ drop (suc i) es) (opening (network_of g)) w both
    (λ x here on. both_some (happens (network_of g) x e) (λ y. run (network_of g) (drop (suc i) es) y) w on
    (λ y happened rest. happens_there (happening (network_of g) x y e happened)))

-- the last one, and its node is awake
pub last_there : (g : Shape) → IsGraph g → (es : List Event) (e : Event) → IsRun (network_of g) (es ++ e ∷ []) →
    HasPlace (network_of g) e × (((net_after g (es ++ e ∷ [])).node (event_node e)).head.phase ≢ Sleeping)
last_there g graph es e (w, r) =
    run_splits (network_of g) es (e ∷ []) (opening (network_of g)) w r
    (λ x here on. both_some (happens (network_of g) x e) (λ y. run (network_of g) [] y) w on
    (λ y happened rest.
    let z = happening (network_of g) x y e happened in
    let formed = after_formed (network_of g) (graph_wired g graph) (graph_few g graph) es x here in
    let is : net_after g (es ++ e ∷ []) ≡ y = net_after_is g (es ++ e ∷ []) y (after_more (network_of g) es e x y here z) in (
      happens_there z,
      subst (λ (n : Net). (n.node (event_node e)).head.phase ≢ Sleeping) (sym is)
          (node_awake (network_of g) (graph_wired g graph) x y e formed z),
    )))
