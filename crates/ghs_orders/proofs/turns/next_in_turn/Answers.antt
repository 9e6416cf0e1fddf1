use Rattle.std.proofs.Common.{◌≡◌, ◌-◌, Some, List, length, slice_get, subst}
use Rattle.std.specs.Prelude.{MatchOption}
use Rattle.ghs_graph.specs.Graph.{Shape, IsGraph}
use Rattle.peer_network.specs.declared.event.Event.{Event}
use Rattle.ghs_orders.proofs.Worlds.{last_awake, last_behind, last_place}
use Rattle.ghs_orders.specs.Worlds.{IsNextFrom, NoneIsNext}
use Rattle.ghs_orders.proofs.turns.next_in_turn.Goals as goal

graph_of : (c : goal.After-next_behind-arg-1) → IsGraph c.args.world.now.net.graph
graph_of c = subst (λ (g : Shape). IsGraph g) c.graph.ensures c.nodes.ensures.graph

is_last : (c : goal.After-next_behind-arg-1) → Some c.in-Some.last.now ≡ slice_get c.args.world.now.net.trace (length c.args.world.now.net.trace - 1)
is_last c =
    subst (λ (es : List Event). Some c.in-Some.last.now ≡ slice_get es (length es - 1)) c.trace.ensures.trace c.in-Some.ensures.value

pub next_behind-requires-clause-place : goal.next_behind-requires-clause-place
next_behind-requires-clause-place c = last_place c.args.world.now (graph_of c) c.trace.ensures.run.0 c.in-Some.last.now (is_last c)

pub next_behind-requires-clause-awake : goal.next_behind-requires-clause-awake
next_behind-requires-clause-awake c = last_awake c.args.world.now (graph_of c) c.trace.ensures.run.0 c.in-Some.last.now (is_last c)

pub returns-in-Some : goal.returns-in-Some
returns-in-Some c =
    let graph : IsGraph c.args.world.now.net.graph = subst (λ (g : Shape). IsGraph g) c.graph.ensures c.nodes.ensures.graph in
    let is : Some c.in-Some.last.now ≡ slice_get c.args.world.now.net.trace (length c.args.world.now.net.trace - 1) =
    subst (λ (es : List Event). Some c.in-Some.last.now ≡ slice_get es (length es - 1)) c.trace.ensures.trace c.in-Some.ensures.value in
    subst (λ k. MatchOption c.next_behind.result (NoneIsNext c.args.world.now) (IsNextFrom c.args.world.now k))
    (last_behind c.args.world.now graph c.trace.ensures.run.0 c.in-Some.last.now is) c.next_behind.ensures
