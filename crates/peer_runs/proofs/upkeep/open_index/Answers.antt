use Rattle.std.proofs.Common.{◌∙◌, ap, subst, arith, List}
use Rattle.ghs_graph.specs.Graph.{Shape}
use Rattle.peer_network.specs.declared.event.Event.{Event}
use Rattle.peer_index.specs.Index.{IsIndexBut}
use Rattle.peer_index.proofs.lemmas.Marks.{of_but}
use Rattle.peer_net.specs.NetState.{network}
use Rattle.peer_runs.specs.WorldState.{lawful_in}
use Rattle.peer_runs.proofs.Opening.{none_but_wakes, next_wake, no_wake}
use Rattle.peer_runs.proofs.upkeep.open_index.Goals as goal

pub loop-v-init : goal.loop-v-init
loop-v-init g c =
    none_but_wakes g.P.Protocol.rules c.args.net.now c.args.wake c.requires.opening c.in_ok-index.index
    (rw c.graph-graph.ensures at c.in_ok-index.ensures)

pub mark-requires-clause-placed : goal.mark-requires-clause-placed
mark-requires-clause-placed g c = rw c.graph-graph.ensures at c.placed-placed.ensures.placed

pub mark-requires-clause-index : goal.mark-requires-clause-index
mark-requires-clause-index g c = c.loop-v.invariant.index

pub loop-v-preserved : goal.loop-v-preserved
loop-v-preserved g c =
    let n = c.args.net.now in
    let many = c.nodes-v-end.ensures.nodes ∙ ap (λ (h : Shape). h.nodes) c.graph-graph.ensures in
    (rw c.placed-placed.ensures.event at c.mark.ensures) _
    (subst (λ (es : List Event). IsIndexBut (network n) (lawful_in g.P.Protocol.rules n c.args.wake) es c.loop-v.index)
    (next_wake n.graph.nodes c.loop-v.v (omega (arith, many, c.loop-v-test.true))) c.loop-v.invariant)

pub returns : goal.returns
returns g c =
    let n = c.args.net.now in
    let many = c.nodes-v-end.ensures.nodes ∙ ap (λ (h : Shape). h.nodes) c.graph-graph.ensures in
    of_but (network n) (lawful_in g.P.Protocol.rules n c.args.wake) c.loop-v.index
    (subst (λ (es : List Event). IsIndexBut (network n) (lawful_in g.P.Protocol.rules n c.args.wake) es c.loop-v.index)
    (no_wake n.graph.nodes c.loop-v.v (omega (arith, many, c.loop-v-test.false))) c.loop-v.invariant)
