use Rattle.std.proofs.Common.{subst}
use Rattle.ghs_graph.specs.Graph.{IsGraph}
use Rattle.ghs_protocol.specs.Run.{IsRun}
use Rattle.ghs_core.specs.NetState.{NetState, network}
use Rattle.ghs_core.proofs.lemmas.Reacting.{answer_sends}
use Rattle.ghs_world.proofs.lemmas.Ready.{ready_lawful}
use Rattle.ghs_patient.proofs.lemmas.Ports.{marks_own}
use Rattle.ghs_patient.proofs.keeping.make_next.Goals as goal

pub keep_up-requires-clause-ports : goal.keep_up-requires-clause-ports
keep_up-requires-clause-ports g c =
    let made = c.in_ok-make_answered_placed.ensures.made in
    let event = c.next-placed.result.event in
    let graph : IsGraph c.args.world.now.net.graph = subst (λ (n : NetState). IsGraph n.graph) c.net.ensures.net c.trace.ensures.graph in
    let is_run : IsRun (network c.args.world.now.net) c.args.world.now.net.trace =
    subst (λ (n : NetState). IsRun (network n) n.trace) c.net.ensures.net c.trace.ensures.run in
    rw made.graph (answer_sends c.args.world.now.net graph is_run event c.in_ok-delta.delta
    (ready_lawful c.args.world.now event c.next-placed.ensures.ready) c.in_ok-delta.ensures)

pub keep_up-requires-clause-own : goal.keep_up-requires-clause-own
keep_up-requires-clause-own g c =
    let made = c.in_ok-make_answered_placed.ensures.made in
    let event = c.next-placed.result.event in
    let graph : IsGraph c.args.world.now.net.graph = subst (λ (n : NetState). IsGraph n.graph) c.net.ensures.net c.trace.ensures.graph in
    let is_run : IsRun (network c.args.world.now.net) c.args.world.now.net.trace =
    subst (λ (n : NetState). IsRun (network n) n.trace) c.net.ensures.net c.trace.ensures.run in
    rw made.graph (marks_own c.args.world.now.net graph is_run event c.in_ok-delta.delta
    (ready_lawful c.args.world.now event c.next-placed.ensures.ready) c.in_ok-delta.ensures)
