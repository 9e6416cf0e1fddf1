use Rattle.std.proofs.Common.{subst}
use Rattle.ghs_graph.specs.Graph.{IsGraph}
use Rattle.ghs_protocol.specs.Run.{IsRun}
use Rattle.ghs_core.specs.NetState.{NetState, network}
use Rattle.ghs_following.specs.Kept.{AreChains}
use Rattle.ghs_following.proofs.lemmas.Carrying.{out_to}
use Rattle.ghs_core.proofs.lemmas.Reacting.{answer_sends}
use Rattle.ghs_rounds.proofs.Hearing.{hears_small}
use Rattle.ghs_rounds.proofs.rounds.Rounds.hear.Goals as goal

pub follow-requires-clause-small : goal.follow-requires-clause-small
follow-requires-clause-small c =
    let chains : AreChains c.args.world.now.net c.self.inside.clock.kept = rw (← c.self.view_is) at c.requires.rounds.chains in
    hears_small c.args.world.now.net c.self.inside.clock.kept c.args.event c.args.asleep c.args.delta.now.fate chains c.requires.few

pub follow-requires-clause-ports : goal.follow-requires-clause-ports
follow-requires-clause-ports c =
    let graph : IsGraph c.args.world.now.net.graph = subst (λ (n : NetState). IsGraph n.graph) c.net.ensures.net c.trace.ensures.graph in
    let is_run : IsRun (network c.args.world.now.net) c.args.world.now.net.trace =
    subst (λ (n : NetState). IsRun (network n) n.trace) c.net.ensures.net c.trace.ensures.run in
    rw c.graph.ensures (answer_sends c.args.world.now.net graph is_run c.args.event c.args.delta.now c.requires.lawful c.requires.answer)

pub follow-requires-clause-far : goal.follow-requires-clause-far
follow-requires-clause-far c =
    let graph : IsGraph c.args.world.now.net.graph = subst (λ (n : NetState). IsGraph n.graph) c.net.ensures.net c.trace.ensures.graph in
    let is_run : IsRun (network c.args.world.now.net) c.args.world.now.net.trace =
    subst (λ (n : NetState). IsRun (network n) n.trace) c.net.ensures.net c.trace.ensures.run in
    let chains : AreChains c.args.world.now.net c.self.inside.clock.kept = rw (← c.self.view_is) at c.requires.rounds.chains in
    rw c.graph.ensures (out_to c.args.world.now.net graph is_run c.args.event c.requires.lawful c.args.delta.now c.requires.answer
    c.self.inside.clock.kept chains.fits)

pub note-requires-clause-ports : goal.note-requires-clause-ports
note-requires-clause-ports c =
    let graph : IsGraph c.args.world.now.net.graph = subst (λ (n : NetState). IsGraph n.graph) c.net.ensures.net c.trace.ensures.graph in
    let is_run : IsRun (network c.args.world.now.net) c.args.world.now.net.trace =
    subst (λ (n : NetState). IsRun (network n) n.trace) c.net.ensures.net c.trace.ensures.run in
    rw (c.as_slice.ensures, c.graph-2.ensures, c.node_of.ensures)
    (answer_sends c.args.world.now.net graph is_run c.args.event c.args.delta.now c.requires.lawful c.requires.answer)
