use Rattle.std.proofs.Common.{subst}
use Rattle.ghs_graph.specs.Graph.{IsGraph}
use Rattle.ghs_protocol.specs.Run.{IsRun}
use Rattle.ghs_core.specs.NetState.{NetState, network}
use Rattle.ghs_rounds.proofs.Settling.{settled}
use Rattle.ghs_rounds.proofs.rounds.Rounds.settle.Goals as goal

pub returns : goal.returns
returns c =
    let graph : IsGraph c.args.world.now.net.graph = subst (λ (n : NetState). IsGraph n.graph) c.net.ensures.net c.trace.ensures.graph in
    let is_run : IsRun (network c.args.world.now.net) c.args.world.now.net.trace =
    subst (λ (n : NetState). IsRun (network n) n.trace) c.net.ensures.net c.trace.ensures.run in
    let are = rw (← c.self.view_is) at c.requires.rounds in
    rw (← c.self.view_is)
    (settled c.args.world.now _ are graph is_run c.law_patience_lasts.ensures c.requires.going c.advance.new.self c.mark_all.new.self
    c.clear.new.self.items c.as_slice.result.now
    c.advance.ensures c.mark_all.ensures c.as_slice.ensures.value c.clear.ensures.items (c.are_none.ensures.none c.if-not-are_none.false))
