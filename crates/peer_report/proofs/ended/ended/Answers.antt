use Rattle.std.proofs.Common.{nat_eq, sym, ◌∙◌, ap, subst, eqb-true}
use Rattle.ghs_graph.specs.Graph.{IsGraph}
use Rattle.peer_net.specs.NetState.{NetState}
use Rattle.peer_report.proofs.Stopping.{stopped_has_ended, ended_has_stopped}
use Rattle.peer_report.proofs.ended.ended.Goals as goal

pub returns-clause-ended : goal.returns-clause-ended
returns-clause-ended g c =
    let r = g.P.Protocol.rules in
    let l = g.met.P.Ends in
    let ok = subst (λ (n : NetState). IsGraph n.graph) c.net.ensures.net c.trace.ensures.graph in (
      λ t. stopped_has_ended r g.P.Ends.has_ended l.ends l.wakes_all c.args.world.now ok c.net.ensures.run.0
          (sym c.ready_count.ensures ∙ eqb-true c.ready_count.result 0 t),
      λ end. ap (λ n. nat_eq n 0)
          (c.ready_count.ensures ∙ ended_has_stopped r g.P.Ends.has_ended l.ends l.wakes_all c.args.world.now ok c.net.ensures.run.0 end),
    )
