use Rattle.std.proofs.Common.{◌≡◌, Err, Ok, rules, subst}
use Rattle.ghs_graph.specs.Graph.{IsGraph}
use Rattle.peer_net.specs.NetState.{NetState}
use Rattle.peer_runs.specs.declared.fault.RunFault.TheVariants.{TurnLimit}
use Rattle.peer_report.proofs.Ran.{ended_by, stopped_by}
use Rattle.peer_report.proofs.run.run_followed_by_seed.Goals as goal

pub returns-in-Ok-end-clause-run : goal.returns-in-Ok-end-clause-run
returns-in-Ok-end-clause-run g c =
    let ran = c.run_on-end in
    let is : ran.result ≡ Ok tt = c.in-Ok-end.is in
    ended_by g.P.Protocol.rules g.P.Ends.has_ended c.args.schedule_kind c.args.seed c.args.wake c.args.turns c.args.graph c.in-Ok.world
    ran.new.world _ _
    c.in-Ok.ensures.graph
    c.in-Ok.ensures.wake c.seeded.ensures ran.ensures.run (subst (λ (n : NetState). IsGraph n.graph) c.net.ensures.net c.trace.ensures.graph)
    c.net.ensures.run c.ended.result ran.result is ran.ensures.over c.ended.ensures.ready c.ended.ensures.ended

pub returns-in-Err-TurnLimit-clause-run : goal.returns-in-Err-TurnLimit-clause-run
returns-in-Err-TurnLimit-clause-run g c =
    let ran = c.run_on-end in
    let is : ran.result ≡ Err TurnLimit = search rules in
    stopped_by g.P.Protocol.rules g.P.Ends.has_ended c.args.schedule_kind c.args.seed c.args.wake c.args.turns c.args.graph c.in-Ok.world
    ran.new.world _ _
    c.in-Ok.ensures.graph
    c.in-Ok.ensures.wake c.seeded.ensures ran.ensures.run (subst (λ (n : NetState). IsGraph n.graph) c.net.ensures.net c.trace.ensures.graph)
    c.net.ensures.run c.ended.result ran.result is ran.ensures.limit c.ended.ensures.ready c.ended.ensures.ended
