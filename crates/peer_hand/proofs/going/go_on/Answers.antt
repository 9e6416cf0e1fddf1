use Rattle.std.proofs.Common.{◌≡◌, Err, rules}
use Rattle.peer_runs.specs.declared.fault.RunFault.TheVariants.{TurnLimit}
use Rattle.peer_hand.proofs.Ending.{gone_on, stopped}
use Rattle.peer_hand.proofs.going.go_on.Goals as goal

pub returns-in-Ok-clause-on : goal.returns-in-Ok-clause-on
returns-in-Ok-clause-on g c =
    let ran = c.run_seeded-end in
    gone_on g.P.Protocol.rules g.P.Ends.has_ended c.args.seed c.args.world.now ran.new.world _ _ c.seeded.ensures ran.ensures.run c.ended.result
    c.ended.ensures.ready c.ended.ensures.ended ran.result c.in-Ok.is ran.ensures.over

pub returns-in-Err-TurnLimit-clause-fault : goal.returns-in-Err-TurnLimit-clause-fault
returns-in-Err-TurnLimit-clause-fault g c =
    let ran = c.run_seeded-end in
    let is : ran.result ≡ Err TurnLimit = search rules in
    stopped g.P.Protocol.rules g.P.Ends.has_ended c.args.seed c.args.world.now ran.new.world _ _ c.seeded.ensures ran.ensures.run c.ended.result
    c.ended.ensures.ready c.ended.ensures.ended ran.result is ran.ensures.limit
