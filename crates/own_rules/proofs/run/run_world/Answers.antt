use Rattle.std.proofs.Common.{◌≡◌, ◌∙◌, Err, refl, rules}
use Rattle.peer_runs.specs.declared.fault.RunFault.TheVariants.{TurnLimit}
use Rattle.own_rules.proofs.Running.{run_of, stands_at_limit, stands_over, whole_at_limit}
use Rattle.own_rules.proofs.run.run_world.Goals as goal

pub returns-in-Ok-end-clause-run : goal.returns-in-Ok-end-clause-run
returns-in-Ok-end-clause-run g c =
    let ran = c.run_followed-end in
    let first = c.in-Ok.ensures in
    run_of g.P.Protocol.rules c.args.seed c.args.turns c.args.graph c.args.wake c.in-Ok.world ran.new.world _ _ first.graph first.wake first.trace
    c.seeded.ensures ran.ensures.run ran.new.world.net.trace refl c.net.ensures.run c.in-Ok-end.ensures.whole

pub returns-in-Ok-end-clause-stands : goal.returns-in-Ok-end-clause-stands
returns-in-Ok-end-clause-stands g c =
    let ran = c.run_followed-end in
    let first = c.in-Ok.ensures in
    stands_over g.P.Protocol.rules c.args.turns c.args.graph c.args.wake ran.new.world (ran.ensures.run.graph ∙ first.graph)
    (ran.ensures.run.wake ∙ first.wake) ran.new.world.net.trace refl _ refl c.in-Ok-end.ensures.over

pub returns-in-Err-TurnLimit-clause-run : goal.returns-in-Err-TurnLimit-clause-run
returns-in-Err-TurnLimit-clause-run g c =
    let ran = c.run_followed-end in
    let first = c.in-Ok.ensures in
    let is : ran.result ≡ Err TurnLimit = search rules in
    let whole = whole_at_limit g.P.Protocol.rules c.args.seed c.args.turns c.args.graph c.args.wake c.in-Ok.world ran.new.world _ _ first.graph
    first.wake first.trace c.seeded.ensures ran.ensures.run (ran.ensures.limit is) in
    run_of g.P.Protocol.rules c.args.seed c.args.turns c.args.graph c.args.wake c.in-Ok.world ran.new.world _ _ first.graph first.wake first.trace
    c.seeded.ensures ran.ensures.run ran.new.world.net.trace refl c.net.ensures.run whole

pub returns-in-Err-TurnLimit-clause-stands : goal.returns-in-Err-TurnLimit-clause-stands
returns-in-Err-TurnLimit-clause-stands g c =
    let ran = c.run_followed-end in
    let first = c.in-Ok.ensures in
    let is : ran.result ≡ Err TurnLimit = search rules in
    stands_at_limit g.P.Protocol.rules c.args.turns c.args.graph c.args.wake ran.new.world (ran.ensures.run.graph ∙ first.graph)
    (ran.ensures.run.wake ∙ first.wake) ran.new.world.net.trace refl _ refl (ran.ensures.limit is)
