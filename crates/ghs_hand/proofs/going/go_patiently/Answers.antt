use Rattle.std.proofs.Common.{true}
use Rattle.ghs_hand.proofs.Ending.{patiently, gone_on, stopped}
use Rattle.ghs_hand.proofs.going.go_patiently.Goals as goal

pub returns-in-Ok-Halted-clause-on : goal.returns-in-Ok-Halted-clause-on
returns-in-Ok-Halted-clause-on c =
    let ran = c.run_patient in
    gone_on true c.args.seed c.args.world.now ran.new.world ran.result
    (patiently c.args.seed c.args.world.now ran.new.world c.seeded-schedule.result ran.new.schedule c.seeded-schedule.ensures ran.ensures.run)
    ran.ensures.run.graph c.in-Ok-Halted.field-0 c.in-Ok-Halted.is ran.ensures.halted

pub returns-in-Err-TurnLimit-clause-fault : goal.returns-in-Err-TurnLimit-clause-fault
returns-in-Err-TurnLimit-clause-fault c =
    let ran = c.run_patient in
    stopped true c.args.seed c.args.world.now ran.new.world ran.result
    (patiently c.args.seed c.args.world.now ran.new.world c.seeded-schedule.result ran.new.schedule c.seeded-schedule.ensures ran.ensures.run)
    ran.ensures.run.graph c.in-Err-TurnLimit.field-0 c.turns.result _ c.in-Err-TurnLimit.is c.in-Err-TurnLimit.field-0-is
    ran.ensures.fault ran.ensures.going
    ran.ensures.run.turns ran.ensures.run.numbers c.requires.numbers c.turns.ensures.fits c.turns.ensures.few
