use Rattle.std.proofs.Common.{List, subst, sym}
use Rattle.peer_network.specs.declared.event.Event.{Event}
use Rattle.ghs_sched.specs.Picks.{lawful_events}
use Rattle.ghs_patient.specs.Runs.{patient_after}
use Rattle.ghs_picking.proofs.BySeed.{HasGoneOn, at_limit_patient, gone_among, is_seeded, on_ok_patient, on_ok_seeded}
use Rattle.ghs_picking.proofs.followed.run_followed.Goals as goal

pub returns-in-Seeded-clause-whole : goal.returns-in-Seeded-clause-whole
returns-in-Seeded-clause-whole g c =
    let ran = c.run_seeded in
    let gone : HasGoneOn c.args.world.now ran.new.world =
    gone_among lawful_events c.args.world.now ran.new.world c.seeded-schedule.result ran.new.schedule c.turns.result c.requires.trace
    c.requires.numbers c.turns.ensures.turns c.turns.ensures.few ran.ensures.run in
    rw c.in-Seeded.is (on_ok_seeded c.args.seed c.args.world.now ran.new.world c.seeded-schedule.result ran.new.schedule ran.result
    c.seeded-schedule.ensures gone ran.ensures.whole)

pub returns-in-Seeded-clause-limit : goal.returns-in-Seeded-clause-limit
returns-in-Seeded-clause-limit g c =
    let ran = c.run_seeded in
    let gone : HasGoneOn c.args.world.now ran.new.world =
    gone_among lawful_events c.args.world.now ran.new.world c.seeded-schedule.result ran.new.schedule c.turns.result c.requires.trace
    c.requires.numbers c.turns.ensures.turns c.turns.ensures.few ran.ensures.run in
    rw c.in-Seeded.is (λ limit. is_seeded c.args.seed c.args.world.now ran.new.world c.seeded-schedule.result ran.new.schedule
    c.seeded-schedule.ensures gone (ran.ensures.limit limit gone.numbers))

pub returns-in-Patient-clause-whole : goal.returns-in-Patient-clause-whole
returns-in-Patient-clause-whole g c =
    let ran = c.run_patient in
    let gone : HasGoneOn c.args.world.now ran.new.world =
    gone_among patient_after c.args.world.now ran.new.world c.seeded-schedule.result ran.new.schedule c.turns.result c.requires.trace
    c.requires.numbers c.turns.ensures.turns c.turns.ensures.few ran.ensures.run in
    rw c.in-Patient.is
    (on_ok_patient c.args.seed c.args.world.now ran.new.world c.seeded-schedule.result ran.new.schedule ran.result c.seeded-schedule.ensures gone
    ran.ensures.run ran.ensures.short ran.ensures.halted)

pub returns-in-Patient-clause-limit : goal.returns-in-Patient-clause-limit
returns-in-Patient-clause-limit g c =
    let ran = c.run_patient in
    let gone : HasGoneOn c.args.world.now ran.new.world =
    gone_among patient_after c.args.world.now ran.new.world c.seeded-schedule.result ran.new.schedule c.turns.result c.requires.trace
    c.requires.numbers c.turns.ensures.turns c.turns.ensures.few ran.ensures.run in
    rw c.in-Patient.is
    (λ limit. at_limit_patient c.args.seed c.args.world.now ran.new.world c.seeded-schedule.result ran.new.schedule c.turns.result ran.result
    c.seeded-schedule.ensures gone c.requires.numbers
    c.turns.ensures.turns c.turns.ensures.few ran.ensures.run ran.ensures.short ran.ensures.fault ran.ensures.ends limit)

pub run_seeded-requires : goal.run_seeded-requires
run_seeded-requires g c = record {
  kept = subst (λ (es : List Event). g.F.Follower.is_of c.args.world.now.net.graph es c.args.kept.now) (sym c.requires.trace) c.requires.kept;
}

pub run_patient-requires : goal.run_patient-requires
run_patient-requires g c = record {
  kept = subst (λ (es : List Event). g.F.Follower.is_of c.args.world.now.net.graph es c.args.kept.now) (sym c.requires.trace) c.requires.kept;
}
