use Rattle.std.proofs.Common.{subst, sym}
use Rattle.ghs_patient.specs.Runs.{IsShort, patient_after}
use Rattle.ghs_sched.proofs.lemmas.Runs.{among_begins}
use Rattle.ghs_world.specs.WorldState.{WorldState}
use Rattle.ghs_picking.proofs.Recalled.{run_recalled, turns_recalled}
use Rattle.ghs_picking.proofs.patient.run_patient.Goals as goal

pub run_on-requires-clause-kept : goal.run_on-requires-clause-kept
run_on-requires-clause-kept g c =
    subst (λ (s : WorldState). g.F.Follower.is_of s.net.graph s.net.trace c.args.kept.now) (sym c.recall_all.ensures) c.requires.kept

pub returns-then-ended-clause-kept : goal.returns-then-ended-clause-kept
returns-then-ended-clause-kept g c =
    λ _. subst (λ (s : WorldState). g.F.Follower.is_of s.net.graph s.net.trace c.args.kept.now) (sym c.recall_all.ensures) c.requires.kept

pub returns-then-ended-clause-run : goal.returns-then-ended-clause-run
returns-then-ended-clause-run g c = among_begins patient_after c.args.world.now c.recall_all.new.self c.args.schedule.now c.recall_all.ensures

pub returns-in-Err-clause-run : goal.returns-in-Err-clause-run
returns-in-Err-clause-run g c = among_begins patient_after c.args.world.now c.recall_all.new.self c.args.schedule.now c.recall_all.ensures

pub returns-in-Ok-clause-run : goal.returns-in-Ok-clause-run
returns-in-Ok-clause-run g c = run_recalled _ _ _ _ _ c.recall_all.ensures c.run_on.ensures.run

pub returns-in-Ok-clause-short : goal.returns-in-Ok-clause-short
returns-in-Ok-clause-short g c = subst (λ (s : WorldState). IsShort s c.run_on.new.world) c.recall_all.ensures c.run_on.ensures.short

pub returns-in-Ok-clause-ends : goal.returns-in-Ok-clause-ends
returns-in-Ok-clause-ends g c = λ enough. c.run_on.ensures.ends (turns_recalled _ _ c.recall_all.ensures enough)
