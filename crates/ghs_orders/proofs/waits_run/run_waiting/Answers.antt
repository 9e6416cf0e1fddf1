use Rattle.ghs_patient.proofs.lemmas.Gone.{among_run}
use Rattle.ghs_orders.specs.WaitsRuns.{waiting_after}
use Rattle.ghs_orders.proofs.waits_run.run_waiting.Goals as goal

pub returns-clause-run : goal.returns-clause-run
returns-clause-run c = among_run waiting_after c.args.world.now c.args.schedule.now c.run_by.ensures.gone
