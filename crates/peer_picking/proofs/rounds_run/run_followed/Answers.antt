use Rattle.peer_picking.proofs.Running.{run_begins}
use Rattle.peer_picking.proofs.rounds_run.run_followed.Goals as goal

pub returns-then-ready_count-gt0-clause-run : goal.returns-then-ready_count-gt0-clause-run
returns-then-ready_count-gt0-clause-run g c = run_begins g.P.Protocol.rules c.args.turns c.args.world.now c.args.schedule.now c.requires.trace

pub returns-in-Err-clause-run : goal.returns-in-Err-clause-run
returns-in-Err-clause-run g c = run_begins g.P.Protocol.rules c.args.turns c.args.world.now c.args.schedule.now c.requires.trace
