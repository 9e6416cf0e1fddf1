use Rattle.std.proofs.Common.{take}
use Rattle.peer_runs.specs.Replays.{HasReplayed}
use Rattle.peer_runs.proofs.replay.replay.Given as goal

abbrev pub invariant-loop-event : goal.invariant-loop-event
invariant-loop-event g l = HasReplayed l.fn.graph l.fn.wake (take l.event-index l.events) l.world
