use Rattle.std.proofs.Common.{◌+◌, get_or}
use Rattle.peer_channels.proofs.Laying.{AreSlots}
use Rattle.peer_channels.proofs.blocks.empty_queues.Given as goal

abbrev pub invariant-loop-i : goal.invariant-loop-i
invariant-loop-i g l = AreSlots l.graph l.starts l.queues.items (get_or l.starts (l.i + 1) 0)

abbrev pub invariant-loop-port : goal.invariant-loop-port
invariant-loop-port g l = AreSlots l.graph l.starts l.queues.items (get_or l.starts (l.i + 1) 0 + l.port-index)
