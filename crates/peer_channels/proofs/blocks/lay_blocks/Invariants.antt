use Rattle.std.proofs.Common.{◌≡◌, ◌+◌, get_or}
use Rattle.peer_channels.specs.Kept.{AreBlocks}
use Rattle.peer_channels.proofs.blocks.lay_blocks.Given as goal

abbrev pub invariant-loop-i : goal.invariant-loop-i
invariant-loop-i l = AreBlocks l.graph l.i l.starts.items l.widest × (l.end ≡ get_or l.starts.items (l.i + 1) 0)
