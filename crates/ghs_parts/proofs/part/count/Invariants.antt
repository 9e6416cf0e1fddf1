use Rattle.std.proofs.Common.{◌≡◌, length, take}
use Rattle.ghs_core.specs.Dispatch.{CountsSends}
use Rattle.ghs_parts.proofs.part.count.Given as goal

abbrev pub invariant-loop-message : goal.invariant-loop-message
invariant-loop-message l = record {
  counts : CountsSends (take l.message-index l.sends) l.fn.kinds l.kinds;
  width : length l.kinds ≡ length l.fn.kinds;
}
