use Rattle.std.proofs.Common.{◌≡◌, length}
use Rattle.std.specs.List.{list_all}
use Rattle.peer_trace.specs.Mark.{is_lower_digit}
use Rattle.peer_trace.proofs.mark.has_lower_digits.Given as goal

abbrev pub invariant-loop-byte : goal.invariant-loop-byte
invariant-loop-byte l = list_all is_lower_digit l.field ≡ list_all is_lower_digit l.rest

abbrev pub decreases-loop-byte : goal.decreases-loop-byte
decreases-loop-byte l = length l.rest
