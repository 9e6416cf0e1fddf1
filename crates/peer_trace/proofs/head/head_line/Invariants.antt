use Rattle.std.proofs.Common.{◌≡◌, length}
use Rattle.peer_trace.specs.Head.{fields_in, first_fields}
use Rattle.peer_trace.proofs.head.head_line.Given as goal

abbrev pub invariant-lines : goal.invariant-lines
invariant-lines l = first_fields (fields_in l.text) ≡ first_fields (fields_in l.rest)

abbrev pub decreases-lines : goal.decreases-lines
decreases-lines l = length l.rest
