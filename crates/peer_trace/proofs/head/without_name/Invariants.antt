use Rattle.std.proofs.Common.{◌≡◌, ◌++◌, ℕ, List, length}
use Rattle.peer_trace.specs.Head.{fields_in, plain_lines}
use Rattle.peer_trace.proofs.head.without_name.Given as goal

-- with the rest behind it, its head without a name, it has the lines of the whole
abbrev pub invariant-lines : goal.invariant-lines
invariant-lines l = (t : List ℕ) → fields_in t ≡ plain_lines (fields_in l.rest) → fields_in (l.plain.items ++ t) ≡ plain_lines (fields_in l.text)

abbrev pub decreases-lines : goal.decreases-lines
decreases-lines l = length l.rest
