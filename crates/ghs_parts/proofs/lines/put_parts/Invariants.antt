use Rattle.std.proofs.Common.{◌≡◌, ◌++◌, take}
use Rattle.ghs_parts.specs.Lines.{line_behind}
use Rattle.peer_parts.specs.Lines.{numbered_lines}
use Rattle.ghs_parts.proofs.lines.put_parts.Given as goal

abbrev pub invariant-loop-place : goal.invariant-loop-place
invariant-loop-place l =
    l.text.items ≡ l.fn.text.items ++ numbered_lines (line_behind l.form l.front l.by l.seed l.columns) l.first (take l.place l.parts)
