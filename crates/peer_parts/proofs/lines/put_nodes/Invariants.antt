use Rattle.std.proofs.Common.{◌≡◌, ◌++◌, take}
use Rattle.peer_parts.specs.Lines.{node_line, numbered_lines}
use Rattle.peer_parts.proofs.lines.put_nodes.Given as goal

abbrev pub invariant-loop-place : goal.invariant-loop-place
invariant-loop-place l =
    l.text.items ≡ l.fn.text.items ++ numbered_lines (node_line l.form l.front l.seed l.columns) 1 (take l.place l.parts)
