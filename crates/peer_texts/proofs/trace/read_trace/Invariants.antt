use Rattle.std.proofs.Common.{◌≡◌, ◌≤◌, ◌+◌, ◌++◌, List, length}
use Rattle.peer_texts.specs.Line.{meanings}
use Rattle.peer_texts.specs.Reads.{HasRead}
use Rattle.peer_texts.specs.declared.line.Line.{Line}
use Rattle.peer_texts.proofs.trace.read_trace.Given as goal

abbrev pub invariant-lines : goal.invariant-lines
invariant-lines l = record {
  read : (gone : List Line) × (meanings l.text ≡ gone ++ meanings l.rest) × HasRead gone l.reading;
  room : l.reading.lines + length l.rest ≤ length l.text;
}

abbrev pub decreases-lines : goal.decreases-lines
decreases-lines l = length l.rest
