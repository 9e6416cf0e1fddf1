use Rattle.std.proofs.Common.{◌≡◌, ◌+◌, ◌++◌}
use Rattle.peer_steps.specs.Changes.{marks_below}
use Rattle.peer_steps.specs.Noted.{IsNoted}
use Rattle.peer_steps.proofs.noting.note_marks.Given as goal

abbrev pub invariant-loop-at : goal.invariant-loop-at
invariant-loop-at g l =
    (old : g.row.P-Node.Denot) →
    IsNoted g.P.Spoken.words old l.node l.before.ports l.before.first l.before.marks.items l.before.variables.items →
    l.list.items ≡ l.fn.list.items ++ marks_below g.P.Spoken.words old l.node (l.before.first + l.at)
