use Rattle.std.proofs.Common.{◌≡◌, ◌++◌}
use Rattle.own_view.specs.Openings.{mark_json}
use Rattle.peer_page.specs.Commas.{parts_to}
use Rattle.own_view.proofs.openings.put_marks.Given as goal

abbrev pub invariant-loop-port : goal.invariant-loop-port
invariant-loop-port g l = l.text.items ≡ l.fn.text.items ++ parts_to l.port (mark_json g.P.Spoken.words l.node)
