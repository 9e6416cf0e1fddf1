use Rattle.std.proofs.Common.{◌≡◌, ◌++◌}
use Rattle.peer_page.specs.Commas.{parts_to}
use Rattle.peer_view.specs.Protocol.{kind_json}
use Rattle.peer_view.proofs.protocol.put_kinds.Given as goal

abbrev pub invariant-loop-kind : goal.invariant-loop-kind
invariant-loop-kind g l = l.text.items ≡ l.fn.text.items ++ parts_to l.kind (kind_json g.P.Spoken.words g.P.Viewed.looks)
