use Rattle.std.proofs.Common.{◌≡◌, ◌++◌, take}
use Rattle.std.specs.List.{flat_map}
use Rattle.peer_words.specs.Json.{said_member}
use Rattle.peer_words.proofs.json.put_each_said.Given as goal

abbrev pub invariant-loop-each : goal.invariant-loop-each
invariant-loop-each l = l.text.items ≡ l.fn.text.items ++ flat_map said_member (take l.each-index l.said)
