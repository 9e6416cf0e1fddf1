use Rattle.std.proofs.Common.{◌≡◌, ◌++◌, take}
use Rattle.std.specs.List.{flat_map}
use Rattle.peer_words.specs.Json.{escape}
use Rattle.peer_words.proofs.json.put_escaped.Given as goal

abbrev pub invariant-loop-letter : goal.invariant-loop-letter
invariant-loop-letter l = l.text.items ≡ l.fn.text.items ++ flat_map escape (take l.letter-index l.word)
