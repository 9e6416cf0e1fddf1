use Rattle.std.proofs.Common.{◌≡◌, ◌++◌, take}
use Rattle.std.specs.List.{flat_map}
use Rattle.peer_words.specs.Text.{behind_comma}
use Rattle.peer_words.proofs.text.put_others.Given as goal

abbrev pub invariant-loop-other : goal.invariant-loop-other
invariant-loop-other l = l.text.items ≡ l.fn.text.items ++ flat_map behind_comma (take l.other-index l.said)
