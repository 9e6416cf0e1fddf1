use Rattle.std.proofs.Common.{◌≡◌, ◌++◌, take}
use Rattle.std.specs.List.{flat_map}
use Rattle.peer_words.specs.Json.{said_member}
use Rattle.own_view.proofs.openings.put_others.Given as goal

abbrev pub invariant-loop-said : goal.invariant-loop-said
invariant-loop-said l = l.text.items ≡ l.fn.text.items ++ flat_map said_member (take l.said-index l.others)
