use Rattle.std.proofs.Common.{◌≡◌, false, take}
use Rattle.std.specs.List.{list_any}
use Rattle.peer_steps.specs.Changes.{is_said}
use Rattle.peer_steps.proofs.noting.stays.Given as goal

abbrev pub invariant-loop-other : goal.invariant-loop-other
invariant-loop-other l = list_any (is_said l.said) (take l.other-index l.list) ≡ false
