use Rattle.std.proofs.Common.{◌≡◌, false, take}
use Rattle.std.specs.List.{list_any}
use Rattle.peer_network.specs.Wakes.{is_under}
use Rattle.peer_network.proofs.wake_set.Wakers.are_under.Given as goal

abbrev pub invariant-loop-waker : goal.invariant-loop-waker
invariant-loop-waker l = list_any (is_under l.graph l.root) (take l.waker-index l.waker-items) ≡ false
