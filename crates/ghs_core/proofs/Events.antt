-- Tests for equality of events decide it.
use Rattle.std.proofs.Common.{◌≡◌, rules}
use Rattle.std.specs.Bool.{Decides}
use Rattle.peer_network.specs.declared.event.Event.{Event}
use Rattle.peer_network.specs.contracts.event.EventPartialEq.TheImpl as events

pub event_decides : (l r : Event) → Decides (events.eq-value.it l r) (l ≡ r)
event_decides l r = search rules
