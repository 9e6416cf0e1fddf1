use Rattle.std.proofs.Common.{◌≡◌, ◌++◌, take}
use Rattle.std.specs.List.{flat_map}
use Rattle.ghs_hand.specs.Seen.{may_json}
use Rattle.ghs_world.specs.WorldState.{home}
use Rattle.ghs_hand.proofs.seen.put_choices.Given as goal

abbrev pub invariant-loop-event : goal.invariant-loop-event
invariant-loop-event l = l.text.items ≡ l.fn.text.items ++ flat_map (may_json (home l.world)) (take l.event-index l.events)
