use Rattle.std.proofs.Common.{◌≡◌, ◌++◌, take}
use Rattle.std.specs.List.{flat_map}
use Rattle.peer_hand.specs.Seen.{offer_json}
use Rattle.peer_runs.specs.WorldState.{ready_events}
use Rattle.peer_hand.proofs.seen.put_offers.Given as goal

abbrev pub invariant-loop-k : goal.invariant-loop-k
invariant-loop-k g l = l.text.items ≡ l.fn.text.items ++ flat_map offer_json (take l.k (ready_events g.P.Protocol.rules l.world))
