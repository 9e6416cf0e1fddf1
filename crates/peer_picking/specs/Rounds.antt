-- The events of a round. Each message takes one unit of time, and computing none: so one that ends a chain of n messages arrives in round n, and is
-- due from then on. In round 0 the nodes wake.
use Rattle.std.specs.Prelude.{ℕ, Bool, true, false, ◌&&◌, nat_le, List, [], ◌∷◌, filter}
use Rattle.ghs_graph.specs.Graph.{Shape}
use Rattle.peer_network.specs.declared.event.Event.{Event}
use Rattle.peer_network.specs.declared.event.Event.TheVariants.{Wake, Take}
use Rattle.peer_network.specs.Network.{network_of}
use Rattle.peer_index.specs.Places.{all_events}
use Rattle.peer_chains.specs.Chains.{Chains}
use Rattle.peer_lengths.specs.Chain.{numbers_of}
use Rattle.peer_machine.specs.Rules.{Rules}
use Rattle.peer_machine.specs.Run.{net_after}
use Rattle.peer_runs.specs.Lawful.{is_lawful_under}

-- there is a message, and the chain that the first one ends has n messages at most: by round n it has arrived
abbrev pub is_by : ℕ → List ℕ → Bool
is_by n [] = false
is_by n (t ∷ ts) = nat_le t n

-- the event takes no message, or one that has arrived by round n
abbrev pub is_due : Chains → ℕ → Event → Bool
is_due c n (Wake v) = true
is_due c n (Take v p) = is_by n (c.queue v p)

module _ {S M : Type 0} (r : Rules S M) (may : ℕ → Bool) (g : Shape) (es : List Event) where
  -- after the events of a run an event may happen under the wake set, and is due by round n
  abbrev pub is_in : ℕ → Event → Bool
  is_in n e = is_lawful_under r may (network_of g) (net_after r g es) e && is_due (numbers_of r (network_of g) es) n e

  -- the events of round n, by node, Wake before ports, ports rising; where there is none, the round is over
  abbrev pub events_in : ℕ → List Event
  events_in n = filter (is_in n) (all_events (network_of g))
