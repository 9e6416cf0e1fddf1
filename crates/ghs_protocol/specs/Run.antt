-- Runs: lists of events, from the opening net on.
use Rattle.std.specs.Prelude.{◌≡◌, ℕ, Bool, Option, Some, None, List, [], ◌∷◌, unwrap_or}
use Rattle.std.specs.List.{All}
use Rattle.ghs_graph.specs.Graph.{Shape}
use Rattle.peer_network.specs.declared.event.Event.{Event}
use Rattle.peer_network.specs.Events.{MayWake}
use Rattle.peer_network.specs.Network.{Network, network_of}
use Rattle.ghs_protocol.specs.Net.{Net, opening, happens}

abbrev pub and_then : Option Net → (Net → Option Net) → Option Net
and_then None f = None
and_then (Some w) f = f w

-- the events, one after another; none where one of them can't happen
abbrev pub run : Network → List Event → Net → Option Net
run g [] w = Some w
run g (e ∷ es) w = and_then (happens g w e) (λ x. run g es x)

-- the net w is the one after these events
abbrev pub IsAfter : Network → List Event → Net → Type 0
IsAfter g es w = run g es (opening g) ≡ Some w

-- each event can happen where it stands
abbrev pub IsRun : Network → List Event → Type 0
IsRun g es = (w : Net) × IsAfter g es w

-- a run in which only some nodes wake by themselves
abbrev pub IsRunUnder : (ℕ → Bool) → Network → List Event → Type 0
IsRunUnder may g es = IsRun g es × All (MayWake may) es

-- the net after a run of a graph; the opening net where the list is no run
unfoldable pub net_after : Shape → List Event → Net
net_after g es = unwrap_or (run (network_of g) es (opening (network_of g))) (opening (network_of g))
