-- Runs: lists of events, from the opening net on.
use Rattle.std.specs.Prelude.{◌≡◌, ℕ, Bool, Option, Some, List, [], ◌∷◌, ◌++◌, unwrap_or, option_and_then}
use Rattle.std.specs.List.{All}
use Rattle.ghs_graph.specs.Graph.{Shape, IsGraph}
use Rattle.peer_network.specs.declared.event.Event.{Event}
use Rattle.peer_network.specs.Network.{Network, network_of}
use Rattle.peer_network.specs.Events.{MayWake}
use Rattle.peer_machine.specs.Rules.{Rules}
use Rattle.peer_machine.specs.Net.{Net, opening, happens}

module _ {S M : Type 0} (r : Rules S M) where
  -- the events, one after another; none where one of them can't happen
  abbrev pub run : Network → List Event → Net S M → Option (Net S M)
  run g [] w = Some w
  run g (e ∷ es) w = option_and_then (λ x. run g es x) (happens r g w e)

  -- the net w is the one after these events
  abbrev pub IsAfter : Network → List Event → Net S M → Type 0
  IsAfter g es w = run g es (opening r g) ≡ Some w

  -- each event can happen where it stands
  abbrev pub IsRun : Network → List Event → Type 0
  IsRun g es = (w : Net S M) × IsAfter g es w

  -- a run in which only some nodes wake by themselves
  abbrev pub IsRunUnder : (ℕ → Bool) → Network → List Event → Type 0
  IsRunUnder may g es = IsRun g es × All (MayWake may) es

  -- the net after a run of a graph; the opening net where the list is no run
  unfoldable pub net_after : Shape → List Event → Net S M
  net_after g es = unwrap_or (run (network_of g) es (opening r (network_of g))) (opening r (network_of g))

  -- w is the net after a run of the graph
  pub record IsNetOf (g : Shape) (w : Net S M) : Type 0 where
    pub graph : IsGraph g
    pub events : List Event
    pub run : IsAfter (network_of g) events w

  -- w is the net after a run of the graph, and w' the net when further events have happened
  pub record IsLater (g : Shape) (w w' : Net S M) : Type 0 where
    pub graph : IsGraph g
    pub events : List Event
    pub further : List Event
    pub run : IsAfter (network_of g) events w
    pub later : IsAfter (network_of g) (events ++ further) w'
