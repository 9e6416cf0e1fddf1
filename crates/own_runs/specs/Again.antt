-- What a stored run by a book is, once it is played again.
use Rattle.std.specs.Prelude.{◌≡◌, Bool, false, true, List, [], ◌∷◌}
use Rattle.ghs_graph.specs.Graph.{Shape}
use Rattle.own_book.specs.Entry.{Entry}
use Rattle.own_rules.specs.Rules.{rules_of}
use Rattle.own_rules.specs.declared.run.BookRun.{BookRun}
use Rattle.peer_machine.specs.Rules.{Rules}
use Rattle.peer_machine.specs.Run.{IsRunUnder}
use Rattle.peer_network.specs.declared.event.Event.{Event}
use Rattle.peer_network.specs.Network.{network_of}
use Rattle.peer_network.specs.Wakes.{may_wake}
use Rattle.peer_network.specs.declared.wake_set.WakeSet.{WakeSet}
use Rattle.peer_runs.specs.Lawful.{lawful_events}
use Rattle.own_rules.specs.declared.node.Allowance.{Allowance}

-- whether there is an event that is lawful
abbrev pub may_go_on : List Event → Bool
may_go_on [] = false
may_go_on (event ∷ more) = true

-- stored events are a run of the graph under the wake set, it is they that are told of, and whether an event is still lawful behind them
pub record IsReplayOf {S M : Type 0} (r : Rules S M) (g : Shape) (wake : WakeSet) (events : List Event) (ran : BookRun) : Type 0 where
  pub run : IsRunUnder r (may_wake g wake) (network_of g) events
  pub same : ran.events.items ≡ events
  pub stands : ran.at_limit ≡ may_go_on (lawful_events r (may_wake g wake) g events)

-- by the rules of this book, where each node has this allowance
abbrev pub IsReplayBy : List Entry → Allowance → Shape → WakeSet → List Event → BookRun → Type 0
IsReplayBy book most = IsReplayOf (rules_of book most)
