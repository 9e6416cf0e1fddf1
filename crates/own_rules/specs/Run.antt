-- What a run by a book is, and what is told of it.
use Rattle.std.specs.Prelude.{◌≡◌, ℕ, ◌*◌, ◌<◌, ◌≤◌, Bool, false, true, length, List, [], Option}
use Rattle.ghs_choices.specs.declared.check.Check.{Check}
use Rattle.ghs_graph.specs.Graph.{Shape}
use Rattle.own_book.specs.Entry.{Entry}
use Rattle.own_rules.specs.Check.{IsChecked}
use Rattle.own_rules.specs.Faults.{faults}
use Rattle.own_rules.specs.Rules.{rules_of}
use Rattle.own_rules.specs.Stops.{lacking, stops_in}
use Rattle.own_rules.specs.Texts.{Text}
use Rattle.own_rules.specs.Words.{kind_name}
use Rattle.own_rules.specs.declared.node.Allowance.{Allowance}
use Rattle.own_rules.specs.declared.node.Node.{Node}
use Rattle.own_rules.specs.declared.run.BookRun.{BookRun}
use Rattle.peer_machine.specs.Rules.{Rules}
use Rattle.peer_machine.specs.Run.{IsRunUnder, net_after}
use Rattle.peer_network.specs.declared.event.Event.{Event}
use Rattle.peer_network.specs.Network.{network_of}
use Rattle.peer_network.specs.Wakes.{may_wake}
use Rattle.peer_network.specs.declared.wake_set.WakeSet.{WakeSet}
use Rattle.peer_report.specs.Account.{account_lines}
use Rattle.peer_runs.specs.Lawful.{lawful_events}
use Rattle.peer_runs.specs.Picks.{IsSeededRun}
use Rattle.peer_schedule.specs.Schedule.{seeded}

-- the events are a run of the graph under the wake set, and all that the seed's schedule picks of it, to its end or its last turn
pub record IsRunOf {S M : Type 0} (r : Rules S M) (seed turns : ℕ) (g : Shape) (wake : WakeSet) (events : List Event) : Type 0 where
  pub run : IsRunUnder r (may_wake g wake) (network_of g) events
  pub words : List ℕ
  pub whole : IsSeededRun r (may_wake g wake) g turns [] (seeded seed) events words

-- whether its turns are used where an event is still lawful; else none is
abbrev pub StandsSo : {S M : Type 0} → Rules S M → ℕ → Shape → WakeSet → List Event → Bool → Type 0
StandsSo r turns g wake events true = (turns ≤ length events) × (0 < length (lawful_events r (may_wake g wake) g events))
StandsSo r turns g wake events false = lawful_events r (may_wake g wake) g events ≡ []

-- where nodes have stopped after the events, which questions the book lacks, what is said of the others, the account of messages, and what is
-- wrong with the end by a check
pub record IsTold {M : Type 0} (r : Rules Node M) (name : ℕ → Text) (bound : Shape → ℕ) (book : List Entry) (check : Option Check) (g : Shape)
    (ran : BookRun) : Type 0 where
  pub stops : ran.stops.items ≡ stops_in (net_after r g ran.events.items).node g.nodes
  pub lacking : ran.lacking.items ≡ lacking book g ran.stops.items
  pub faults : ran.faults.items ≡ faults book g ran.stops.items
  pub account : ran.account.items ≡ account_lines r name bound g (net_after r g ran.events.items)
  pub wrong : IsChecked book g (net_after r g ran.events.items).node check ran.wrong.items

-- by the rules of this book, where each node opens with this allowance
abbrev pub IsRunBy : List Entry → Allowance → ℕ → ℕ → Shape → WakeSet → List Event → Type 0
IsRunBy book most = IsRunOf (rules_of book most)

abbrev pub StandsBy : List Entry → Allowance → ℕ → Shape → WakeSet → List Event → Bool → Type 0
StandsBy book most = StandsSo (rules_of book most)

abbrev pub IsToldBy : List Entry → Allowance → Option Check → Shape → BookRun → Type 0
IsToldBy book most = IsTold (rules_of book most) (kind_name book) (λ g. g.nodes * most.messages) book
