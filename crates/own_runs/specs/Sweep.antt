-- The figures of a run by a book, and the columns of their lines.
use Rattle.std.specs.Prelude.{◌≡◌, ◌↔◌, ℕ, ◌*◌, true, false, codes, List, [], Option}
use Rattle.ghs_choices.specs.declared.check.Check.{Check}
use Rattle.ghs_graph.specs.Graph.{Shape}
use Rattle.own_book.specs.Entry.{Entry}
use Rattle.own_rules.specs.Check.{IsChecked}
use Rattle.own_rules.specs.Faults.{faults}
use Rattle.own_rules.specs.Rules.{rules_of}
use Rattle.own_rules.specs.Run.{IsRunOf}
use Rattle.own_rules.specs.Stops.{lacking, stops_in}
use Rattle.own_rules.specs.Texts.{kinds_of, names_of}
use Rattle.own_rules.specs.declared.node.Node.{Node}
use Rattle.own_runs.specs.declared.sweep.BookFigures.{BookFigures}
use Rattle.peer_machine.specs.Rules.{Rules}
use Rattle.peer_machine.specs.Run.{net_after}
use Rattle.peer_network.specs.declared.event.Event.{Event}
use Rattle.peer_network.specs.Wakes.{may_wake}
use Rattle.peer_network.specs.declared.wake_set.WakeSet.{WakeSet}
use Rattle.peer_runs.specs.Lawful.{lawful_events}
use Rattle.peer_sweep.specs.Columns.{Layout, layout_of}
use Rattle.peer_sweep.specs.Figures.{AreCounts}
use Rattle.peer_sweep.specs.Runs.{about_words}
use Rattle.peer_sweep.specs.declared.figures.Figures.{Figures}
use Rattle.own_rules.specs.declared.node.Allowance.{Allowance}

module _ {M : Type 0} (r : Rules Node M) where
  -- a run has ended: no event may happen any more, and no node has stopped
  pub record HasEnded (g : Shape) (wake : WakeSet) (es : List Event) : Type 0 where
    pub over : lawful_events r (may_wake g wake) g es ≡ []
    pub none : stops_in (net_after r g es).node g.nodes ≡ []

  -- its figures are what is counted of it, and whether it has ended: of no book a level, a fragment or a branch is known
  pub record AreFigures (bound : Shape → ℕ) (g : Shape) (wake : WakeSet) (es : List Event) (f : Figures) : Type 0 where
    pub counts : AreCounts r bound g es (record f { ended = false })
    pub ended : (f.ended ≡ true) ↔ HasEnded g wake es

  -- the figures of the run that a seed's schedule picks, what is said of the nodes that have stopped in it, and of its end by a check
  pub record AreFiguresOf (bound : Shape → ℕ) (book : List Entry) (check : Option Check) (seed turns : ℕ) (g : Shape) (wake : WakeSet)
      (x : BookFigures) : Type 0 where
    pub events : List Event
    pub run : IsRunOf r seed turns g wake events
    pub figures : AreFigures bound g wake events x.figures
    pub lacking : x.lacking.items ≡ lacking book g (stops_in (net_after r g events).node g.nodes)
    pub faults : x.faults.items ≡ faults book g (stops_in (net_after r g events).node g.nodes)
    pub wrong : IsChecked book g (net_after r g events).node check x.wrong.items

-- by the rules of this book, where each node has this allowance
abbrev pub AreFiguresBy : List Entry → Allowance → Option Check → ℕ → ℕ → Shape → WakeSet → BookFigures → Type 0
AreFiguresBy book most = AreFiguresOf (rules_of book most) (λ g. g.nodes * most.messages) book

-- a column for each kind that the greeting names
abbrev pub layout_by : List Entry → Layout
layout_by book = layout_of (about_words (codes "own") (names_of (kinds_of book))) (names_of (kinds_of book))
