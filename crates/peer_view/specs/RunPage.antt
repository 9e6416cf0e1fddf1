-- The page of a run.
use Rattle.std.specs.Prelude.{◌≡◌, ℕ, List, length}
use Rattle.ghs_graph.specs.Graph.{Shape}
use Rattle.peer_page.specs.Page.{page_text}
use Rattle.peer_network.specs.declared.event.Event.{Event}
use Rattle.peer_machine.specs.Rules.{Rules}
use Rattle.peer_page.specs.Limits.{events_to}
use Rattle.peer_words.specs.Looks.{Looks}
use Rattle.peer_words.specs.Words.{Words}
use Rattle.peer_view.specs.Data.{data_json}

module _ {S M : Type 0} (r : Rules S M) (words : Words S M) (looks : Looks) (bound : Shape → ℕ) where
  -- the data of a run whose events are shown up to one
  abbrev pub run_json : Shape → List Event → ℕ → ℕ → List ℕ
  run_json g es from to = data_json r words looks bound g (length es) from (events_to to es)

  -- the page's constant text round the events of a run up to one, and what they do; it opens before another
  abbrev pub IsRunPage : Shape → List Event → ℕ → ℕ → List ℕ → Type 0
  IsRunPage g es from to text = text ≡ page_text (run_json g es from to)
