-- The page of two runs.
use Rattle.std.specs.Prelude.{◌≡◌, ℕ, List}
use Rattle.ghs_graph.specs.Graph.{Shape}
use Rattle.peer_page.specs.Page.{pair_text}
use Rattle.peer_network.specs.declared.event.Event.{Event}
use Rattle.peer_machine.specs.Rules.{Rules}
use Rattle.peer_words.specs.Looks.{Looks}
use Rattle.peer_words.specs.Words.{Words}
use Rattle.peer_view.specs.RunPage.{run_json}

-- the constant text of two runs round the data of each, as a page of one has them
abbrev pub IsPairPage : {S M : Type 0} → Rules S M → Words S M → Looks → (Shape → ℕ) → Shape → List Event → List Event → ℕ → ℕ → List ℕ → Type 0
IsPairPage r words looks bound g first second from to text =
    text ≡ pair_text (run_json r words looks bound g first from to) (run_json r words looks bound g second from to)
