-- The page of a run.
use Rattle.std.specs.Prelude.{◌≡◌, ℕ, List, length}
use Rattle.ghs_view.specs.Data.{data_json}
use Rattle.ghs_graph.specs.Bound.{IsBound}
use Rattle.ghs_graph.specs.Graph.{Shape}
use Rattle.peer_page.specs.Page.{page_text}
use Rattle.peer_network.specs.declared.event.Event.{Event}
use Rattle.peer_page.specs.Limits.{events_to}

-- the data of a run whose events are shown up to one
abbrev pub run_json : Shape → List Event → ℕ → ℕ → ℕ → List ℕ
run_json g es from to bound = data_json g bound (length es) from (events_to to es)

-- the page's constant text round the events of a run up to one, and what they do; it opens before another
pub record IsRunPage (g : Shape) (es : List Event) (from to : ℕ) (text : List ℕ) : Type 0 where
  pub bound : ℕ
  pub is_bound : IsBound g.nodes (length g.keys) bound
  pub printed : text ≡ page_text (run_json g es from to bound)
