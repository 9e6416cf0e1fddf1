-- The page of two runs.
use Rattle.std.specs.Prelude.{◌≡◌, ℕ, List, length}
use Rattle.ghs_graph.specs.Bound.{IsBound}
use Rattle.ghs_graph.specs.Graph.{Shape}
use Rattle.peer_page.specs.Page.{pair_text}
use Rattle.peer_network.specs.declared.event.Event.{Event}
use Rattle.ghs_view.specs.RunPage.{run_json}

-- the constant text of two runs round the data of each, as a page of one has them
pub record IsPairPage (g : Shape) (first second : List Event) (from to : ℕ) (text : List ℕ) : Type 0 where
  pub bound : ℕ
  pub is_bound : IsBound g.nodes (length g.keys) bound
  pub printed : text ≡ pair_text (run_json g first from to bound) (run_json g second from to bound)
