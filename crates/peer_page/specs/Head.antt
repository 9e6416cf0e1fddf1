-- The head of the data of a page.
use Rattle.std.specs.Prelude.{ℕ, List, ◌++◌, codes, decimal, length}
use Rattle.ghs_graph.specs.Graph.{Shape}
use Rattle.peer_words.specs.Json.{member, next, quoted}

-- how large the network is, and the bound on its messages
unfoldable pub network_members : Shape → ℕ → List ℕ
network_members g bound =
    member (codes "{") (codes "ghs") (quoted (codes "steps"))
    ++ next (codes "version") (decimal 1)
    ++ next (codes "nodes") (decimal g.nodes)
    ++ next (codes "links") (decimal (length g.keys))
    ++ next (codes "bound") (decimal bound)

-- how many events the run has, before which one it opens, and how many are shown
unfoldable pub events_members : ℕ → ℕ → ℕ → List ℕ
events_members events from to = next (codes "events") (decimal events) ++ next (codes "from") (decimal from) ++ next (codes "to") (decimal to)

unfoldable pub head_json : Shape → ℕ → ℕ → ℕ → ℕ → List ℕ
head_json g bound events from to = network_members g bound ++ events_members events from to ++ codes "}\n"
