-- The text of a finished net.
use Rattle.std.specs.Prelude.{◌≡◌, ℕ, ◌≤◌, List, [], ◌∷◌, ◌++◌, codes, decimal, length}
use Rattle.ghs_graph.specs.declared.key.Key.{Key}
use Rattle.ghs_graph.specs.Bound.{IsBound}
use Rattle.ghs_graph.specs.Graph.{Shape}
use Rattle.ghs_graph.specs.Links.{IsTree}
use Rattle.ghs_protocol.specs.Ledger.{in_all}
use Rattle.ghs_protocol.specs.Net.{Net}
use Rattle.peer_network.specs.Network.{network_of}
use Rattle.ghs_core.specs.Marked.{AreBranches}
use Rattle.ghs_report.specs.TreeText.{tree_text}

-- a name and a number
unfoldable pub named : List ℕ → ℕ → List ℕ
named name n = name ++ decimal n

-- `m connect=.. initiate=.. test=.. accept=.. reject=.. report=.. changeroot=..`: how many were sent of each kind
abbrev pub messages_line : (ℕ → ℕ) → List ℕ
messages_line sent =
    named (codes "m connect=") (sent 0)
    ++ named (codes " initiate=") (sent 1)
    ++ named (codes " test=") (sent 2)
    ++ named (codes " accept=") (sent 3)
    ++ named (codes " reject=") (sent 4)
    ++ named (codes " report=") (sent 5)
    ++ named (codes " changeroot=") (sent 6)
    ++ 10 ∷ []

-- `s SENT BOUND`: how many were sent of all kinds, and the bound on them
abbrev pub sends_line : ℕ → ℕ → List ℕ
sends_line sent bound = named (codes "s ") sent ++ named (codes " ") bound ++ 10 ∷ []

-- The Branch links, which are the minimum spanning forest, and their total weight; the messages sent, and the bound that they keep to.
pub record IsReportText (g : Shape) (w : Net) (text : List ℕ) : Type 0 where
  pub branches : List Key
  pub all : AreBranches (network_of g) w branches
  pub forest : IsTree g.keys branches
  pub bound : ℕ
  pub is_bound : IsBound g.nodes (length g.keys) bound
  pub within : in_all w.sent ≤ bound
  pub printed : text ≡ tree_text branches ++ messages_line w.sent ++ sends_line (in_all w.sent) bound
