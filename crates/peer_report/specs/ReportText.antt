-- The text of a finished run.
use Rattle.std.specs.Prelude.{◌≡◌, ℕ, ◌≤◌, Bool, List, ◌++◌}
use Rattle.ghs_graph.specs.declared.key.Key.{Key}
use Rattle.ghs_graph.specs.Graph.{Shape}
use Rattle.peer_network.specs.Network.{network_of}
use Rattle.ghs_report.specs.TreeText.{tree_text}
use Rattle.peer_machine.specs.Branches.{AreBranches}
use Rattle.peer_machine.specs.Rules.{Rules}
use Rattle.peer_machine.specs.Net.{Net}
use Rattle.peer_machine.specs.Ledger.{in_all}
use Rattle.peer_report.specs.Account.{account_lines}

-- The branch links, which are what the protocol finds, and their total weight; the messages sent, and the bound that they keep to.
pub record IsReportText {S M : Type 0} (r : Rules S M) (name : ℕ → List ℕ) (bound : Shape → ℕ) (is_branch : S → ℕ → Bool)
    (found : Shape → List Key → Type 0) (g : Shape) (w : Net S M) (text : List ℕ) : Type 0 where
  pub branches : List Key
  pub all : AreBranches is_branch (network_of g) w branches
  pub finds : found g branches
  pub within : in_all r w.sent ≤ bound g
  pub printed : text ≡ tree_text branches ++ account_lines r name bound g w
