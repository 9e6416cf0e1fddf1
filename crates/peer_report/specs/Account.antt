-- The account of a run's messages: how many were sent of each kind, and of all, and the bound on them.
use Rattle.std.specs.Prelude.{◌≡◌, ℕ, ◌≤◌, List, [], ◌∷◌, ◌++◌, codes, decimal}
use Rattle.std.specs.List.{flat_map, range_with_len}
use Rattle.ghs_graph.specs.Graph.{Shape}
use Rattle.ghs_report.specs.ReportText.{sends_line}
use Rattle.peer_machine.specs.Rules.{Rules}
use Rattle.peer_machine.specs.Net.{Net}
use Rattle.peer_machine.specs.Ledger.{in_all}

-- ` NAME=COUNT`
unfoldable pub count_text : List ℕ → ℕ → List ℕ
count_text name n = codes " " ++ name ++ codes "=" ++ decimal n

-- the names and counts of the first n kinds
abbrev pub counts_text : ℕ → (ℕ → List ℕ) → (ℕ → ℕ) → List ℕ
counts_text n name sent = flat_map (λ k. count_text (name k) (sent k)) (range_with_len 0 n)

-- `m NAME=COUNT ..`: how many were sent of each of n kinds
abbrev pub kinds_line : ℕ → (ℕ → List ℕ) → (ℕ → ℕ) → List ℕ
kinds_line n name sent = codes "m" ++ counts_text n name sent ++ 10 ∷ []

-- kinds as a protocol names them, and its bound
module _ {S M : Type 0} (r : Rules S M) (name : ℕ → List ℕ) (bound : Shape → ℕ) (g : Shape) (w : Net S M) where
  abbrev pub account_lines : List ℕ
  account_lines = kinds_line r.kinds name w.sent ++ sends_line (in_all r w.sent) (bound g)

  -- the account of a net, whose messages keep to the bound
  pub record IsAccount (text : List ℕ) : Type 0 where
    pub within : in_all r w.sent ≤ bound g
    pub printed : text ≡ account_lines
