-- What is kept of the parts of a run from event to event, and what is seen before an event.
use Rattle.std.specs.Prelude.{◌≡◌, ℕ, ◌+◌, ◌-◌, ◌<◌, ◌≤◌, Bool, true, false, Option, Some, None, List, [], ◌∷◌, length, slice_index, if◌then◌else◌}
use Rattle.std.specs.List.{slice_index_or}
use Rattle.std.specs.Str.{bytes_eq}
use Rattle.ghs_graph.specs.Graph.{Shape}
use Rattle.peer_network.specs.declared.event.Event.{Event}
use Rattle.peer_machine.specs.Rules.{Rules}
use Rattle.peer_machine.specs.Net.{event_node}
use Rattle.peer_machine.specs.Ledger.{of_kind}
use Rattle.peer_net.specs.NetState.{NetState, net_of, work_at}
use Rattle.peer_words.specs.Words.{Words}
use Rattle.peer_parts.specs.declared.rows.RowCount.{RowCount}
use Rattle.peer_parts.specs.Parts.{row_parts, sent_by_node}

-- the counts of node v
abbrev pub counts_at : List (List ℕ) → ℕ → List ℕ
counts_at parts v = slice_index_or parts (v - 1) []

-- rows with their counts, where a row has applied once more; a row that wasn't there stands behind them
abbrev pub with_use : List RowCount → List ℕ → List RowCount
with_use [] row = record { row = row; times = 1 } ∷ []
with_use (x ∷ xs) row =
    if bytes_eq x.row row then record x { times = x.times + 1 } ∷ xs else x ∷ with_use xs row

-- the row at a place
abbrev pub row_at : List RowCount → ℕ → List ℕ
row_at xs i = (slice_index_or xs i (record { row = []; times = 0 })).row

-- where a row stands first among others; nowhere, where it is none of them
abbrev pub IsPlaceOf : List RowCount → List ℕ → Option ℕ → Type 0
IsPlaceOf xs row None = (i : ℕ) → i < length xs → bytes_eq (row_at xs i) row ≡ false
IsPlaceOf xs row (Some i) =
    (i < length xs) × (bytes_eq (row_at xs i) row ≡ true) × ((j : ℕ) → j < i → bytes_eq (row_at xs j) row ≡ false)

-- rows with their counts, and whether they were lost
pub record RowsState : Type 0 where
  pub list : List RowCount
  pub lost : Bool

module _ {S M : Type 0} (r : Rules S M) where
  -- messages are counted by their kinds
  pub record HasCounted (ms : List M) (old new : List ℕ) : Type 0 where
    pub kinds : length new ≡ length old
    pub each : (k : ℕ) → k < r.kinds → slice_index new k ≡ slice_index old k + of_kind r k ms

  module _ (words : Words S M) where
    -- the counts of all nodes of a run
    pub record AreNodeParts (g : Shape) (es : List Event) (parts : List (List ℕ)) : Type 0 where
      pub nodes : length parts ≡ g.nodes
      pub kinds : (v : ℕ) → 1 ≤ v → v ≤ g.nodes → length (counts_at parts v) ≡ r.kinds
      pub each : (v k : ℕ) → 1 ≤ v → v ≤ g.nodes → k < r.kinds → slice_index (counts_at parts v) k ≡ sent_by_node r words g es v k

    -- the rows of a run, unless they were lost
    abbrev pub AreRowParts : Shape → List Event → RowsState → Type 0
    AreRowParts g es s = s.lost ≡ false → s.list ≡ row_parts r words g es

    -- the row by which the node of an event reacts
    abbrev pub IsRowOf : NetState → Event → List ℕ → Type 0
    IsRowOf s e row = let w = net_of r s in row ≡ words.row (w.node (event_node e)) (work_at w e)
