-- The figures of a run by part: by the node that sends, or by the row that applies.
use Rattle.std.specs.Prelude.{ℕ, ◌==◌, List, [], ◌∷◌, map, if◌then◌else◌}
use Rattle.std.specs.List.{range_with_len, sum_by}
use Rattle.std.specs.Str.{bytes_eq}
use Rattle.ghs_graph.specs.Graph.{Shape}
use Rattle.peer_network.specs.declared.event.Event.{Event}
use Rattle.peer_network.specs.Network.{network_of}
use Rattle.peer_machine.specs.Rules.{Rules}
use Rattle.peer_machine.specs.Net.{event_node}
use Rattle.peer_words.specs.Words.{Words}
use Rattle.peer_parts.specs.declared.rows.RowCount.{RowCount}
use Rattle.peer_parts.specs.Deeds.{Deed, deeds, sent_of}

-- a number of each, added up over those of part p
abbrev pub sum_in : {D : Type 0} → (D → ℕ) → ℕ → (D → ℕ) → List D → ℕ
sum_in {D} part p number ds = sum_by (λ (d : D). if part d == p then number d else 0) ds

-- the node of a deed
abbrev pub node_of : {M : Type 0} → Deed M → ℕ
node_of d = event_node d.event

-- how often a row applied
abbrev pub times_of : {M : Type 0} → List ℕ → List (Deed M) → ℕ
times_of {M} row ds = sum_by (λ (d : Deed M). if bytes_eq d.row row then 1 else 0) ds

-- words, and one more behind them, unless it is one of them
abbrev pub with_word : List (List ℕ) → List ℕ → List (List ℕ)
with_word [] word = word ∷ []
with_word (w ∷ ws) word = if bytes_eq w word then w ∷ ws else w ∷ with_word ws word

-- words, and behind them the rows of deeds, each row once, in the order in which they applied first
abbrev pub rows_behind : {M : Type 0} → List (List ℕ) → List (Deed M) → List (List ℕ)
rows_behind ws [] = ws
rows_behind ws (d ∷ ds) = rows_behind (with_word ws d.row) ds

abbrev pub rows_in : {M : Type 0} → List (Deed M) → List (List ℕ)
rows_in ds = rows_behind [] ds

-- a row, and how often it applied
abbrev pub row_count : {M : Type 0} → List (Deed M) → List ℕ → RowCount
row_count ds row = record { row = row; times = times_of row ds }

module _ {S M : Type 0} (r : Rules S M) (words : Words S M) (g : Shape) (es : List Event) where
  -- how many messages of kind k a node of a run has sent
  abbrev pub sent_by_node : ℕ → ℕ → ℕ
  sent_by_node v k = sum_in node_of v (sent_of r k) (deeds r words (network_of g) es)

  -- how many of each kind
  abbrev pub counts_of : ℕ → List ℕ
  counts_of v = map (λ k. sent_by_node v k) (range_with_len 0 r.kinds)

  -- those of all nodes, from node 1 on
  abbrev pub node_parts : List (List ℕ)
  node_parts = map counts_of (range_with_len 1 g.nodes)

  -- the rows that applied in a run, in the order in which they applied first, and how often each did
  abbrev pub row_parts : List RowCount
  row_parts = map (row_count (deeds r words (network_of g) es)) (rows_in (deeds r words (network_of g) es))
