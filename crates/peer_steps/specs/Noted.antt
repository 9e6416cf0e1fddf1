-- What of a node is noted before an event, so that what differs afterwards can be told.
use Rattle.std.specs.Prelude.{◌≡◌, ◌⊎◌, ℕ, ◌+◌, ◌<◌, ◌≤◌, List, [], length, slice_index_or}
use Rattle.peer_words.specs.declared.value.Said.{Said}
use Rattle.peer_words.specs.Words.{Words}

-- the marks of old from port first on, and its variables, where no other port of so many has another mark in new
pub record IsNoted {S M : Type 0} (words : Words S M) (old new : S) (ports first : ℕ) (ms : List (List ℕ)) (vs : List Said) : Type 0 where
  pub within : first + length ms ≤ ports
  pub marks : (i : ℕ) → i < length ms → slice_index_or ms i [] ≡ words.mark old (first + i)
  pub others : (p : ℕ) → p < ports → (p < first) ⊎ (first + length ms ≤ p) → words.mark new p ≡ words.mark old p
  pub variables : vs ≡ words.variables old
