-- Lists of keys on their way into order.
use Rattle.std.specs.Prelude.{◌≡◌, ◌↔◌, ℕ, ◌+◌, ◌<◌, true, false, List, length, slice_index_or}
use Rattle.std.specs.List.{Contains}
use Rattle.ghs_graph.specs.declared.key.Key.{Key}
use Rattle.ghs_graph.specs.Key.{key_lt}
use Rattle.ghs_graph.specs.Links.{IsRising}
use Rattle.gather_node.specs.Forest.{is_link}

-- no key is less than the one before it
abbrev pub NoneFalls : List Key → Type 0
NoneFalls ks = (i : ℕ) (d : Key) → i + 1 < length ks → key_lt (slice_index_or ks (i + 1) d) (slice_index_or ks i d) ≡ false

-- these are the links in a list, in key order
pub record AreInOrder (ks keys : List Key) : Type 0 where
  pub rising : IsRising keys
  pub same : (k : Key) → Contains keys k ↔ (Contains ks k × (is_link k ≡ true))
