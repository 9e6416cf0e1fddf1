-- Links that are marked as branches, as the walk over the links finds them.
use Rattle.std.specs.Prelude.{ℕ, Bool, ◌||◌, List}
use Rattle.ghs_graph.specs.declared.key.Key.{Key}
use Rattle.ghs_graph.specs.Ports.{port_number}
use Rattle.peer_machine.specs.Net.{Net}

module _ {S M : Type 0} (is_branch : S → ℕ → Bool) where
  -- node v, one of its ends, has marked the link
  abbrev pub is_branch_at : List Key → Net S M → ℕ → Key → Bool
  is_branch_at ks w v k = is_branch (w.node v) (port_number ks v k)

  -- one of its ends has
  abbrev pub is_branch_link : List Key → Net S M → Key → Bool
  is_branch_link ks w k = is_branch_at ks w k.a k || is_branch_at ks w k.b k
