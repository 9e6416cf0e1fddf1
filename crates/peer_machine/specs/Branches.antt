-- Links that nodes have marked as branches of a tree.
use Rattle.std.specs.Prelude.{◌≡◌, ◌↔◌, ℕ, Bool, true, List}
use Rattle.std.specs.List.{Contains}
use Rattle.ghs_graph.specs.declared.key.Key.{Key}
use Rattle.ghs_graph.specs.Graph.{Shape}
use Rattle.ghs_graph.specs.Links.{IsRising}
use Rattle.peer_network.specs.Network.{Network, network_of, At, port_at}
use Rattle.peer_machine.specs.Rules.{Rules}
use Rattle.peer_machine.specs.Net.{Net}
use Rattle.peer_machine.specs.Run.{IsNetOf}

module _ {S M : Type 0} (is_branch : S → ℕ → Bool) where
  -- the link with this key is a branch at one end at least
  abbrev pub IsBranchLink : Network → Net S M → Key → Type 0
  IsBranchLink g w k = (v p : ℕ) × At g v p × ((port_at g v p).key ≡ k) × (is_branch (w.node v) p ≡ true)

  -- all branch links, in key order
  pub record AreBranches (g : Network) (w : Net S M) (ks : List Key) : Type 0 where
    pub rising : IsRising ks
    pub all : (k : Key) → Contains ks k ↔ IsBranchLink g w k

-- the branch links of each run that has ended are what the protocol finds
abbrev pub BranchesAreFound : {S M : Type 0} → Rules S M → (Shape → Net S M → Type 0) → (S → ℕ → Bool) → (Shape → List Key → Type 0) → Type 0
BranchesAreFound {S} {M} r has_ended is_branch found =
    (g : Shape) (w : Net S M) (ks : List Key) → IsNetOf r g w → has_ended g w → AreBranches is_branch (network_of g) w ks → found g ks
