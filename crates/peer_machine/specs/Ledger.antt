-- Messages counted.
use Rattle.std.specs.Prelude.{◌≡◌, ℕ, ◌+◌, ◌==◌, List, [], ◌∷◌, length, if◌then◌else◌}
use Rattle.peer_network.specs.Network.{Network}
use Rattle.peer_network.specs.Sums.{sum_below, sum_over_ports}
use Rattle.peer_machine.specs.Rules.{Rules}
use Rattle.peer_machine.specs.Net.{Net}

module _ {S M : Type 0} (r : Rules S M) where
  -- how many messages are of kind k
  abbrev pub of_kind : ℕ → List M → ℕ
  of_kind k [] = 0
  of_kind k (m ∷ ms) = (if r.kind_of m == k then 1 else 0) + of_kind k ms

  -- how many of kind k wait anywhere
  abbrev pub waiting_of : Network → Net S M → ℕ → ℕ
  waiting_of g w k = sum_over_ports g (λ v p. of_kind k (w.queue v p))

  -- of each kind, what was sent was consumed or waits
  abbrev pub IsBalanced : Network → Net S M → Type 0
  IsBalanced g w = (k : ℕ) → w.sent k ≡ w.consumed k + waiting_of g w k

  -- the counts of all kinds together
  abbrev pub in_all : (ℕ → ℕ) → ℕ
  in_all f = sum_below r.kinds f

-- how many of all kinds wait anywhere
abbrev pub waiting : {S M : Type 0} → Network → Net S M → ℕ
waiting g w = sum_over_ports g (λ v p. length (w.queue v p))

-- over all kinds: what was sent was consumed or waits
abbrev pub IsBalancedInAll : {S M : Type 0} → Rules S M → Network → Net S M → Type 0
IsBalancedInAll r g w = in_all r w.sent ≡ in_all r w.consumed + waiting g w
