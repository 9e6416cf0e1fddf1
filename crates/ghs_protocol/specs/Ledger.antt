-- Messages counted.
use Rattle.std.specs.Prelude.{◌≡◌, ℕ, ◌+◌, ◌==◌, List, [], ◌∷◌, length, if◌then◌else◌}
use Rattle.ghs_node.specs.declared.message.Message.{Message}
use Rattle.ghs_node.specs.Kind.{kind_of, place_of}
use Rattle.peer_network.specs.Network.{Network}
use Rattle.peer_network.specs.Sums.{sum_below, sum_over_ports}
use Rattle.ghs_protocol.specs.Net.{Net}

-- how many messages have the kind at place k
abbrev pub of_kind : ℕ → List Message → ℕ
of_kind k [] = 0
of_kind k (m ∷ ms) = (if place_of (kind_of m) == k then 1 else 0) + of_kind k ms

-- how many of the kind at place k wait anywhere, and how many of all kinds
abbrev pub waiting_of : Network → Net → ℕ → ℕ
waiting_of g w k = sum_over_ports g (λ v p. of_kind k (w.queue v p))

abbrev pub waiting : Network → Net → ℕ
waiting g w = sum_over_ports g (λ v p. length (w.queue v p))

-- of each kind, what was sent was consumed or waits
abbrev pub IsBalanced : Network → Net → Type 0
IsBalanced g w = (k : ℕ) → w.sent k ≡ w.consumed k + waiting_of g w k

-- the counts of the seven kinds together
abbrev pub in_all : (ℕ → ℕ) → ℕ
in_all f = sum_below 7 f

-- over all kinds: what was sent was consumed or waits
abbrev pub IsBalancedInAll : Network → Net → Type 0
IsBalancedInAll g w = in_all w.sent ≡ in_all w.consumed + waiting g w
