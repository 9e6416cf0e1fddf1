-- The ports of all nodes in one list, each node's in a block of its own.
use Rattle.std.specs.Prelude.{◌≡◌, ℕ, ◌+◌, ◌*◌, ◌≤◌, ◌<◌, List, length, sum, take, slice_index, slice_index_or}
use Rattle.ghs_graph.specs.declared.key.Key.{Key}
use Rattle.ghs_graph.specs.declared.port.Port.{Port}
use Rattle.ghs_graph.specs.declared.layout.Places.{Places}
use Rattle.ghs_graph.specs.Key.{no_key}
use Rattle.ghs_graph.specs.Ports.{no_port, degree, ports_of}

-- how many of the links end at each number up to n
pub record AreDegrees (n : ℕ) (ks : List Key) (cs : List ℕ) : Type 0 where
  pub count : length cs ≡ n + 1
  pub each : (v : ℕ) → v ≤ n → slice_index cs v ≡ degree ks v
  pub total : sum cs ≡ 2 * length ks

-- a block of each length begins where the blocks before it end
pub record AreStarts (cs ss : List ℕ) : Type 0 where
  pub count : length ss ≡ length cs + 1
  pub each : (v : ℕ) → v ≤ length cs → slice_index ss v ≡ sum (take v cs)

-- a block for each number up to n, as long as the number has ports
pub record AreBlocks (n : ℕ) (ks : List Key) (ss : List ℕ) : Type 0 where
  pub count : length ss ≡ n + 2
  pub next : (v : ℕ) → v ≤ n → slice_index ss (v + 1) ≡ slice_index ss v + degree ks v
  pub total : slice_index ss (n + 1) ≡ 2 * length ks

-- the port of v at place j stands where it belongs
abbrev pub IsRight : List Key → List ℕ → List Port → ℕ → ℕ → Type 0
IsRight ks ss ps v j = slice_index_or ps (slice_index ss v + j) no_port ≡ slice_index_or (ports_of ks v) j no_port

-- all ports of the numbers below m stand where they belong
abbrev pub AreRightBelow : ℕ → List Key → List ℕ → List Port → Type 0
AreRightBelow m ks ss ps = (v j : ℕ) → v < m → j < degree ks v → IsRight ks ss ps v j

-- the first i links are ports at these places of their ends
pub record ArePlaced (ks : List Key) (i : ℕ) (qs : List Places) : Type 0 where
  pub count : length qs ≡ i
  pub at_a : (m : ℕ) → m < i → (slice_index_or qs m (record { a = 0; b = 0 })).a ≡ degree (take m ks) (slice_index_or ks m no_key).a
  pub at_b : (m : ℕ) → m < i → (slice_index_or qs m (record { a = 0; b = 0 })).b ≡ degree (take m ks) (slice_index_or ks m no_key).b

-- each node's ports stand in its block
pub record AreLaid (n : ℕ) (ks : List Key) (ss : List ℕ) (ps : List Port) : Type 0 where
  pub blocks : AreBlocks n ks ss
  pub room : length ps ≡ slice_index ss (n + 1)
  pub right : AreRightBelow (n + 1) ks ss ps
