-- What every graph keeps beyond its wiring: each link has a key of its own, and each node's ports stand in key order.
use Rattle.std.specs.Prelude.{◌⊎◌, ◌≡◌, ℕ, ◌<◌, true}
use Rattle.ghs_graph.specs.Key.{key_lt}
use Rattle.peer_network.specs.Network.{Network, port_at, far, far_port, At}
use Rattle.peer_network.proofs.lemmas.Wired.{IsWired}

-- two ports with one key are the same, or each other's far end
abbrev pub IsKeyed : Network → Type 0
IsKeyed g =
    (v p u q : ℕ) → At g v p →
    At g u q →
    (port_at g v p).key ≡ (port_at g u q).key →
    ((v ≡ u) × (p ≡ q)) ⊎ ((far g v p ≡ u) × (far_port g v p ≡ q))

-- the keys of a node's ports rise
abbrev pub IsOrdered : Network → Type 0
IsOrdered g = (v p q : ℕ) → p < q → At g v q → key_lt (port_at g v p).key (port_at g v q).key ≡ true

-- all that is used of a graph's network
pub record Ground (g : Network) : Type 0 where
  pub wired : IsWired g
  pub keyed : IsKeyed g
  pub ordered : IsOrdered g
