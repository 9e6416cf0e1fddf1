-- What the network of every graph keeps: links lead to other nodes and back again.
use Rattle.std.specs.Prelude.{◌≡◌, ◌≢◌, ◌≤◌, ℕ, length}
use Rattle.peer_network.specs.Network.{Network, port_at, far, far_port, At}

-- links lead to other nodes and back again, and have one key
pub record IsWired (g : Network) : Type 0 where
  pub there : (v p : ℕ) → At g v p → At g (far g v p) (far_port g v p)
  pub apart : (v p : ℕ) → At g v p → far g v p ≢ v
  pub back : (v p : ℕ) → At g v p → far g (far g v p) (far_port g v p) ≡ v
  pub back_port : (v p : ℕ) → At g v p → far_port g (far g v p) (far_port g v p) ≡ p
  pub same_key : (v p : ℕ) → At g v p → (port_at g (far g v p) (far_port g v p)).key ≡ (port_at g v p).key

-- no node has more ports than a node may have
abbrev pub HasFewPorts : Network → Type 0
HasFewPorts g = (v : ℕ) → length (g.ports v) ≤ 8388608
