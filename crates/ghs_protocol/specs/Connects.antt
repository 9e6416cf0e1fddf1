-- Which Connects are on their way.
use Rattle.std.specs.Prelude.{◌≡◌, ◌≢◌, ℕ, ◌≤◌}
use Rattle.ghs_node.specs.declared.mark.Mark.TheVariants.{Basic, Branch}
use Rattle.ghs_node.specs.NodeState.{mark_at}
use Rattle.peer_network.specs.Network.{Network, far, far_port}
use Rattle.ghs_protocol.specs.Net.{Net}
use Rattle.ghs_protocol.specs.Ledger.{of_kind}

-- how many Connects wait at the far end of port p of v
abbrev pub connects : Network → Net → ℕ → ℕ → ℕ
connects g w v p = of_kind 0 (w.queue (far g v p) (far_port g v p))

-- of the Connects that port p of v has sent: none is on its way before the port is Branch, one while the far port is still Basic,
-- and never more than one
pub record ConnectsFit (g : Network) (w : Net) (v p : ℕ) : Type 0 where
  pub none : mark_at (w.node v) p ≢ Branch → connects g w v p ≡ 0
  pub one : mark_at (w.node v) p ≡ Branch → mark_at (w.node (far g v p)) (far_port g v p) ≡ Basic → connects g w v p ≡ 1
  pub most : connects g w v p ≤ 1
