use Rattle.std.proofs.Common.{◌≡◌, ℕ, ◌-◌, ◌≤◌, length, slice_index_or}
use Rattle.ghs_graph.specs.Ports.{ports_of}
use Rattle.peer_net.specs.Kept.{no_node}
use Rattle.peer_net.proofs.parts.open_nodes.Given as goal

abbrev pub invariant-loop-i : goal.invariant-loop-i
invariant-loop-i g l =
    (length l.nodes.items ≡ l.i) ×
    ((v : ℕ) → 1 ≤ v → v ≤ l.i →
    slice_index_or l.nodes.items (v - 1) (no_node g.P.Protocol.rules) ≡ g.P.Protocol.rules.opening v (ports_of l.graph.keys v))
