use Rattle.std.proofs.Common.{◌≡◌, ℕ, None}
use Rattle.peer_net.specs.NetState.{net_of}
use Rattle.own_rules.specs.Check.{AreRootsBy, first_node, is_misled}
use Rattle.own_rules.proofs.check.leader_check.Given as goal

abbrev pub invariant-loop-i : goal.invariant-loop-i
invariant-loop-i g l =
    (root : ℕ → ℕ) → AreRootsBy l.net.graph root →
    first_node (is_misled l.rules l.net.graph (net_of g.P.Protocol.rules l.net).node root) l.i ≡ None
