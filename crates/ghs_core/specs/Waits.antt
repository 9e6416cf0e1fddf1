-- Whether a node would put a message back, as a test: `Waits` of the protocol.
use Rattle.std.specs.Prelude.{ℕ, Bool, false, ◌&&◌, not, nat_lt, nat_le}
use Rattle.ghs_node.specs.declared.message.Message.{Message}
use Rattle.ghs_node.specs.declared.message.Message.TheVariants.{Connect, Initiate, Test, Accept, Reject, Report, ChangeRoot}
use Rattle.ghs_node.specs.NodeState.{NodeState, mark_at}
use Rattle.ghs_node.specs.Words.{is_at, is_basic, is_find, is_sleeping}

-- at a port of a node that is awake: a Connect not below its level where the mark is Basic, a Test above its level,
-- a Report from its in_branch while it searches
abbrev pub waits : NodeState → ℕ → Message → Bool
waits n p (Connect l) = not (is_sleeping n.head.phase) && (nat_le n.head.level l && is_basic (mark_at n p))
waits n p (Initiate l f s) = false
waits n p (Test l f) = not (is_sleeping n.head.phase) && nat_lt n.head.level l
waits n p Accept = false
waits n p Reject = false
waits n p (Report k) = is_find n.head.phase && is_at n.head.in_branch p
waits n p ChangeRoot = false
