-- Messages that a node only puts back.
use Rattle.std.specs.Prelude.{ℕ}
use Rattle.ghs_node.specs.Reaction.{requeues}
use Rattle.peer_network.specs.declared.event.Event.TheVariants.{Take}
use Rattle.ghs_core.specs.NetState.{NetState, net_of, IsAnswer}

-- all that node v does with the first message at its port p is to put it back
abbrev pub IsPutBack : NetState → ℕ → ℕ → Type 0
IsPutBack s v p = IsAnswer s (Take v p) (requeues ((net_of s).node v).head)
