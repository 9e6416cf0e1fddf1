use Rattle.std.proofs.lemmas.Result.{on_err_weaker}
use Rattle.ghs_core.proofs.Playing.{plays_of, go_out, queues_there, reserved}
use Rattle.ghs_core.proofs.net.Net.reserve_from.Goals as goal

pub reserve_from-requires-clause-node : goal.reserve_from-requires-clause-node
reserve_from-requires-clause-node c =
    let plays = plays_of c.self.invariant c.self.view_is c.requires.lawful c.requires.answer in
    rw c.node_of.ensures (queues_there plays)

pub reserve_from-requires-clause-ports : goal.reserve_from-requires-clause-ports
reserve_from-requires-clause-ports c =
    let plays = plays_of c.self.invariant c.self.view_is c.requires.lawful c.requires.answer in
    rw (c.as_slice.ensures, c.node_of.ensures) (go_out plays)

pub invariant_of-self-2 : goal.invariant_of-self-2
invariant_of-self-2 c = rw c.in_ok-reserve.ensures.items (reserved _ _ _ _ _ _ _ c.self.invariant c.reserve_from.ensures.lists)

pub returns-clause-full : goal.returns-clause-full
returns-clause-full c =
    let full = rw (c.as_slice.ensures, c.node_of.ensures) at c.reserve_from.ensures.full in
    rw (← c.self.view_is) (on_err_weaker c.reserve_from.result (λ none room. none room.sends) full)

pub reserve_from-requires-clause-start : goal.reserve_from-requires-clause-start
reserve_from-requires-clause-start c = rw c.node_of.ensures (rw (← c.self.view_is) at c.requires.start)
