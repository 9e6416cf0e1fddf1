use Rattle.std.proofs.Common.{◌≡◌, false, ◌∙◌, sym, arith}
use Rattle.boruvka_node.specs.Words.{is_basic}
use Rattle.boruvka_node.proofs.LeastBasic.{least_basic_one, least_next, least_gone, least_same}
use Rattle.boruvka_node.proofs.ports.Ports.least_basic_with.Goals as goal

pub returns-then-is_basic : goal.returns-then-is_basic
returns-then-is_basic c =
    let len = rw (← c.self.view_is) at c.len.ensures.len in
    let basic = sym c.is_basic.ensures ∙ c.if-is_basic.true in
    rw (← c.self.view_is, c.min.ensures)
    (sym (least_basic_one _ c.args.port (omega arith) c.args.state c.self.inside.least basic c.self.invariant.first))

pub returns-then-port-self : goal.returns-then-port-self
returns-then-port-self c =
    let len = rw (← c.self.view_is) at c.len.ensures.len in
    let other : is_basic c.args.state.mark ≡ false = sym c.is_basic.ensures ∙ c.if-is_basic.false in
    let same = least_same _ c.args.port (omega arith) c.args.state c.self.inside.least other c.if-port-self.true c.self.invariant.first in
    c.least_basic-then-port-self.ensures ∙ rw (← c.self.view_is) (sym same)

pub returns-then-next-len : goal.returns-then-next-len
returns-then-next-len c =
    let len = rw (← c.self.view_is) at c.len.ensures.len in
    let len-2 = rw (← c.self.view_is) at c.len-2.ensures.len in
    let other : is_basic c.args.state.mark ≡ false = sym c.is_basic.ensures ∙ c.if-is_basic.false in
    let next = rw c.deref.ensures.value at c.first_basic-next.ensures in
    rw (← c.self.view_is)
    (sym (least_next _ c.args.port (omega arith) c.args.state c.self.inside.least c.first_basic-next.result other c.if-port-self.false
    c.self.invariant.first next (omega arith)))

pub returns-else-next-len : goal.returns-else-next-len
returns-else-next-len c =
    let len = rw (← c.self.view_is) at c.len.ensures.len in
    let len-2 = rw (← c.self.view_is) at c.len-2.ensures.len in
    let other : is_basic c.args.state.mark ≡ false = sym c.is_basic.ensures ∙ c.if-is_basic.false in
    let next = rw c.deref.ensures.value at c.first_basic-next.ensures in
    rw (← c.self.view_is)
    (sym (least_gone _ c.args.port (omega arith) c.args.state c.self.inside.least c.first_basic-next.result other c.if-port-self.false
    c.self.invariant.first next (omega arith)))
