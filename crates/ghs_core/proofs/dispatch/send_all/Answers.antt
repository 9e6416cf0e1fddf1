use Rattle.std.proofs.Common.{take, arith, ℕ, length-take, ap, sym, ◌∙◌}
use Rattle.peer_channels.proofs.lemmas.Ports.{same_first}
use Rattle.ghs_node.specs.declared.message.Message.{Message}
use Rattle.ghs_node.specs.Kind.{place_of}
use Rattle.peer_channels.proofs.lemmas.Rooms.{port_out, room_for_next}
use Rattle.ghs_core.proofs.Sending.{kind_few, none_sent, one_sent}
use Rattle.ghs_core.proofs.dispatch.send_all.Goals as goal

pub loop-port-init : goal.loop-port-init
loop-port-init c = λ g for. none_sent g c.args.v c.args.sends.now c.args.channels.now c.args.sent.now c.requires.room

pub send_from-requires-clause-start : goal.send_from-requires-clause-start
send_from-requires-clause-start c =
    let so_far = c.loop-port.invariant c.requires.queues.0 c.requires.queues.1 in
    c.requires.start ∙ sym (same_first c.args.channels.now c.loop-port.channels so_far.arrives.ports c.args.v)

pub send_from-requires-clause-port : goal.send_from-requires-clause-port
send_from-requires-clause-port c =
    let so_far = c.loop-port.invariant c.requires.queues.0 c.requires.queues.1 in
    port_out c.args.channels.now c.loop-port.channels c.args.v c.args.sends.now c.loop-port.port-index c.loop-port-item.result c.requires.ports
    so_far.arrives.ports c.loop-port-test.true c.loop-port-item.is

pub send_from-requires-clause-room : goal.send_from-requires-clause-room
send_from-requires-clause-room c =
    let x = c.loop-port-item.result in
    let so_far = c.loop-port.invariant c.requires.queues.0 c.requires.queues.1 in
    let port =
    port_out c.args.channels.now c.loop-port.channels c.args.v c.args.sends.now c.loop-port.port-index x c.requires.ports so_far.arrives.ports
    c.loop-port-test.true c.loop-port-item.is in
    room_for_next c.args.v c.loop-port.channels c.args.sends.now c.loop-port.port-index x x c.loop-port-test.true c.loop-port-item.is port so_far.room

pub send_from-requires-clause-total : goal.send_from-requires-clause-total
send_from-requires-clause-total c =
    let so_far = c.loop-port.invariant c.requires.queues.0 c.requires.queues.1 in
    let total = so_far.arrives.total in
    omega (arith, total, length-take {A = ℕ × Message} c.loop-port.port-index c.args.sends.now)

pub overflow_add-sent : goal.overflow_add-sent
overflow_add-sent c =
    let k = c.place.result in
    let so_far = c.loop-port.invariant c.requires.queues.0 c.requires.queues.1 in
    let some = so_far.counts k c.place.ensures.bound in
    let few = kind_few k (take c.loop-port.port-index c.args.sends.now) in
    let fits = c.requires.fits k c.place.ensures.bound in
    omega (arith, some, few, fits, length-take {A = ℕ × Message} c.loop-port.port-index c.args.sends.now)

pub loop-port-preserved : goal.loop-port-preserved
loop-port-preserved c = λ g for.
    let x = c.loop-port-item.result in
    one_sent g c.args.v c.args.sends.now c.loop-port.port-index x x c.args.channels.now c.loop-port.channels _ c.args.sent.now c.loop-port.sent
    c.place.result for c.requires.ports (omega arith) c.loop-port-test.true c.loop-port-item.is
    (c.place.ensures.place ∙ ap place_of c.kind.ensures) c.place.ensures.bound (c.loop-port.invariant g for) c.send_from.ensures
