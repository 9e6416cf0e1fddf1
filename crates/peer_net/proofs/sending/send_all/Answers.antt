use Rattle.std.proofs.Common.{arith, ℕ, ap, sym, ◌∙◌, length-take}
use Rattle.peer_channels.proofs.lemmas.Ports.{same_first}
use Rattle.peer_channels.proofs.lemmas.Rooms.{port_out, room_for_next}
use Rattle.peer_net.proofs.Showing.{none_sent, one_sent, all_sent}
use Rattle.peer_net.proofs.sending.send_all.Goals as goal

pub loop-port-init : goal.loop-port-init
loop-port-init g c = λ h for. none_sent h c.args.v c.args.sends.now c.args.channels.now c.requires.room

pub send_from-requires-clause-start : goal.send_from-requires-clause-start
send_from-requires-clause-start g c =
    let so_far = c.loop-port.invariant c.requires.queues.0 c.requires.queues.1 in
    c.requires.start ∙ sym (same_first c.args.channels.now c.loop-port.channels so_far.ports c.args.v)

pub send_from-requires-clause-port : goal.send_from-requires-clause-port
send_from-requires-clause-port g c =
    let so_far = c.loop-port.invariant c.requires.queues.0 c.requires.queues.1 in
    port_out c.args.channels.now c.loop-port.channels c.args.v c.args.sends.now c.loop-port.port-index c.loop-port-item.result c.requires.ports
    so_far.ports c.loop-port-test.true c.loop-port-item.is

pub send_from-requires-clause-room : goal.send_from-requires-clause-room
send_from-requires-clause-room g c =
    let x = c.loop-port-item.result in
    let so_far = c.loop-port.invariant c.requires.queues.0 c.requires.queues.1 in
    let port =
    port_out c.args.channels.now c.loop-port.channels c.args.v c.args.sends.now c.loop-port.port-index x c.requires.ports so_far.ports
    c.loop-port-test.true c.loop-port-item.is in
    room_for_next c.args.v c.loop-port.channels c.args.sends.now c.loop-port.port-index x x c.loop-port-test.true c.loop-port-item.is port so_far.room

pub send_from-requires-clause-total : goal.send_from-requires-clause-total
send_from-requires-clause-total g c =
    let so_far = c.loop-port.invariant c.requires.queues.0 c.requires.queues.1 in
    let total = so_far.total in
    omega (arith, total, length-take {A = ℕ × g.row.M.Denot} c.loop-port.port-index c.args.sends.now)

pub loop-port-preserved : goal.loop-port-preserved
loop-port-preserved g c = λ h for.
    let x = c.loop-port-item.result in
    one_sent h c.args.v c.args.sends.now c.loop-port.port-index x x c.args.channels.now c.loop-port.channels _ for c.requires.ports
    c.loop-port-test.true c.loop-port-item.is (c.loop-port.invariant h for) (rw c.again.ensures at c.send_from.ensures)

pub returns-clause-queues : goal.returns-clause-queues
returns-clause-queues g c = λ h waits it.
    all_sent h c.args.v c.args.sends.now c.loop-port.port-index c.args.channels.now c.loop-port.channels (c.loop-port.invariant h it.ports)
    (let past = c.loop-port-test.false in omega arith) waits it

pub returns-clause-total : goal.returns-clause-total
returns-clause-total g c =
    let so_far = c.loop-port.invariant c.requires.queues.0 c.requires.queues.1 in
    let past = c.loop-port-test.false in
    so_far.total ∙ ap (λ n. n) (omega (arith, past, length-take {A = ℕ × g.row.M.Denot} c.loop-port.port-index c.args.sends.now))
