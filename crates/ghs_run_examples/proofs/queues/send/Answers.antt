use Rattle.std.proofs.Common.{arith}
use Rattle.peer_channels.proofs.lemmas.Ports.{same_for}
use Rattle.ghs_run_examples.proofs.Sending.{one_out, one_has_room, far_has_room}
use Rattle.ghs_run_examples.proofs.queues.send.Goals as goal

pub reserve_for-requires-clause-ports : goal.reserve_for-requires-clause-ports
reserve_for-requires-clause-ports g c = rw c.as_slice.ensures
    (one_out c.args.channels.now c.args.v c.args.port c.args.message.now ((c.requires.queues c.args.v c.args.port).1 c.expect_port.ensures))

pub send-requires-clause-port : goal.send-requires-clause-port
send-requires-clause-port g c =
    (c.reserve_for.ensures.lists.ports.queues c.args.v c.args.port).0 ((c.requires.queues c.args.v c.args.port).1 c.expect_port.ensures)

pub send-requires-clause-room : goal.send-requires-clause-room
send-requires-clause-room g c =
    let has = (c.reserve_for.ensures.lists.ports.queues c.args.v c.args.port).0 ((c.requires.queues c.args.v c.args.port).1 c.expect_port.ensures) in
    one_has_room _ c.args.v c.args.port c.args.message.now has (rw (c.as_slice.ensures, c.expect.ensures) at c.reserve_for.ensures.room)

pub returns : goal.returns
returns g c =
    let for = same_for _ c.args.channels.now c.reserve_for.new.self c.reserve_for.ensures.lists.ports c.requires in
    same_for _ c.reserve_for.new.self c.send.new.self c.send.ensures.ports for
