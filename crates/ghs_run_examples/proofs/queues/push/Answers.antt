use Rattle.std.proofs.Common.{arith}
use Rattle.peer_channels.proofs.lemmas.Ports.{same_for}
use Rattle.ghs_run_examples.proofs.Sending.{one_out, one_has_room, far_has_room}
use Rattle.ghs_run_examples.proofs.queues.push.Goals as goal

pub reserve_for-requires-clause-ports : goal.reserve_for-requires-clause-ports
reserve_for-requires-clause-ports g c = rw c.as_slice.ensures
    (one_out c.args.channels.now c.args.v c.args.port c.args.message.now ((c.requires.queues c.args.v c.args.port).1 c.expect_port.ensures))

pub push-requires-clause-port : goal.push-requires-clause-port
push-requires-clause-port g c =
    let for = same_for _ c.args.channels.now c.reserve_for.new.self c.reserve_for.ensures.lists.ports c.requires in
    (for.queues _ _).1 c.expect_port-2.ensures

pub push-requires-clause-room : goal.push-requires-clause-room
push-requires-clause-room g c =
    let for = same_for _ c.args.channels.now c.reserve_for.new.self c.reserve_for.ensures.lists.ports c.requires in
    rw c.ports.ensures (far_has_room _ _ for c.args.v c.args.port c.args.message.now c.expect_port.ensures
    (rw (c.as_slice.ensures, c.expect.ensures) at c.reserve_for.ensures.room))

pub returns : goal.returns
returns g c =
    let for = same_for _ c.args.channels.now c.reserve_for.new.self c.reserve_for.ensures.lists.ports c.requires in
    same_for _ c.reserve_for.new.self c.push.new.self c.push.ensures.ports for
