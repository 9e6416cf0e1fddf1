use Rattle.std.proofs.Common.{arith, sym, ◌∙◌}
use Rattle.ghs_core.proofs.Playing.{plays_of, can_react, waits, first_still, out_still, disposed_for, room_still, total_below, sent_below, played, played_rooms, played_event}
use Rattle.ghs_core.proofs.net.Net.play_from.Goals as goal

pub dispose-requires-clause-waits : goal.dispose-requires-clause-waits
dispose-requires-clause-waits c =
    let plays = plays_of c.self.invariant c.self.view_is c.requires.lawful c.requires.answer in
    waits plays

pub apply-requires : goal.apply-requires
apply-requires c =
    let plays = plays_of c.self.invariant c.self.view_is c.requires.lawful c.requires.answer in
    can_react plays c.index_mut-node.result.now (rw c.node_of-v.ensures at c.index_mut-node.ensures.value)

pub send_all-requires-clause-queues : goal.send_all-requires-clause-queues
send_all-requires-clause-queues c =
    let plays = plays_of c.self.invariant c.self.view_is c.requires.lawful c.requires.answer in
    (c.self.inside.graph, disposed_for plays c.dispose.new.channels c.dispose.new.counts c.dispose.ensures)

pub send_all-requires-clause-ports : goal.send_all-requires-clause-ports
send_all-requires-clause-ports c =
    let plays = plays_of c.self.invariant c.self.view_is c.requires.lawful c.requires.answer in
    rw (c.as_slice.ensures, c.node_of-v.ensures) (out_still plays c.dispose.new.channels c.dispose.new.counts c.dispose.ensures)

pub send_all-requires-clause-room : goal.send_all-requires-clause-room
send_all-requires-clause-room c =
    let plays = plays_of c.self.invariant c.self.view_is c.requires.lawful c.requires.answer in
    rw (c.as_slice.ensures, c.node_of-v.ensures)
    (room_still plays c.dispose.new.channels c.dispose.new.counts c.dispose.ensures (rw (← c.self.view_is) at c.requires.room.sends))

pub send_all-requires-clause-total : goal.send_all-requires-clause-total
send_all-requires-clause-total c =
    let plays = plays_of c.self.invariant c.self.view_is c.requires.lawful c.requires.answer in
    rw c.as_slice.ensures (total_below plays c.dispose.new.channels c.dispose.new.counts c.dispose.ensures (rw (← c.self.view_is) at c.requires.few))

pub send_all-requires-clause-fits : goal.send_all-requires-clause-fits
send_all-requires-clause-fits c =
    let plays = plays_of c.self.invariant c.self.view_is c.requires.lawful c.requires.answer in
    rw c.as_slice.ensures (sent_below plays c.dispose.new.channels c.dispose.new.counts c.dispose.ensures (rw (← c.self.view_is) at c.requires.few))

pub invariant_of-self : goal.invariant_of-self
invariant_of-self c =
    let plays = plays_of c.self.invariant c.self.view_is c.requires.lawful c.requires.answer in
    let arrives = rw (c.node_of-v.ensures, c.as_slice.ensures) at
    (c.send_all.ensures.arrives c.self.inside.graph (disposed_for plays c.dispose.new.channels c.dispose.new.counts c.dispose.ensures)) in
    let noted = rw c.node_of-v.ensures at c.note.ensures in
    let told = rw c.as_slice.ensures at c.send_all.ensures.counts in
    rw (c.push_reserved.ensures.items, c.node_of-v.ensures)
    (played plays c.dispose.new.channels c.dispose.new.counts c.dispose.ensures c.send_all.new.channels c.send_all.new.sent arrives told
    c.note.new.self noted c.index_mut-node.result.now c.apply.new.self (rw c.node_of-v.ensures at c.index_mut-node.ensures.value)
    c.apply.ensures)

pub returns-clause-event : goal.returns-clause-event
returns-clause-event c =
    let plays = plays_of c.self.invariant c.self.view_is c.requires.lawful c.requires.answer in
    rw (← c.self.view_is, c.push_reserved.ensures.items) (played_event plays)

pub note-requires-clause-halts : goal.note-requires-clause-halts
note-requires-clause-halts c = (_, c.self.invariant.halted)

pub returns-clause-room : goal.returns-clause-room
returns-clause-room c =
    let plays = plays_of c.self.invariant c.self.view_is c.requires.lawful c.requires.answer in
    let arrives = rw (c.node_of-v.ensures, c.as_slice.ensures) at
    (c.send_all.ensures.arrives c.self.inside.graph (disposed_for plays c.dispose.new.channels c.dispose.new.counts c.dispose.ensures)) in
    let told = rw c.as_slice.ensures at c.send_all.ensures.counts in
    rw (← c.self.view_is) (record {
      trace = omega (arith, c.push_reserved.ensures.capacity);
      queues =
          played_rooms plays c.dispose.new.channels c.dispose.new.counts c.dispose.ensures c.send_all.new.channels c.send_all.new.sent arrives told;
    })

pub dispose-requires-clause-start : goal.dispose-requires-clause-start
dispose-requires-clause-start c = rw (← c.self.view_is) at c.requires.start

pub send_all-requires-clause-start : goal.send_all-requires-clause-start
send_all-requires-clause-start c =
    let plays = plays_of c.self.invariant c.self.view_is c.requires.lawful c.requires.answer in
    rw c.node_of-v.ensures
    ((rw (← c.self.view_is) at c.requires.start) ∙
    sym (first_still plays c.dispose.new.channels c.dispose.new.counts c.dispose.ensures))
