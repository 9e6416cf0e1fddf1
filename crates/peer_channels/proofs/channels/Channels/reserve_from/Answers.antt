use Rattle.std.proofs.Common.{◌≡◌, ◌∙◌, length, ap, arith}
use Rattle.std.proofs.lemmas.Result.{on_err_weaker, on_ok_weaker}
use Rattle.peer_channels.proofs.Reserving.{ports_in_stretch, room_here, written_over}
use Rattle.peer_channels.proofs.Slots.{slots_among, slots_keep_lists, slots_still_kept, slots_room_there}
use Rattle.peer_channels.proofs.channels.Channels.reserve_from.Goals as goal

pub make_room-requires-clause-ports : goal.make_room-requires-clause-ports
make_room-requires-clause-ports g c =
    rw (c.deref_mut.ensures.value, c.deref_mut-2.ensures.value)
    (ports_in_stretch _ c.self.invariant.order c.args.v _ (rw (← c.self.view_is) at c.requires.node) (rw (← c.self.view_is) at c.requires.start) _ _
    c.self.invariant c.args.sends.now (rw (← c.self.view_is) at c.requires.ports))

pub make_room-requires-clause-among : goal.make_room-requires-clause-among
make_room-requires-clause-among g c =
    rw (c.deref_mut.ensures.value, c.deref_mut-2.ensures.value)
    (slots_among _ _ c.self.invariant.order c.args.v _ (rw (← c.self.view_is) at c.requires.node) (rw (← c.self.view_is) at c.requires.start) _ _
    c.self.invariant)

pub invariant_of-self : goal.invariant_of-self
invariant_of-self g c =
    let queues = c.self.inside.queues in
    let claims = c.self.inside.claims in
    let q : length c.make_room.new.queues ≡ length queues.items = c.make_room.auto.queues ∙ ap length c.deref_mut.ensures.value in
    let k : length c.make_room.new.claims ≡ length claims.items = c.make_room.auto.claims ∙ ap length c.deref_mut-2.ensures.value in
    let kept = rw c.deref_mut.ensures.value at c.make_room.ensures.kept in
    let places = rw c.deref_mut.ensures.value at c.make_room.ensures.places in
    rw (
      written_over queues.len c.make_room.new.queues queues.items (omega arith) q,
      written_over claims.len c.make_room.new.claims claims.items (omega arith) k,
    )
    (slots_still_kept _ _ _ q places _ _ _ c.self.invariant kept k c.make_room.ensures.unclaimed)

pub returns-clause-lists : goal.returns-clause-lists
returns-clause-lists g c =
    let queues = c.self.inside.queues in
    let q : length c.make_room.new.queues ≡ length queues.items = c.make_room.auto.queues ∙ ap length c.deref_mut.ensures.value in
    let kept = rw c.deref_mut.ensures.value at c.make_room.ensures.kept in
    let places = rw c.deref_mut.ensures.value at c.make_room.ensures.places in
    rw (← c.self.view_is, written_over queues.len c.make_room.new.queues queues.items (omega arith) q)
    (slots_keep_lists _ _ _ q places c.self.invariant.order kept)

pub returns-clause-room : goal.returns-clause-room
returns-clause-room g c =
    let queues = c.self.inside.queues in
    let q : length c.make_room.new.queues ≡ length queues.items = c.make_room.auto.queues ∙ ap length c.deref_mut.ensures.value in
    let places = rw c.deref_mut.ensures.value at c.make_room.ensures.places in
    let room = rw (c.deref_mut.ensures.value, c.deref_mut-2.ensures.value) at c.make_room.ensures.room in
    rw (written_over queues.len c.make_room.new.queues queues.items (omega arith) q)
    (on_ok_weaker c.make_room.result (slots_room_there _ _ c.self.invariant.order c.args.v _ (rw (← c.self.view_is) at c.requires.node)
    (rw (← c.self.view_is) at c.requires.start) _ _ c.self.invariant _ q places c.args.sends.now) room)

pub returns-clause-full : goal.returns-clause-full
returns-clause-full g c =
    let full = rw (c.deref_mut.ensures.value, c.deref_mut-2.ensures.value) at c.make_room.ensures.full in
    rw (← c.self.view_is)
    (on_err_weaker c.make_room.result
    (λ none room. none (room_here _ c.self.invariant.order c.args.v _ (rw (← c.self.view_is) at c.requires.node)
    (rw (← c.self.view_is) at c.requires.start) _ _ c.self.invariant c.args.sends.now (rw (← c.self.view_is) at c.requires.ports) room))
    full)
