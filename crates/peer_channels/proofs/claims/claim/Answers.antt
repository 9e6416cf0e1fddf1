use Rattle.std.proofs.Common.{◌<◌, length, arith, rules}
use Rattle.peer_channels.proofs.Claiming.{claim_is, on_err}
use Rattle.peer_channels.proofs.SlotClaims.{far_inside, same_places, slots_keep, slots_claimed, slots_full, slots_only, room_for_all, claim_now}
use Rattle.peer_channels.proofs.claims.claim.Goals as goal

pub bounds-queues-far : goal.bounds-queues-far
bounds-queues-far g c =
    far_inside c.args.start _ c.args.sends.now c.loop-port.port-index c.args.queues.now c.loop-port.queues c.loop-port.claims
    c.loop-port-item.result _ _ c.loop-port.invariant c.loop-port-test.true c.loop-port-item.is c.requires.ports c.requires.among
    (omega arith) (omega arith) c.far-far.ensures

pub returns-in_err-reserve-clause-kept : goal.returns-in_err-reserve-clause-kept
returns-in_err-reserve-clause-kept g c =
    slots_keep c.args.start _ c.args.sends.now c.loop-port.port-index c.args.queues.now c.loop-port.queues c.loop-port.claims
    c.loop-port-item.result _ _ c.loop-port.invariant c.loop-port-test.true c.loop-port-item.is c.requires.ports c.requires.among
    (omega arith) (omega arith) c.far-far.ensures c.index-queues-far.result c.reserve.new.self c.reserve.ensures.list
    c.reserve.ensures.kept

pub returns-in_err-reserve-clause-places : goal.returns-in_err-reserve-clause-places
returns-in_err-reserve-clause-places g c =
    same_places c.args.start _ c.args.sends.now c.loop-port.port-index c.args.queues.now c.loop-port.queues c.loop-port.claims
    c.loop-port-item.result _ _ c.loop-port.invariant c.loop-port-test.true c.loop-port-item.is c.requires.ports c.requires.among
    (omega arith) (omega arith) c.far-far.ensures c.index-queues-far.result c.reserve.new.self c.reserve.ensures.far

pub returns-in_err-reserve-clause-full : goal.returns-in_err-reserve-clause-full
returns-in_err-reserve-clause-full g c =
    let inside =
    claim_now c.args.start _ c.args.queues.now c.loop-port.claims c.args.sends.now c.loop-port.port-index c.loop-port-item.result
    c.requires.ports c.loop-port-test.true c.loop-port-item.is (omega arith) in
    let claim = claim_is c.loop-port.claims c.loop-port-item.result.0 inside in
    let full = c.in_err-reserve.ensures.full in
    on_err c.from_residual.result
    (slots_full c.args.start _ c.args.sends.now c.loop-port.port-index c.args.queues.now c.loop-port.queues c.loop-port.claims
    c.loop-port-item.result _ _ c.loop-port.invariant c.loop-port-test.true c.loop-port-item.is c.requires.ports c.requires.among
    (omega arith) (omega arith) c.far-far.ensures c.index-queues-far.result c.reserve.new.self
    (omega (arith, full, claim)))

pub loop-port-preserved : goal.loop-port-preserved
loop-port-preserved g c =
    let inside =
    claim_now c.args.start _ c.args.queues.now c.loop-port.claims c.args.sends.now c.loop-port.port-index c.loop-port-item.result
    c.requires.ports c.loop-port-test.true c.loop-port-item.is (omega arith) in
    let claim = claim_is c.loop-port.claims c.loop-port-item.result.0 inside in
    let room = c.in_ok-reserve.ensures.room in
    slots_claimed c.args.start _ c.args.sends.now c.loop-port.port-index c.args.queues.now c.loop-port.queues c.loop-port.claims
    c.loop-port-item.result _ _ c.loop-port.invariant c.loop-port-test.true c.loop-port-item.is c.requires.ports c.requires.among
    (omega arith) (omega arith) c.far-far.ensures c.index-queues-far.result c.reserve.new.self c.reserve.ensures.list
    c.reserve.ensures.kept (omega (arith, room, claim)) c.reserve.ensures.far

pub offset_bounds-queues-far : goal.offset_bounds-queues-far
offset_bounds-queues-far g c =
    let inside =
    far_inside c.args.start _ c.args.sends.now c.loop-port.port-index c.args.queues.now c.loop-port.queues c.loop-port.claims
    c.loop-port-item.result _ _ c.loop-port.invariant c.loop-port-test.true c.loop-port-item.is c.requires.ports c.requires.among
    (omega arith) (omega arith) c.far-far.ensures in
    let same = c.loop-port.auto.queues in
    let before : c.far-far.result < length c.args.queues.now = omega (arith, inside, same) in
    search rules

pub returns-in_err-reserve-clause-claims : goal.returns-in_err-reserve-clause-claims
returns-in_err-reserve-clause-claims g c =
    slots_only c.args.start _ c.args.sends.now c.loop-port.port-index c.args.queues.now c.loop-port.queues c.loop-port.claims
    c.loop-port-item.result _ _ c.loop-port.invariant c.loop-port-test.true c.loop-port-item.is c.requires.ports c.requires.among
    (omega arith) (omega arith) c.far-far.ensures

pub returns-clause-room : goal.returns-clause-room
returns-clause-room g c =
    room_for_all c.args.start _ c.args.sends.now c.loop-port.port-index c.args.queues.now c.loop-port.queues c.loop-port.claims
    c.loop-port.invariant (let past = c.loop-port-test.false in omega arith)
