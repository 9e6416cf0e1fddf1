use Rattle.std.proofs.Common.{arith, ◌-◌, [], ◌∷◌, ◌++◌, Some, slice_set, sym, ap, ◌∙◌}
use Rattle.std.proofs.lemmas.List.{get_or_default}
use Rattle.peer_network.specs.Network.{network_of}
use Rattle.peer_channels.proofs.lemmas.Ports.{same_first}
use Rattle.peer_machine.specs.Net.{event_node}
use Rattle.peer_machine.proofs.lemmas.Events.{happens_so}
use Rattle.peer_net.proofs.Playing.{promises_of, can_react, plays_of, reserved, node_inside, go_out, fits_sent, fits_total, waits, later_is, room, fits_taken, taken_some, taken_start, taken_out, taken_room, keeps, happens, next_is, sends}
use Rattle.peer_net.proofs.net.Net.play_placed.Goals as goal

pub react-requires : goal.react-requires
react-requires g c =
    let p = promises_of g.met.P.Protocol.has_kinds g.met.P.Protocol.has_rules g.met.P.Protocol.is_bounded g.met.P.Protocol.bound_fits in
    let lawful = rw (← c.self.view_is) at c.requires.lawful in
    let work = rw (← c.self.view_is) at c.work_placed-work.ensures in
    let node = c.node-v.ensures in
    record {
      setting = c.self.invariant.0;
      rule =
          can_react c.args.placed.event p c.self.invariant.1 lawful c.node-v.result node c.index-node.result.now c.index-node.ensures
          c.work_placed-work.result work;
    }

pub reserve_from-requires-clause-ports : goal.reserve_from-requires-clause-ports
reserve_from-requires-clause-ports g c =
    let p = promises_of g.met.P.Protocol.has_kinds g.met.P.Protocol.has_rules g.met.P.Protocol.is_bounded g.met.P.Protocol.bound_fits in
    let lawful = rw (← c.self.view_is) at c.requires.lawful in
    let work = rw (← c.self.view_is) at c.work_placed-work.ensures in
    let node = c.node-v.ensures in
    let plays =
    plays_of c.args.placed.event p c.self.invariant.1 lawful c.node-v.result node c.index-node.result.now c.index-node.ensures
    c.work_placed-work.result work _ c.in_ok-answer.ensures in
    rw (c.deref.ensures.value, node) (go_out plays)

pub invariant_of-self-in_err-reserve_from : goal.invariant_of-self-in_err-reserve_from
invariant_of-self-in_err-reserve_from g c =
    (c.self.invariant.0, rw c.reserve.ensures.items (reserved c.self.invariant.1 c.reserve_from.new.self c.reserve_from.ensures.lists))

pub count_sends-requires-clause-fits : goal.count_sends-requires-clause-fits
count_sends-requires-clause-fits g c =
    let p = promises_of g.met.P.Protocol.has_kinds g.met.P.Protocol.has_rules g.met.P.Protocol.is_bounded g.met.P.Protocol.bound_fits in
    let lawful = rw (← c.self.view_is) at c.requires.lawful in
    let work = rw (← c.self.view_is) at c.work_placed-work.ensures in
    let node = c.node-v.ensures in
    let plays =
    plays_of c.args.placed.event p c.self.invariant.1 lawful c.node-v.result node c.index-node.result.now c.index-node.ensures
    c.work_placed-work.result work _ c.in_ok-answer.ensures in
    rw c.deref-2.ensures.value (fits_sent plays)

pub take_in-requires-clause-start : goal.take_in-requires-clause-start
take_in-requires-clause-start g c =
    c.start_of-start.ensures ∙ sym (same_first c.self.inside.channels c.reserve_from.new.self c.reserve_from.ensures.lists.ports _)

pub take_in-requires-clause-waits : goal.take_in-requires-clause-waits
take_in-requires-clause-waits g c =
    let p = promises_of g.met.P.Protocol.has_kinds g.met.P.Protocol.has_rules g.met.P.Protocol.is_bounded g.met.P.Protocol.bound_fits in
    let lawful = rw (← c.self.view_is) at c.requires.lawful in
    let work = rw (← c.self.view_is) at c.work_placed-work.ensures in
    let node = c.node-v.ensures in
    let held = reserved c.self.invariant.1 c.reserve_from.new.self c.reserve_from.ensures.lists in
    let plays =
    plays_of c.args.placed.event p held lawful c.node-v.result node c.index-node.result.now c.index-node.ensures
    c.work_placed-work.result work _ c.in_ok-answer.ensures in
    waits plays

pub take_in-requires-clause-fits : goal.take_in-requires-clause-fits
take_in-requires-clause-fits g c =
    let p = promises_of g.met.P.Protocol.has_kinds g.met.P.Protocol.has_rules g.met.P.Protocol.is_bounded g.met.P.Protocol.bound_fits in
    let lawful = rw (← c.self.view_is) at c.requires.lawful in
    let work = rw (← c.self.view_is) at c.work_placed-work.ensures in
    let node = c.node-v.ensures in
    let plays =
    plays_of c.args.placed.event p c.self.invariant.1 lawful c.node-v.result node c.index-node.result.now c.index-node.ensures
    c.work_placed-work.result work _ c.in_ok-answer.ensures in
    let counted = rw c.deref-2.ensures.value at c.count_sends.ensures in
    let later =
    later_is c.args.placed.event p c.self.invariant.1 lawful c.node-v.result node c.index-node.result.now c.index-node.ensures
    c.work_placed-work.result work c.defers-later.result c.defers-later.ensures in
    rw later (fits_taken plays c.count_sends.new.counts counted)

pub take_in-requires-clause-room : goal.take_in-requires-clause-room
take_in-requires-clause-room g c =
    let p = promises_of g.met.P.Protocol.has_kinds g.met.P.Protocol.has_rules g.met.P.Protocol.is_bounded g.met.P.Protocol.bound_fits in
    let old = c.self.inside.trace in
    let new = c.reserve.new.self in
    let counted = rw c.deref-2.ensures.value at c.count_sends.ensures in
    rw counted.deferred
    (room c.self.invariant.1 p old.len new.cap old.ok.0 (omega (arith, c.reserve.ensures.len, c.in_ok-reserve.ensures.ok)) new.small)

pub send_all-requires-clause-queues : goal.send_all-requires-clause-queues
send_all-requires-clause-queues g c =
    let p = promises_of g.met.P.Protocol.has_kinds g.met.P.Protocol.has_rules g.met.P.Protocol.is_bounded g.met.P.Protocol.bound_fits in
    let lawful = rw (← c.self.view_is) at c.requires.lawful in
    let work = rw (← c.self.view_is) at c.work_placed-work.ensures in
    let node = c.node-v.ensures in
    let held = reserved c.self.invariant.1 c.reserve_from.new.self c.reserve_from.ensures.lists in
    let plays =
    plays_of c.args.placed.event p held lawful c.node-v.result node c.index-node.result.now c.index-node.ensures
    c.work_placed-work.result work _ c.in_ok-answer.ensures in
    let counted = rw c.deref-2.ensures.value at c.count_sends.ensures in
    let later =
    later_is c.args.placed.event p c.self.invariant.1 lawful c.node-v.result node c.index-node.result.now c.index-node.ensures
    c.work_placed-work.result work c.defers-later.result c.defers-later.ensures in
    let taken = rw later at c.take_in.ensures in
    taken_some plays c.count_sends.new.counts c.take_in.new.counts c.take_in.new.channels counted taken

pub send_all-requires-clause-start : goal.send_all-requires-clause-start
send_all-requires-clause-start g c =
    let p = promises_of g.met.P.Protocol.has_kinds g.met.P.Protocol.has_rules g.met.P.Protocol.is_bounded g.met.P.Protocol.bound_fits in
    let lawful = rw (← c.self.view_is) at c.requires.lawful in
    let work = rw (← c.self.view_is) at c.work_placed-work.ensures in
    let node = c.node-v.ensures in
    let held = reserved c.self.invariant.1 c.reserve_from.new.self c.reserve_from.ensures.lists in
    let plays =
    plays_of c.args.placed.event p held lawful c.node-v.result node c.index-node.result.now c.index-node.ensures
    c.work_placed-work.result work _ c.in_ok-answer.ensures in
    let counted = rw c.deref-2.ensures.value at c.count_sends.ensures in
    let later =
    later_is c.args.placed.event p c.self.invariant.1 lawful c.node-v.result node c.index-node.result.now c.index-node.ensures
    c.work_placed-work.result work c.defers-later.result c.defers-later.ensures in
    let taken = rw later at c.take_in.ensures in
    let start = c.start_of-start.ensures ∙ sym (same_first c.self.inside.channels c.reserve_from.new.self c.reserve_from.ensures.lists.ports _) in
    rw node (taken_start plays c.count_sends.new.counts c.take_in.new.counts c.take_in.new.channels counted taken c.start_of-start.result start)

pub send_all-requires-clause-ports : goal.send_all-requires-clause-ports
send_all-requires-clause-ports g c =
    let p = promises_of g.met.P.Protocol.has_kinds g.met.P.Protocol.has_rules g.met.P.Protocol.is_bounded g.met.P.Protocol.bound_fits in
    let lawful = rw (← c.self.view_is) at c.requires.lawful in
    let work = rw (← c.self.view_is) at c.work_placed-work.ensures in
    let node = c.node-v.ensures in
    let held = reserved c.self.invariant.1 c.reserve_from.new.self c.reserve_from.ensures.lists in
    let plays =
    plays_of c.args.placed.event p held lawful c.node-v.result node c.index-node.result.now c.index-node.ensures
    c.work_placed-work.result work _ c.in_ok-answer.ensures in
    let counted = rw c.deref-2.ensures.value at c.count_sends.ensures in
    let later =
    later_is c.args.placed.event p c.self.invariant.1 lawful c.node-v.result node c.index-node.result.now c.index-node.ensures
    c.work_placed-work.result work c.defers-later.result c.defers-later.ensures in
    let taken = rw later at c.take_in.ensures in
    rw (c.deref-3.ensures.value, node) (taken_out plays c.count_sends.new.counts c.take_in.new.counts c.take_in.new.channels counted taken)

pub send_all-requires-clause-room : goal.send_all-requires-clause-room
send_all-requires-clause-room g c =
    let p = promises_of g.met.P.Protocol.has_kinds g.met.P.Protocol.has_rules g.met.P.Protocol.is_bounded g.met.P.Protocol.bound_fits in
    let lawful = rw (← c.self.view_is) at c.requires.lawful in
    let work = rw (← c.self.view_is) at c.work_placed-work.ensures in
    let node = c.node-v.ensures in
    let held = reserved c.self.invariant.1 c.reserve_from.new.self c.reserve_from.ensures.lists in
    let plays =
    plays_of c.args.placed.event p held lawful c.node-v.result node c.index-node.result.now c.index-node.ensures
    c.work_placed-work.result work _ c.in_ok-answer.ensures in
    let counted = rw c.deref-2.ensures.value at c.count_sends.ensures in
    let later =
    later_is c.args.placed.event p c.self.invariant.1 lawful c.node-v.result node c.index-node.result.now c.index-node.ensures
    c.work_placed-work.result work c.defers-later.result c.defers-later.ensures in
    let taken = rw later at c.take_in.ensures in
    let room = rw (c.deref.ensures.value, node) at c.in_ok-reserve_from.ensures.room in
    rw (c.deref-3.ensures.value, node) (taken_room plays c.count_sends.new.counts c.take_in.new.counts c.take_in.new.channels counted taken room)

pub send_all-requires-clause-total : goal.send_all-requires-clause-total
send_all-requires-clause-total g c =
    let p = promises_of g.met.P.Protocol.has_kinds g.met.P.Protocol.has_rules g.met.P.Protocol.is_bounded g.met.P.Protocol.bound_fits in
    let lawful = rw (← c.self.view_is) at c.requires.lawful in
    let work = rw (← c.self.view_is) at c.work_placed-work.ensures in
    let node = c.node-v.ensures in
    let held = reserved c.self.invariant.1 c.reserve_from.new.self c.reserve_from.ensures.lists in
    let plays =
    plays_of c.args.placed.event p held lawful c.node-v.result node c.index-node.result.now c.index-node.ensures
    c.work_placed-work.result work _ c.in_ok-answer.ensures in
    let counted = rw c.deref-2.ensures.value at c.count_sends.ensures in
    let later =
    later_is c.args.placed.event p c.self.invariant.1 lawful c.node-v.result node c.index-node.result.now c.index-node.ensures
    c.work_placed-work.result work c.defers-later.result c.defers-later.ensures in
    let taken = rw later at c.take_in.ensures in
    rw c.deref-3.ensures.value (fits_total plays c.count_sends.new.counts c.take_in.new.counts c.take_in.new.channels counted taken)

pub invariant_of-self-2 : goal.invariant_of-self-2
invariant_of-self-2 g c =
    let p = promises_of g.met.P.Protocol.has_kinds g.met.P.Protocol.has_rules g.met.P.Protocol.is_bounded g.met.P.Protocol.bound_fits in
    let lawful = rw (← c.self.view_is) at c.requires.lawful in
    let work = rw (← c.self.view_is) at c.work_placed-work.ensures in
    let node = c.node-v.ensures in
    let held = reserved c.self.invariant.1 c.reserve_from.new.self c.reserve_from.ensures.lists in
    let plays =
    plays_of c.args.placed.event p held lawful c.node-v.result node c.index-node.result.now c.index-node.ensures
    c.work_placed-work.result work _ c.in_ok-answer.ensures in
    let counted = rw c.deref-2.ensures.value at c.count_sends.ensures in
    let later =
    later_is c.args.placed.event p c.self.invariant.1 lawful c.node-v.result node c.index-node.result.now c.index-node.ensures
    c.work_placed-work.result work c.defers-later.result c.defers-later.ensures in
    let taken = rw later at c.take_in.ensures in
    let out = rw (c.deref-3.ensures.value, node) at c.send_all.ensures.queues in
    let total = rw c.deref-3.ensures.value at c.send_all.ensures.total in
    let items = c.push_reserved.ensures.items ∙ ap (λ l. l ++ c.args.placed.event ∷ []) c.reserve.ensures.items in
    let inside = node_inside c.args.placed.event p c.self.invariant.1 lawful c.node-v.result node in
    let same =
    c.index_mut.ensures.value
    ∙ get_or_default c.self.inside.nodes.items (c.node-v.result - 1) c.index_mut.result.now c.index-node.result.now inside
    ∙ sym c.index-node.ensures
    in
    let state = c.apply.ensures ∙ ap (λ x. g.P.Protocol.after x c.in_ok-answer.answer.change) same in
    let kept =
    keeps plays c.count_sends.new.counts c.take_in.new.counts c.take_in.new.channels c.send_all.new.channels counted taken
    (out c.self.inside.graph) total _
    (ap (λ x. slice_set c.self.inside.nodes.items (event_node c.args.placed.event - 1) x) state) in
    (c.self.invariant.0, rw (items, node) kept)

pub returns-clause-event : goal.returns-clause-event
returns-clause-event g c =
    let p = promises_of g.met.P.Protocol.has_kinds g.met.P.Protocol.has_rules g.met.P.Protocol.is_bounded g.met.P.Protocol.bound_fits in
    let lawful = rw (← c.self.view_is) at c.requires.lawful in
    let work = rw (← c.self.view_is) at c.work_placed-work.ensures in
    let node = c.node-v.ensures in
    let plays =
    plays_of c.args.placed.event p c.self.invariant.1 lawful c.node-v.result node c.index-node.result.now c.index-node.ensures
    c.work_placed-work.result work _ c.in_ok-answer.ensures in
    let items = c.push_reserved.ensures.items ∙ ap (λ l. l ++ c.args.placed.event ∷ []) c.reserve.ensures.items in
    rw (← c.self.view_is, items)
    (happens_so g.P.Protocol.rules (network_of c.self.inside.graph) (happens plays) ∙ ap (λ x. Some x) (sym (next_is plays)))

pub returns-clause-sends : goal.returns-clause-sends
returns-clause-sends g c =
    let p = promises_of g.met.P.Protocol.has_kinds g.met.P.Protocol.has_rules g.met.P.Protocol.is_bounded g.met.P.Protocol.bound_fits in
    let lawful = rw (← c.self.view_is) at c.requires.lawful in
    let work = rw (← c.self.view_is) at c.work_placed-work.ensures in
    let node = c.node-v.ensures in
    let plays =
    plays_of c.args.placed.event p c.self.invariant.1 lawful c.node-v.result node c.index-node.result.now c.index-node.ensures
    c.work_placed-work.result work _ c.in_ok-answer.ensures in
    rw (← c.self.view_is) (sends plays)
