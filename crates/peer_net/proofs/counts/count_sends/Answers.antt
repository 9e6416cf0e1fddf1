use Rattle.std.proofs.Common.{◌≡◌, ◌<◌, ◌∷◌, ◌++◌, [], ◌+◌, length, slice_index_or, take, refl, sym, ap, subst, ◌∙◌, arith, length-take}
use Rattle.std.proofs.lemmas.List.{take_more, get_or_default}
use Rattle.peer_net.proofs.Counting.{kind_few, counted_one}
use Rattle.peer_net.proofs.counts.count_sends.Goals as goal

pub overflow_add-index_mut : goal.overflow_add-index_mut
overflow_add-index_mut g c =
    let r = g.P.Protocol.rules in
    let k = c.kind.result in
    let lt : k < r.kinds = subst (λ x. x < r.kinds) (sym c.kind.ensures) (g.met.P.Protocol.has_kinds _) in
    let so = c.loop-i.invariant in
    let inside : k < length c.loop-i.counts.sent.items = omega (arith, so.kinds, c.requires.kinds, lt) in
    let value = c.index_mut.ensures.value ∙ get_or_default c.loop-i.counts.sent.items k c.index_mut.result.now 0 inside in
    let sent = so.sent k lt in
    let fits = c.requires.fits k lt in
    omega (arith, value, sent, fits, kind_few r k (take c.loop-i.i c.args.sends.now), length-take c.loop-i.i c.args.sends.now, c.loop-i-test.true)

pub loop-i-preserved : goal.loop-i-preserved
loop-i-preserved g c =
    let r = g.P.Protocol.rules in
    let sends = c.args.sends.now in
    let s = c.index-sends-i.result in
    let is : s ≡ slice_index_or sends c.loop-i.i s = c.index-sends-i.is in
    let more : take (c.loop-i.i + 1) sends ≡ take c.loop-i.i sends ++ s ∷ [] =
    take_more sends c.loop-i.i s c.loop-i-test.true ∙ ap (λ y. take c.loop-i.i sends ++ y ∷ []) (sym is) in
    rw (more, c.kind.ensures)
    (counted_one r c.args.counts.now c.loop-i.counts _ (take c.loop-i.i sends) s c.index_mut.result.now c.requires.kinds c.loop-i.invariant
    (g.met.P.Protocol.has_kinds s.1) (rw c.kind.ensures at c.index_mut.ensures.value) refl refl refl)
