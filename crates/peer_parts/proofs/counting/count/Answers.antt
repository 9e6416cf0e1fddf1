use Rattle.std.proofs.Common.{◌≡◌, ℕ, ◌<◌, ◌∙◌, length, sym, subst, arith}
use Rattle.std.specs.List.{slice_index_or}
use Rattle.std.proofs.lemmas.List.{get_or_default}
use Rattle.peer_parts.proofs.ByKinds.{counted_more, one_more}
use Rattle.peer_parts.proofs.counting.count.Goals as goal

pub overflow_add-index_mut : goal.overflow_add-index_mut
overflow_add-index_mut g c =
    let r = g.P.Protocol.rules in
    let k = c.kind.result in
    let x = c.index-sends-i.result in
    let is : x ≡ slice_index_or c.args.sends.now c.loop-i.i x = c.index-sends-i.is in
    let lt : k < r.kinds = subst (λ (j : ℕ). j < r.kinds) (sym c.kind.ensures) (g.met.P.Protocol.has_kinds _) in
    let so = c.loop-i.invariant in
    let same = so.kinds in
    let width = c.requires.kinds in
    let inside : k < length c.loop-i.counts.items = omega (arith, same, width, lt) in
    let value = c.index_mut.ensures.value ∙ get_or_default c.loop-i.counts.items k c.index_mut.result.now 0 inside in
    let had = so.each k lt in
    let more = one_more r c.loop-i.i k c.args.sends.now x x c.loop-i-test.true is c.kind.ensures in
    let fits = c.requires.fits k lt in
    omega (arith, value, had, more, fits)

pub loop-i-preserved : goal.loop-i-preserved
loop-i-preserved g c =
    let r = g.P.Protocol.rules in
    let k = c.kind.result in
    let x = c.index-sends-i.result in
    let is : x ≡ slice_index_or c.args.sends.now c.loop-i.i x = c.index-sends-i.is in
    let lt : k < r.kinds = subst (λ (j : ℕ). j < r.kinds) (sym c.kind.ensures) (g.met.P.Protocol.has_kinds _) in
    let so = c.loop-i.invariant in
    let same = so.kinds in
    let width = c.requires.kinds in
    let inside : k < length c.loop-i.counts.items = omega (arith, same, width, lt) in
    let value = c.index_mut.ensures.value ∙ get_or_default c.loop-i.counts.items k c.index_mut.result.now 0 inside in
    rw value
    (counted_more r c.loop-i.i k c.args.sends.now x x c.args.counts.now.items c.loop-i.counts.items width c.loop-i-test.true is
    c.kind.ensures lt so)
