use Rattle.std.proofs.Common.{◌≡◌, ◌+◌, sym, arith}
use Rattle.ghs_core.proofs.Alike.{alike_more, alike_less}
use Rattle.ghs_core.proofs.marked.numbers_alike.Goals as goal
use Rattle.ghs_core.proofs.marked.numbers_alike.Goals.{then-roots-v+in_ok-push, else-roots-v}

pub loop-u-preserved : goal.loop-u-preserved
loop-u-preserved c = elim c.if-roots-v.branch [
  | then-roots-v+in_ok-push w ↦ rw (w.numbers-is, w.in_ok-push.ensures.items)
      (alike_more c.args.roots.now c.loop-u.u _ c.loop-u.numbers.items c.loop-u.auto.u (sym w.if-roots-v.true) c.loop-u.invariant)
  | else-roots-v w ↦ rw w.numbers-is
      (alike_less c.args.roots.now c.loop-u.u _ c.loop-u.numbers.items (λ e. w.if-roots-v.false (sym e)) c.loop-u.invariant)
]

pub returns : goal.returns
returns c =
    let last : c.loop-u.u ≡ c.args.count + 1 = omega arith in
    rw last at c.loop-u.invariant
