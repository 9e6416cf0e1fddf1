use Rattle.std.proofs.Common.{sym, ◌∙◌, refl}
use Rattle.gather_node.proofs.Looking.{rising_ends, rising_more, rising_starts}
use Rattle.gather_node.proofs.forest.is_rising.Goals as goal

pub loop-place-init : goal.loop-place-init
loop-place-init c = rising_starts c.args.keys.now

pub loop-place-preserved : goal.loop-place-preserved
loop-place-preserved c =
    rising_more c.args.keys.now c.loop-place.place c.loop-place-test.true c.loop-place.invariant (sym c.follows.ensures ∙ c.if-not-follows.false)

pub returns : goal.returns
returns c = (λ t. rising_ends c.args.keys.now c.loop-place.place c.loop-place-test.false c.loop-place.invariant, λ r. refl)
