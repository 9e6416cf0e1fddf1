use Rattle.std.proofs.Common.{sym, ◌∙◌, arith}
use Rattle.gather_node.proofs.Looking.{found, not_found, place_above, place_below, place_starts}
use Rattle.gather_node.proofs.forest.has_in_order.Goals as goal

pub loop-low-init : goal.loop-low-init
loop-low-init c = place_starts c.args.links.now c.args.key.now

pub loop-low-preserved-then-is_below : goal.loop-low-preserved-then-is_below
loop-low-preserved-then-is_below c =
    let t = c.loop-low-test.true in
    place_above c.args.links.now c.args.key.now c.loop-low.low c.loop-low.high _ c.requires c.loop-low.invariant (omega (arith, t))
    (sym c.is_below.ensures ∙ c.if-is_below.true)

pub loop-low-preserved : goal.loop-low-preserved
loop-low-preserved c =
    let t = c.loop-low-test.true in
    place_below c.args.links.now c.args.key.now c.loop-low.low c.loop-low.high _ c.requires c.loop-low.invariant (omega (arith, t))
    (omega (arith, t)) (sym c.is_below.ensures ∙ c.if-is_below.false)

pub returns-then-low-links : goal.returns-then-low-links
returns-then-low-links c =
    c.is_same.ensures ∙ found c.args.links.now c.args.key.now c.loop-low.low c.loop-low.high c.requires c.loop-low.invariant c.loop-low-test.false
    c.if-low-links.true

pub returns-else-low-links : goal.returns-else-low-links
returns-else-low-links c =
    not_found c.args.links.now c.args.key.now c.loop-low.low c.loop-low.high c.requires c.loop-low.invariant c.loop-low-test.false
    c.if-low-links.false
