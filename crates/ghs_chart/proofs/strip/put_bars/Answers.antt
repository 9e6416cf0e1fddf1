use Rattle.std.proofs.Common.{arith, ◌≤◌}
use Rattle.ghs_chart.specs.declared.strip.TheConstants.{COLUMNS}
use Rattle.ghs_chart.specs.Strip.{count_in, most_in}
use Rattle.ghs_chart.proofs.Counting.{one_bar_more, within_most}
use Rattle.ghs_chart.proofs.strip.put_bars.Goals as goal

pub put_bar-requires-clause-most : goal.put_bar-requires-clause-most
put_bar-requires-clause-most c = let few = c.requires.few in let less = c.most_in-most.ensures.few in omega (arith, few, less)

pub put_bar-requires-clause-within : goal.put_bar-requires-clause-within
put_bar-requires-clause-within c =
    let z : count_in c.args.bound c.args.values.now c.loop-column.column ≤ most_in c.args.bound c.args.values.now =
    within_most COLUMNS c.args.bound c.args.values.now c.loop-column.column c.loop-column-test.true in
    rw (c.count_in.ensures.count, c.most_in-most.ensures.most) z

pub loop-column-preserved : goal.loop-column-preserved
loop-column-preserved c =
    one_bar_more c.loop-column.column c.args.bound c.args.values.now c.most_in-most.result c.count_in.result
    c.args.text.now.items c.loop-column.text.items c.put_bar.new.text.items c.loop-column.invariant c.count_in.ensures.count c.in_ok-put_bar.ensures
