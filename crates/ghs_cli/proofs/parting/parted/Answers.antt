use Rattle.std.proofs.Common.{◌≤◌, ◌-◌, ◌+◌, arith, refl}
use Rattle.ghs_cli.proofs.Parted.{none_yet, one_portion_more}
use Rattle.ghs_cli.proofs.parting.parted.Goals as goal

pub loop-left-init : goal.loop-left-init
loop-left-init g c = record {
  lines = none_yet c.args.options.now c.args.parting c.args.front.now c.args.graph.now
      (c.args.options.now.seeds.last - c.args.options.now.seeds.first + 1) c.new-lines.result.items c.new-lines.ensures.items;
  left = omega arith;
}

pub loop-left-preserved : goal.loop-left-preserved
loop-left-preserved g c =
    let min = c.min-portion.ensures in
    let some = c.loop-left.invariant.left in
    let within : c.min-portion.result ≤ c.loop-left.left = omega (arith, min) in
    record {
      lines = one_portion_more c.args.options.now c.args.parting c.args.front.now c.args.graph.now
          (c.args.options.now.seeds.last - c.args.options.now.seeds.first + 1) c.loop-left.left c.min-portion.result _ c.loop-left.lines.items
          c.in_ok-more.more.items c.append.new.self.items within some refl c.loop-left.invariant.lines c.in_ok-more.ensures
          c.in_ok-append.ensures.items;
      left = omega (arith, some);
    }
