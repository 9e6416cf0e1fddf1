use Rattle.std.proofs.Common.{◌≡◌, ◌∙◌, ◌+◌, arith}
use Rattle.ghs_make.proofs.Counts.{lines_more}
use Rattle.ghs_make.proofs.text.put_links.Goals as goal

pub loop-end-preserved : goal.loop-end-preserved
loop-end-preserved c =
    let counted = c.loop-end.invariant.counted in
    record {
      counted = omega (arith, counted);
      lines = (rw (c.weight_of.ensures, counted) at c.in_ok-put_arc.ensures)
          ∙ lines_more c.args.network.now c.args.number c.args.node c.args.ends.now c.args.text.now.items c.loop-end.text.items c.loop-end.end-index
          c.loop-end-test.true c.loop-end.invariant.lines;
    }
