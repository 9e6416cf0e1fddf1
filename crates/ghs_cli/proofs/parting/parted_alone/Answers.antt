use Rattle.std.proofs.Common.{List, ℕ, subst, sym}
use Rattle.ghs_cli.specs.Sweeping.{ArePartedRuns, NoRun}
use Rattle.ghs_cli.proofs.Parted.{one_run_more}
use Rattle.ghs_cli.proofs.parting.parted_alone.Goals as goal

pub loop-done-init : goal.loop-done-init
loop-done-init c =
    subst (λ (l : List ℕ). ArePartedRuns c.args.options.now c.args.parting c.args.front.now c.args.graph.now c.args.first 0 l)
    (sym c.new-lines.ensures.items) NoRun

pub loop-done-preserved : goal.loop-done-preserved
loop-done-preserved c =
    one_run_more c.args.options.now c.args.parting c.args.front.now c.args.graph.now c.args.first c.loop-done.done c.loop-done.lines.items
    c.put_seed.new.lines.items c.loop-done.invariant
    (rw (c.deref.ensures.value, c.in_ok-columns.ensures) at c.in_ok-put_seed.ensures)
