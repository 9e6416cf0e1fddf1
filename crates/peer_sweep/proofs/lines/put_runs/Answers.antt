use Rattle.std.proofs.Common.{append-nil, sym}
use Rattle.peer_sweep.specs.Lines.{line_behind}
use Rattle.peer_sweep.proofs.Lining.{one_line_more}
use Rattle.peer_sweep.proofs.lines.put_runs.Goals as goal

pub loop-place-init : goal.loop-place-init
loop-place-init c = sym (append-nil c.args.text.now.items)

pub loop-place-preserved : goal.loop-place-preserved
loop-place-preserved c =
    one_line_more (line_behind c.args.form c.args.front.now c.args.table.now c.args.setup) c.args.first c.loop-place.place c.args.runs.now _
    c.args.text.now.items
    c.loop-place.text.items c.put_behind.new.text.items c.loop-place-test.true c.loop-place.invariant c.in_ok-put_behind.ensures
