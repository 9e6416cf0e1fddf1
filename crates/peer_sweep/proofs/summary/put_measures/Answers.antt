use Rattle.std.proofs.Common.{[], append-nil, sym}
use Rattle.peer_sweep.specs.Summary.{NoMeasure}
use Rattle.peer_sweep.proofs.Measuring.{one_measure_more}
use Rattle.peer_sweep.proofs.summary.put_measures.Goals as goal

pub loop-column-init : goal.loop-column-init
loop-column-init c = ([], NoMeasure, sym (append-nil c.args.text.now.items))

pub loop-column-preserved : goal.loop-column-preserved
loop-column-preserved c =
    one_measure_more c.args.form c.args.front.now c.args.runs.now c.args.columns.now c.loop-column.column-index c.column-item.result
    c.args.text.now.items c.loop-column.text.items c.put_measure.new.text.items c.column-item.is c.loop-column-test.true c.loop-column.invariant
    c.in_ok-put_measure.ensures
