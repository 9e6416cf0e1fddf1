use Rattle.std.proofs.Common.{append-nil, sym}
use Rattle.ghs_parts.specs.Lines.{line_behind}
use Rattle.peer_parts.proofs.lemmas.Lining.{one_line_more}
use Rattle.ghs_parts.proofs.lines.put_parts.Goals as goal

pub loop-place-init : goal.loop-place-init
loop-place-init c = sym (append-nil c.args.text.now.items)

pub loop-place-preserved : goal.loop-place-preserved
loop-place-preserved c =
    one_line_more (line_behind c.args.form c.args.front.now c.args.by c.args.seed c.args.columns.now) c.args.first
    c.loop-place.place c.args.parts.now _ c.args.text.now.items c.loop-place.text.items c.put_behind.new.text.items
    c.loop-place-test.true c.loop-place.invariant c.in_ok-put_behind.ensures
