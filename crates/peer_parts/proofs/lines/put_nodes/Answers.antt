use Rattle.std.proofs.Common.{append-nil, sym}
use Rattle.peer_parts.specs.Lines.{node_line}
use Rattle.peer_parts.proofs.lemmas.Lining.{one_line_more}
use Rattle.peer_parts.proofs.lines.put_nodes.Goals as goal

pub loop-place-init : goal.loop-place-init
loop-place-init c = sym (append-nil c.args.text.now.items)

pub loop-place-preserved : goal.loop-place-preserved
loop-place-preserved c =
    let put = rw (c.new-node.ensures, c.counts.ensures, c.index-parts-place.is) at c.in_ok-put_line.ensures in
    one_line_more (node_line c.args.form c.args.front.now c.args.seed c.args.columns.now) 1 c.loop-place.place c.args.parts.now
    c.index-parts-place.result c.args.text.now.items c.loop-place.text.items c.put_line.new.text.items
    c.loop-place-test.true c.loop-place.invariant put
