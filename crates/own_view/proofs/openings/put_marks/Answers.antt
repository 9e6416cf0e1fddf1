use Rattle.own_view.specs.Openings.{mark_json}
use Rattle.peer_page.proofs.lemmas.Parts.{next_part}
use Rattle.own_view.proofs.openings.put_marks.Goals as goal

pub loop-port-preserved : goal.loop-port-preserved
loop-port-preserved g c =
    next_part c.loop-port.port (mark_json g.P.Spoken.words c.args.node.now) c.args.text.now.items c.loop-port.text.items
    c.put_comma.new.text.items c.put_mark.new.text.items c.loop-port.invariant c.in_ok-put_comma.ensures c.in_ok-put_mark.ensures
