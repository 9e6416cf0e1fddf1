use Rattle.peer_page.proofs.lemmas.Parts.{next_part}
use Rattle.peer_view.specs.Protocol.{kind_json}
use Rattle.peer_view.proofs.protocol.put_kinds.Goals as goal

pub loop-kind-preserved : goal.loop-kind-preserved
loop-kind-preserved g c =
    next_part c.loop-kind.kind (kind_json g.P.Spoken.words g.P.Viewed.looks) c.args.text.now.items c.loop-kind.text.items
    c.put_comma.new.text.items c.put_kind.new.text.items c.loop-kind.invariant c.in_ok-put_comma.ensures c.in_ok-put_kind.ensures
