use Rattle.std.proofs.Common.{◌++◌, ◌∙◌, ap, decimal, slice_index}
use Rattle.peer_page.proofs.lemmas.Parts.{next_part}
use Rattle.peer_page.proofs.counts.put_parts.Goals as goal

pub loop-kind-preserved : goal.loop-kind-preserved
loop-kind-preserved c =
    next_part c.loop-kind.kind (λ k. decimal (slice_index c.args.counts.now k)) c.args.text.now.items c.loop-kind.text.items
    c.put_comma.new.text.items c.put_number.new.text.items c.loop-kind.invariant c.in_ok-put_comma.ensures
    (c.in_ok-put_number.ensures ∙ ap (λ n. c.put_comma.new.text.items ++ decimal n) c.from.ensures)
