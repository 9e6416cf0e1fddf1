use Rattle.std.proofs.Common.{◌++◌, codes, refl, slice_index, ◌∙◌}
use Rattle.peer_report.proofs.Printing.{counted_more}
use Rattle.peer_report.proofs.account.put_kinds.Goals as goal

pub loop-k-preserved : goal.loop-k-preserved
loop-k-preserved g c =
    counted_more c.loop-k.k g.P.Spoken.words.kind (λ k. slice_index c.args.sent.now k) c.letters.result.now _ (c.args.text.now.items ++ codes "m")
    c.loop-k.text.items c.put_count.new.text.items c.loop-k.invariant (c.letters.ensures ∙ c.kind_name.ensures) refl c.in_ok-put_count.ensures
