use Rattle.ghs_gr.specs.Line.{meanings}
use Rattle.ghs_gr.proofs.Judgements.{never_read, text_is}
use Rattle.ghs_gr.proofs.judgement.read_gr.Goals as goal

pub conclude-requires-clause-pass : goal.conclude-requires-clause-pass
conclude-requires-clause-pass g c = let t = c.in_ok-read_into.ensures.text in (meanings t.0, c.in_ok-end.ensures.pass t.0 t.2)

pub returns-clause-text : goal.returns-clause-text
returns-clause-text g c = λ _ other.
    let t = c.in_ok-read_into.ensures.text in
    text_is (g.R.Source.left c.args.reader.now) _ t.0 c.conclude.result t.1 (c.conclude.ensures (meanings t.0) (c.in_ok-end.ensures.pass t.0 t.2))

pub returns-clause-read : goal.returns-clause-read
returns-clause-read g c =
    let t = c.in_ok-read_into.ensures.text in (
      λ e. absurd (never_read (meanings t.0) c.conclude.result (c.conclude.ensures (meanings t.0) (c.in_ok-end.ensures.pass t.0 t.2)) e),
      λ failed. let e = c.in_ok-read_into.ensures.read.1 failed in cc,
    )
