use Rattle.std.proofs.Common.{◌∙◌, ap, ◌==◌}
use Rattle.std.specs.Prelude.{◌||◌}
use Rattle.std.proofs.lemmas.Bool.{ne_eqb}
use Rattle.ghs_report.proofs.WritingLemmas.{appends_more, within_rest}
use Rattle.ghs_report.proofs.write_out.write_out.Goals as goal

pub writes-preserved : goal.writes-preserved
writes-preserved g c = record {
  within = within_rest c.args.bytes.now c.writes.written c.in-Ok.count c.writes.invariant.within c.in-Ok.ensures.bound;
  sound = c.in-Ok.ensures.failed ∙ (ap (λ b. b || (c.in-Ok.count == 0)) c.writes.invariant.sound ∙ ne_eqb _ _ c.in-Ok.count-test.1);
  out = appends_more _ (g.W.Sink.held c.writes.writer) _ c.args.bytes.now c.writes.written c.in-Ok.count c.writes.invariant.out c.in-Ok.ensures.bytes;
}
