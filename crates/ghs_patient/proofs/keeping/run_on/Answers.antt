use Rattle.std.proofs.Common.{◌∙◌, sym}
use Rattle.ghs_sched.proofs.lemmas.Running.{not_so, same_end}
use Rattle.ghs_patient.specs.Keeping.{Begun, Stayed, Then}
use Rattle.ghs_patient.proofs.keeping.run_on.Goals as goal

pub events-init : goal.events-init
events-init g c = record { gone = Begun; outs = c.requires.home; kept = c.requires.kept }

pub events-preserved : goal.events-preserved
events-preserved g c = let next = c.in-Ok.ensures.ok in record {
  gone = Then c.events.world c.make_next.new.world c.events.schedule c.make_next.new.schedule c.events.invariant.gone
      (not_so c.ended.result c.ended.ensures.ended c.events-test.true) (sym c.has_turn.ensures ∙ c.if-not-has_turn.false) next;
  outs = next.made.outs ∙ c.events.invariant.outs;
  kept = c.in-Ok.ensures.kept;
}

pub returns-in-Err-clause-gone : goal.returns-in-Err-clause-gone
returns-in-Err-clause-gone g c =
    rw c.in-Err.ensures.word (Stayed c.events.world c.make_next.new.world c.events.schedule c.events.invariant.gone c.in-Err.ensures.err)

pub returns-in-Err-clause-going : goal.returns-in-Err-clause-going
returns-in-Err-clause-going g c = λ h. not_so c.ended.result c.ended.ensures.ended c.events-test.true (same_end _ _ c.in-Err.ensures.err h)
