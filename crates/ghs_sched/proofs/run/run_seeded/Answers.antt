use Rattle.std.proofs.Common.{◌∙◌, sym}
use Rattle.ghs_sched.proofs.lemmas.Running.{is_whole, not_so, run_begins, run_more, run_stays, same_end, same_turn}
use Rattle.ghs_sched.proofs.run.run_seeded.Goals as goal

pub events-init : goal.events-init
events-init c = run_begins c.args.world.now c.recall_all.new.self c.args.schedule.now c.recall_all.ensures

pub events-preserved : goal.events-preserved
events-preserved c =
    run_more c.args.world.now c.events.world c.make_next.new.world c.args.schedule.now c.events.schedule c.make_next.new.schedule c.events.invariant
    (not_so c.ended.result c.ended.ensures.ended c.events-test.true) (sym c.has_turn.ensures ∙ c.if-not-has_turn.false) c.in-Ok.ensures.ok

pub returns-in-Err-clause-run : goal.returns-in-Err-clause-run
returns-in-Err-clause-run c = rw c.in-Err.ensures.word
    (run_stays c.args.world.now c.events.world c.make_next.new.world c.args.schedule.now c.events.schedule c.events.invariant c.in-Err.ensures.err)

pub returns-in-Err-clause-going : goal.returns-in-Err-clause-going
returns-in-Err-clause-going c = λ h. not_so c.ended.result c.ended.ensures.ended c.events-test.true (same_end _ _ c.in-Err.ensures.err h)

pub returns-in-Err-clause-at_limit : goal.returns-in-Err-clause-at_limit
returns-in-Err-clause-at_limit c = λ e. same_turn _ _ c.in-Err.ensures.err (sym c.has_turn.ensures ∙ c.if-not-has_turn.false)

pub returns-clause-whole : goal.returns-clause-whole
returns-clause-whole c =
    is_whole c.args.world.now c.events.world c.args.schedule.now c.events.schedule c.events.invariant (c.ended.ensures.ended.0 c.events-test.false)
