use Rattle.std.proofs.Common.{◌∙◌, subst, sym}
use Rattle.ghs_sched.proofs.lemmas.Running.{is_whole, not_so, run_begins, run_more, run_stays}
use Rattle.ghs_world.specs.WorldState.{WorldState}
use Rattle.ghs_picking.proofs.seeded.run_seeded.Goals as goal

pub events-init : goal.events-init
events-init g c = record {
  run = run_begins c.args.world.now c.recall_all.new.self c.args.schedule.now c.recall_all.ensures;
  kept = subst (λ (s : WorldState). g.F.Follower.is_of s.net.graph s.net.trace c.args.kept.now) (sym c.recall_all.ensures) c.requires.kept;
}

pub events-preserved : goal.events-preserved
events-preserved g c = record {
  run = run_more c.args.world.now c.events.world c.make_next.new.world c.args.schedule.now c.events.schedule c.make_next.new.schedule
      c.events.invariant.run
      (not_so c.ended.result c.ended.ensures.ended c.events-test.true) (sym c.has_turn.ensures ∙ c.if-not-has_turn.false) c.in-Ok.ensures.ok;
  kept = c.in-Ok.ensures.kept;
}

pub returns-in-Err-clause-run : goal.returns-in-Err-clause-run
returns-in-Err-clause-run g c =
    rw c.in-Err.ensures.word (run_stays c.args.world.now c.events.world c.make_next.new.world c.args.schedule.now c.events.schedule
    c.events.invariant.run c.in-Err.ensures.err)

pub returns-clause-whole : goal.returns-clause-whole
returns-clause-whole g c = is_whole c.args.world.now c.events.world c.args.schedule.now c.events.schedule c.events.invariant.run
    (c.ended.ensures.ended.0 c.events-test.false)
