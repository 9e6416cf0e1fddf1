use Rattle.std.proofs.Common.{◌∙◌, refl, sym, arith}
use Rattle.ghs_rounds.specs.Runs.{HasRun}
use Rattle.ghs_sched.proofs.lemmas.Running.{not_so, same_end}
use Rattle.ghs_rounds.proofs.Running.{chain_by, chain_stays, few_more, run_begins_here, run_more, run_settles, run_stays, smaller}
use Rattle.ghs_rounds.proofs.run.run_on.Goals as goal

pub events-init : goal.events-init
events-init c = record {
  run = rw c.requires.first (run_begins_here c.args.world.now c.args.schedule.now c.requires.trace c.requires.outs);
  rounds = c.requires.rounds;
  few = let first = c.requires.first in omega (arith, first);
}

pub returns-then-not-has_turn-clause-run : goal.returns-then-not-has_turn-clause-run
returns-then-not-has_turn-clause-run c = rw c.count.ensures c.events.invariant.run

pub events-smaller : goal.events-smaller
events-smaller c = smaller _ _ _ _ _ c.in-Ok.ensures.ok (sym c.has_turn.ensures ∙ c.if-not-has_turn.false)

pub events-preserved : goal.events-preserved
events-preserved c =
    let going = not_so c.ended.result c.ended.ensures.ended c.events-test.true in
    let turn = sym c.has_turn.ensures ∙ c.if-not-has_turn.false in
    let settled : HasRun c.args.world.now c.events.world c.args.schedule.now c.events.schedule c.settle.new.self.clock.round =
    run_settles c.args.world.now c.events.world c.args.schedule.now c.events.schedule c.events.rounds.clock c.events.invariant.run
    c.events.invariant.rounds.chains going turn c.settle.new.self.clock c.settle.ensures.clock in
    let made = c.in-Ok.ensures in
    record {
      run = rw made.round
          (run_more c.args.world.now c.events.world c.args.schedule.now c.events.schedule c.settle.new.self.clock settled
          c.settle.ensures.rounds.chains going turn c.make_next.new.world c.make_next.new.schedule c.settle.new.self refl made.ok);
      rounds = made.rounds;
      few = rw made.round
          (few_more c.events.world c.make_next.new.world c.events.rounds.clock c.settle.new.self.clock c.settle.new.self c.events.schedule
          c.make_next.new.schedule c.settle.ensures.clock c.events.invariant.few made.ok);
    }

pub returns-in-Err-clause-run : goal.returns-in-Err-clause-run
returns-in-Err-clause-run c =
    let going = not_so c.ended.result c.ended.ensures.ended c.events-test.true in
    let turn = sym c.has_turn.ensures ∙ c.if-not-has_turn.false in
    let settled : HasRun c.args.world.now c.events.world c.args.schedule.now c.events.schedule c.settle.new.self.clock.round =
    run_settles c.args.world.now c.events.world c.args.schedule.now c.events.schedule c.events.rounds.clock c.events.invariant.run
    c.events.invariant.rounds.chains going turn c.settle.new.self.clock c.settle.ensures.clock in
    rw (c.in-Err.ensures.word, c.count-count.ensures)
    (run_stays c.args.world.now c.events.world c.make_next.new.world c.args.schedule.now c.events.schedule c.settle.new.self.clock.round settled
    c.in-Err.ensures.err)

pub returns-in-Err-clause-going : goal.returns-in-Err-clause-going
returns-in-Err-clause-going c =
    λ h. (not_so c.ended.result c.ended.ensures.ended c.events-test.true) (same_end _ _ c.in-Err.ensures.err h)

pub returns-clause-run : goal.returns-clause-run
returns-clause-run c = rw c.count-2.ensures c.events.invariant.run

pub returns-then-not-has_turn-clause-chain : goal.returns-then-not-has_turn-clause-chain
returns-then-not-has_turn-clause-chain c = rw c.count.ensures (chain_by c.events.world c.events.rounds c.events.invariant.rounds)

pub returns-in-Err-clause-chain : goal.returns-in-Err-clause-chain
returns-in-Err-clause-chain c =
    rw c.count-count.ensures
    (chain_stays c.events.world c.make_next.new.world c.settle.new.self c.settle.ensures.rounds c.in-Err.ensures.err)

pub returns-clause-chain : goal.returns-clause-chain
returns-clause-chain c = rw c.count-2.ensures (chain_by c.events.world c.events.rounds c.events.invariant.rounds)
