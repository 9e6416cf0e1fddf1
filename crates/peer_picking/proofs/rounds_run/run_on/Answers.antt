use Rattle.std.proofs.Common.{◌∙◌, ℕ, ◌<◌, ap, arith, length, subst, sym}
use Rattle.std.proofs.lemmas.List.{nil_from_length}
use Rattle.peer_net.specs.NetState.{NetState}
use Rattle.peer_runs.specs.WorldState.{ready_events}
use Rattle.peer_picking.specs.Runs.{HasRun}
use Rattle.peer_picking.proofs.Running.{is_whole, more_few, run_begins, run_more, run_settled, settled_few}
use Rattle.peer_picking.proofs.rounds_run.run_on.Goals as goal

pub events-init : goal.events-init
events-init g c =
    let r = g.P.Protocol.rules in
    let s = c.args.world.now in
    let first = c.requires.first in
    record {
      run =
          subst (λ (n : ℕ). HasRun r c.args.turns s s c.args.schedule.now c.args.schedule.now n) (sym first)
          (run_begins r c.args.turns s c.args.schedule.now c.requires.trace);
      few = omega (arith, first);
      rounds = c.requires.rounds;
      kept = c.requires.kept;
    }

pub returns-then-trace-turns-clause-run : goal.returns-then-trace-turns-clause-run
returns-then-trace-turns-clause-run g c = rw c.count.ensures c.events.invariant.run

pub events-preserved : goal.events-preserved
events-preserved g c =
    let r = g.P.Protocol.rules in
    let s = c.events.world in
    let y = c.settle.new.self in
    let many = ap length (c.trace.ensures.trace ∙ ap (λ (n : NetState). n.trace) c.net.ensures.net) in
    let left : length s.net.trace < c.args.turns = omega (arith, many, c.if-trace-turns.false) in
    let ready = c.ready_count.ensures in
    let test = c.events-test.true in
    let some : 0 < length (ready_events r s) = omega (arith, ready, test) in
    let settled =
    run_settled r c.args.turns c.args.world.now s c.args.schedule.now c.events.schedule c.events.rounds y c.events.invariant.run left some
    c.settle.ensures in
    let few =
    more_few r c.args.turns c.args.world.now s c.args.schedule.now c.events.schedule c.play_next.new.world c.play_next.new.schedule y.round
    (settled_few r c.args.turns c.args.world.now s c.args.schedule.now c.events.schedule c.events.rounds y c.events.invariant.few c.settle.ensures)
    c.in-Ok.ensures.ok in
    let same = c.play_next.ensures.round in
    record {
      run =
          subst (λ (n : ℕ). HasRun r c.args.turns c.args.world.now c.play_next.new.world c.args.schedule.now c.play_next.new.schedule n) (sym same)
          (run_more r c.args.turns c.args.world.now s c.args.schedule.now c.events.schedule c.play_next.new.world c.play_next.new.schedule y.round
          settled left c.in-Ok.ensures.ok);
      few = omega (arith, few, same);
      rounds = c.play_next.ensures.rounds;
      kept = c.play_next.ensures.kept;
    }

pub returns-in-Err-clause-run : goal.returns-in-Err-clause-run
returns-in-Err-clause-run g c =
    let r = g.P.Protocol.rules in
    let s = c.events.world in
    let many = ap length (c.trace.ensures.trace ∙ ap (λ (n : NetState). n.trace) c.net.ensures.net) in
    let left : length s.net.trace < c.args.turns = omega (arith, many, c.if-trace-turns.false) in
    let ready = c.ready_count.ensures in
    let test = c.events-test.true in
    let some : 0 < length (ready_events r s) = omega (arith, ready, test) in
    rw (c.in-Err.ensures.err, c.in-Err.ensures.word, c.count-count.ensures)
    (run_settled r c.args.turns c.args.world.now s c.args.schedule.now c.events.schedule c.events.rounds c.settle.new.self c.events.invariant.run
    left
    some c.settle.ensures)

pub returns-clause-run : goal.returns-clause-run
returns-clause-run g c = rw c.count-2.ensures c.events.invariant.run

pub returns-clause-whole : goal.returns-clause-whole
returns-clause-whole g c =
    rw c.count-2.ensures
    (is_whole g.P.Protocol.rules c.args.turns c.args.world.now c.events.world c.args.schedule.now c.events.schedule c.events.invariant.run
    (let many = c.ready_count.ensures in let none = c.events-test.false in nil_from_length _ (omega (arith, many, none))))
