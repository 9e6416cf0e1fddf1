use Rattle.std.proofs.Common.{◌∙◌, ap, length, arith}
use Rattle.std.proofs.lemmas.List.{nil_from_length}
use Rattle.peer_net.specs.NetState.{NetState}
use Rattle.peer_picking.proofs.LifoRunning.{is_whole, run_begins, run_more}
use Rattle.peer_picking.proofs.lifo_run.run_followed.Goals as goal

pub returns-then-ready_count-gt0-clause-run : goal.returns-then-ready_count-gt0-clause-run
returns-then-ready_count-gt0-clause-run g c = run_begins g.P.Protocol.rules c.args.turns c.args.world.now c.args.schedule.now

pub returns-in_err-latest-clause-run : goal.returns-in_err-latest-clause-run
returns-in_err-latest-clause-run g c = run_begins g.P.Protocol.rules c.args.turns c.args.world.now c.args.schedule.now

pub events-init : goal.events-init
events-init g c = record {
  run = run_begins g.P.Protocol.rules c.args.turns c.args.world.now c.args.schedule.now;
  latest = c.in_ok-latest.ensures;
  kept = c.requires.kept;
}

pub events-preserved : goal.events-preserved
events-preserved g c =
    let many = ap length (c.trace.ensures.trace ∙ ap (λ (n : NetState). n.trace) c.net.ensures.net) in
    record {
      run =
          run_more g.P.Protocol.rules c.args.turns c.args.world.now c.events.world c.args.schedule.now c.events.schedule c.events.invariant.run
          c.play_next.new.world c.play_next.new.schedule (omega (arith, many, c.if-trace-turns.false)) c.in_ok-play_next.ensures.ok;
      latest = c.play_next.ensures.latest;
      kept = c.play_next.ensures.kept;
    }

pub returns-in_err-play_next-clause-run : goal.returns-in_err-play_next-clause-run
returns-in_err-play_next-clause-run g c =
    rw (c.in_err-play_next.ensures.err, c.in_err-play_next.ensures.word) c.events.invariant.run

pub returns-clause-whole : goal.returns-clause-whole
returns-clause-whole g c =
    is_whole g.P.Protocol.rules c.args.turns c.args.world.now c.events.world c.args.schedule.now c.events.schedule c.events.invariant.run
    (let many = c.ready_count-in-events.ensures in let none = c.events-test.false in nil_from_length _ (omega (arith, many, none)))
