use Rattle.std.proofs.Common.{◌∙◌, ap, length, arith}
use Rattle.peer_net.specs.NetState.{NetState}
use Rattle.peer_runs.proofs.Running.{run_begins, run_more, none_ready, is_whole}
use Rattle.peer_runs.proofs.run.run_followed.Goals as goal

pub events-init : goal.events-init
events-init g c = record { run = run_begins g.P.Protocol.rules c.args.turns c.args.world.now c.args.schedule.now; kept = c.requires.kept }

pub events-preserved : goal.events-preserved
events-preserved g c =
    let many = ap length (c.trace.ensures.trace ∙ ap (λ (n : NetState). n.trace) c.net.ensures.net) in
    record {
      run =
          run_more g.P.Protocol.rules c.args.turns c.args.world.now c.events.world c.play_next.new.world c.args.schedule.now c.events.schedule
          c.play_next.new.schedule c.events.invariant.run (omega (arith, many, c.if-trace-turns.false)) c.in_ok-play_next.ensures.ok;
      kept = c.play_next.ensures.kept;
    }

pub returns-clause-over : goal.returns-clause-over
returns-clause-over g c = none_ready g.P.Protocol.rules c.events.world c.ready_count.result c.ready_count.ensures c.events-test.false

pub returns-clause-whole : goal.returns-clause-whole
returns-clause-whole g c =
    is_whole g.P.Protocol.rules c.args.turns c.args.world.now c.events.world c.args.schedule.now c.events.schedule c.events.invariant.run
    (returns-clause-over g c)

pub returns-in_err-play_next-clause-run : goal.returns-in_err-play_next-clause-run
returns-in_err-play_next-clause-run g c =
    rw (c.in_err-play_next.ensures.err, c.in_err-play_next.ensures.word) c.events.invariant.run
