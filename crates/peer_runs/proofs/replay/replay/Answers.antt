use Rattle.std.proofs.Common.{ap, length, sym, ◌∙◌}
use Rattle.peer_net.specs.NetState.{NetState}
use Rattle.peer_runs.specs.WorldState.{WorldState}
use Rattle.peer_runs.proofs.Replaying.{first_unlawful, never_unlawful, on_err, on_ok, replayed_more}
use Rattle.peer_runs.proofs.replay.replay.Goals as goal

pub returns-then-not-is_ready-clause-fault : goal.returns-then-not-is_ready-clause-fault
returns-then-not-is_ready-clause-fault g c =
    first_unlawful g.P.Protocol.rules c.args.graph c.args.wake c.args.events.now c.loop-event.event-index (length c.trace.result.now)
    c.loop-event.world _ c.loop-event.invariant c.loop-event-test.true (sym c.is_ready.ensures ∙ c.if-not-is_ready.true) c.net.ensures.run
    (ap length (c.trace.ensures.trace ∙ ap (λ (n : NetState). n.trace) c.net.ensures.net))

pub returns-then-not-is_ready-clause-run : goal.returns-then-not-is_ready-clause-run
returns-then-not-is_ready-clause-run g c =
    λ is_run.
    absurd (never_unlawful g.P.Protocol.rules c.args.graph c.args.wake c.args.events.now _ is_run (returns-then-not-is_ready-clause-fault g c))

pub returns-then-is_err-clause-back : goal.returns-then-is_err-clause-back
returns-then-is_err-clause-back g c =
    let same = on_err c.play.result (sym c.is_err.ensures.value ∙ c.if-is_err.true) c.play.ensures.err in
    c.into_graph-then-is_err.ensures ∙ ap (λ (s : WorldState). s.net.graph) same ∙ c.loop-event.invariant.graph

pub loop-event-preserved : goal.loop-event-preserved
loop-event-preserved g c =
    let played = on_ok c.play.result (sym c.is_err.ensures.value ∙ c.if-is_err.false) c.play.ensures.played in
    replayed_more g.P.Protocol.rules c.args.graph c.args.wake c.args.events.now c.loop-event.event-index _ c.loop-event.world c.play.new.self
    c.loop-event.invariant c.loop-event-test.true played
