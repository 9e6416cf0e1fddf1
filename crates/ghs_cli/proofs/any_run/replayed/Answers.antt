use Rattle.peer_machine.specs.Run.{net_after}
use Rattle.peer_runs.specs.WorldState.{WorldState}
use Rattle.ghs_cli.specs.AnyRun.{GoesOn, IsReplayed, IsRunCause, IsText}
use Rattle.ghs_cli.proofs.AnyRun.{goes_on, is_replayed}
use Rattle.ghs_cli.proofs.Serves.{if_err, if_ok}
use Rattle.ghs_cli.proofs.any_run.replayed.Goals as goal

pub returns-in-Ok-clause-text : goal.returns-in-Ok-clause-text
returns-in-Ok-clause-text g c =
    let r = g.P.Protocol.rules in
    let has_ended = g.P.Ends.has_ended in
    let kind = g.P.Spoken.words.kind in
    let bound = g.P.Protocol.bound in
    let is_branch = g.P.FindsTree.is_branch in
    let found = g.P.FindsTree.found in
    let s : WorldState = c.in-Ok.world in
    let has = c.in-Ok.ensures.ok in
    if_ok c.finished.result (has_ended s.net.graph (net_after r s.net.graph s.net.trace))
    (λ text. IsText r has_ended kind bound is_branch found s.net.graph s.net.trace text.items)
    (λ text. IsReplayed r has_ended kind bound is_branch found c.args.wake c.args.graph c.args.events.now text.items)
    (λ text ended printed. is_replayed r has_ended kind bound is_branch found c.args.wake s.wake c.args.graph s.net.graph s.net.trace
    c.args.events.now text.items has.graph has.trace has.wake_set c.finished.ensures.run ended printed)
    c.finished.ensures.ended c.finished.ensures.text

pub returns-in-Ok-clause-fault : goal.returns-in-Ok-clause-fault
returns-in-Ok-clause-fault g c =
    let r = g.P.Protocol.rules in
    let has_ended = g.P.Ends.has_ended in
    let s : WorldState = c.in-Ok.world in
    let has = c.in-Ok.ensures.ok in
    if_err c.finished.result (GoesOn r has_ended s.net.graph s.net.trace) (IsRunCause r has_ended c.args.wake c.args.graph c.args.events.now)
    (λ fault goes. goes_on r has_ended c.args.wake s.wake c.args.graph s.net.graph s.net.trace c.args.events.now fault has.graph has.trace
    has.wake_set c.finished.ensures.run goes)
    c.finished.ensures.fault
