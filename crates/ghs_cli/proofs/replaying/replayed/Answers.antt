use Rattle.ghs_protocol.specs.Marks.{HasEnded}
use Rattle.ghs_protocol.specs.Run.{net_after}
use Rattle.ghs_report.specs.ReportText.{IsReportText}
use Rattle.ghs_world.specs.WorldState.{WorldState}
use Rattle.ghs_cli.specs.Running.{GoesOn, IsReplayed, IsRunCause}
use Rattle.ghs_cli.proofs.Replays.{goes_on, is_replayed}
use Rattle.ghs_cli.proofs.Serves.{if_err, if_ok}
use Rattle.ghs_cli.proofs.replaying.replayed.Goals as goal

pub returns-in-Ok-clause-text : goal.returns-in-Ok-clause-text
returns-in-Ok-clause-text c =
    let s : WorldState = c.in-Ok.world in
    let has = c.in-Ok.ensures.ok in
    if_ok c.finished.result (HasEnded s.net.graph (net_after s.net.graph s.net.trace))
    (λ text. IsReportText s.net.graph (net_after s.net.graph s.net.trace) text.items)
    (λ text. IsReplayed c.args.wake c.args.graph c.args.events.now text.items)
    (λ text ended printed. is_replayed c.args.wake s.wake c.args.graph s.net.graph s.net.trace c.args.events.now text.items has.graph has.trace
    has.wake_set c.finished.ensures.run ended printed)
    c.finished.ensures.ended c.finished.ensures.text

pub returns-in-Ok-clause-fault : goal.returns-in-Ok-clause-fault
returns-in-Ok-clause-fault c =
    let s : WorldState = c.in-Ok.world in
    let has = c.in-Ok.ensures.ok in
    if_err c.finished.result (GoesOn s.net.graph (net_after s.net.graph s.net.trace)) (IsRunCause c.args.wake c.args.graph c.args.events.now)
    (λ fault goes. goes_on c.args.wake s.wake c.args.graph s.net.graph s.net.trace c.args.events.now fault has.graph has.trace has.wake_set
    c.finished.ensures.run goes)
    c.finished.ensures.fault
