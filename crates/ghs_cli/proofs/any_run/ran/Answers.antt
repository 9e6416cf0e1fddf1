use Rattle.std.proofs.Common.{subst, sym}
use Rattle.std.specs.Prelude.{IfErr, IfOk}
use Rattle.ghs_graph.specs.Graph.{Shape}
use Rattle.peer_machine.specs.Run.{net_after}
use Rattle.peer_report.specs.Runs.{IsRan as HasRun}
use Rattle.peer_report.specs.declared.run.RunEnd.{RunEnd}
use Rattle.ghs_cli.specs.AnyRun.{IsRan, StopsRun}
use Rattle.ghs_cli.proofs.any_run.ran.Goals as goal

pub shown-requires : goal.shown-requires
shown-requires g c =
    let o = c.args.options.now in
    let r = g.P.Protocol.rules in
    let has_ended = g.P.Ends.has_ended in
    let ran = subst (λ (e : RunEnd). HasRun r has_ended o.schedule_kind o.seed o.wake o.turns c.args.graph c.in_ok-world.world e) c.in-Ended.is
    c.in_ok-world.ensures in
    subst (λ (s : Shape). has_ended s (net_after r s c.in_ok-world.world.net.trace)) (sym ran.0) ran.1.ended

pub returns-clause-fault : goal.returns-clause-fault
returns-clause-fault g c =
    let o = c.args.options.now in
    let r = g.P.Protocol.rules in
    let has_ended = g.P.Ends.has_ended in
    subst (λ (s : Shape). IfErr c.stopped.result (StopsRun r has_ended o s)) c.in_ok-world.ensures.0 c.stopped.ensures.fault

pub returns-clause-output : goal.returns-clause-output
returns-clause-output g c =
    let o = c.args.options.now in
    let r = g.P.Protocol.rules in
    let has_ended = g.P.Ends.has_ended in
    subst (λ (s : Shape). IfOk c.stopped.result (λ out. IsRan r has_ended g.P.Spoken.words.kind g.P.Protocol.bound g.P.FindsTree.is_branch
    g.P.FindsTree.found c.args.protocol o s out.at_limit out.text.items)) c.in_ok-world.ensures.0 c.stopped.ensures.output
