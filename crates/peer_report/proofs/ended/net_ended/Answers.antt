use Rattle.std.proofs.Common.{true≢false, sym, ◌∙◌}
use Rattle.peer_report.proofs.Ending.{run_is_net}
use Rattle.peer_report.proofs.ended.net_ended.Goals as goal

pub returns-then-not-silent : goal.returns-then-not-silent
returns-then-not-silent g c =
    let is = run_is_net g.P.Protocol.rules c.args.net.now.graph c.args.net.now.trace c.trace.ensures.graph c.trace.ensures.run in (
      λ t. absurd (true≢false (sym t)),
      λ ended. sym c.if-not-silent.true ∙ c.silent.ensures.1 ((g.met.P.Ends.ends _ _ is).0 ended).0,
    )

pub returns : goal.returns
returns g c =
    let is = run_is_net g.P.Protocol.rules c.args.net.now.graph c.args.net.now.trace c.trace.ensures.graph c.trace.ensures.run in (
      λ t. (g.met.P.Ends.ends _ _ is).1 (c.silent.ensures.0 c.if-not-silent.false, c.all_awake.ensures.0 t),
      λ ended. c.all_awake.ensures.1 ((g.met.P.Ends.ends _ _ is).0 ended).1,
    )
