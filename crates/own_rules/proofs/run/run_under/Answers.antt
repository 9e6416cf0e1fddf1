use Rattle.std.proofs.Common.{sym, subst}
use Rattle.std.proofs.lemmas.Result.{IfOk-weaker}
use Rattle.own_rules.specs.Run.{IsRunOf}
use Rattle.own_rules.proofs.Running.{both, stands_so, told_of_run}
use Rattle.own_rules.proofs.run.run_under.Goals as goal

pub returns-clause-run : goal.returns-clause-run
returns-clause-run g c =
    let ran = c.in_ok-world.ensures in
    IfOk-weaker c.ran.result _ _
    (λ it is. subst (λ es. IsRunOf g.P.Protocol.rules c.args.seed c.args.turns c.args.graph c.args.wake es) (sym is.0) ran.run)
    c.ran.ensures.run

pub returns-clause-stands : goal.returns-clause-stands
returns-clause-stands g c =
    let ran = c.in_ok-world.ensures in
    IfOk-weaker c.ran.result _ _
    (λ it is. stands_so g.P.Protocol.rules c.args.turns c.args.graph c.args.wake _ _ it.events.items it.at_limit is.0.0 is.1 ran.stands)
    (both c.ran.result _ _ c.ran.ensures.run c.ran.ensures.limit)

pub returns-clause-told : goal.returns-clause-told
returns-clause-told g c =
    told_of_run g.P.Protocol.rules g.P.Spoken.words.kind g.P.Protocol.bound c.args.rules.now c.args.check _ _ c.in_ok-world.ensures.graph c.ran.result
    c.ran.ensures.told
