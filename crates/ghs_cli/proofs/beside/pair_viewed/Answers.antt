use Rattle.std.proofs.Common.{subst}
use Rattle.std.specs.Prelude.{IfErr, IfOk}
use Rattle.ghs_graph.specs.Graph.{Shape}
use Rattle.ghs_cli.specs.Viewing.{HasNoPairView, IsPairView}
use Rattle.ghs_cli.proofs.beside.pair_viewed.Goals as goal

pub returns-clause-text : goal.returns-clause-text
returns-clause-text c =
    subst (λ (s : Shape). IfOk c.viewed_beside.result (λ text. IsPairView c.args.options.now c.args.beside s text.items)) c.in_ok-same.ensures
    c.viewed_beside.ensures.text

pub returns-clause-fault : goal.returns-clause-fault
returns-clause-fault c =
    subst (λ (s : Shape). IfErr c.viewed_beside.result (λ fault. HasNoPairView c.args.options.now c.args.beside s fault)) c.in_ok-same.ensures
    c.viewed_beside.ensures.fault
