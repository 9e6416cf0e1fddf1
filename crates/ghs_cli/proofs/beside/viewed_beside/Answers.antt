use Rattle.std.proofs.Common.{rules, subst}
use Rattle.std.specs.Prelude.{IfErr, IfOk}
use Rattle.ghs_graph.specs.Graph.{Shape}
use Rattle.ghs_cli.specs.Viewing.{HasNoPairView, IsPairView}
use Rattle.ghs_cli.proofs.Views.{no_pair_for_memory}
use Rattle.ghs_cli.proofs.beside.viewed_beside.Goals as goal

pub returns-in_err-second-clause-fault : goal.returns-in_err-second-clause-fault
returns-in_err-second-clause-fault c =
    no_pair_for_memory c.from_residual.result c.in_err-second.field-0.0 c.args.options.now c.args.beside c.args.graph (search rules) (search rules)

pub returns-clause-text : goal.returns-clause-text
returns-clause-text c =
    subst (λ (s : Shape). IfOk c.pair_page_of.result (λ text. IsPairView c.args.options.now c.args.beside s text.items))
    c.requires.graph c.pair_page_of.ensures.text

pub returns-clause-fault : goal.returns-clause-fault
returns-clause-fault c =
    subst (λ (s : Shape). IfErr c.pair_page_of.result (λ fault. HasNoPairView c.args.options.now c.args.beside s fault))
    c.requires.graph c.pair_page_of.ensures.fault
