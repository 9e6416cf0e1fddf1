use Rattle.std.proofs.Common.{subst}
use Rattle.std.specs.Prelude.{IfErr, IfOk}
use Rattle.ghs_graph.specs.Graph.{Shape}
use Rattle.ghs_cli.specs.Viewing.{HasNoSeedView, IsSeedView}
use Rattle.ghs_cli.proofs.viewing.seed_viewed.Goals as goal

pub returns-clause-text : goal.returns-clause-text
returns-clause-text c = subst (λ (s : Shape). IfOk c.page_of.result (λ text. IsSeedView c.args.options.now s text.items))
    c.in_ok-world.ensures.graph c.page_of.ensures.text

pub returns-clause-fault : goal.returns-clause-fault
returns-clause-fault c = subst (λ (s : Shape). IfErr c.page_of.result (λ fault. HasNoSeedView c.args.options.now s fault))
    c.in_ok-world.ensures.graph c.page_of.ensures.fault
