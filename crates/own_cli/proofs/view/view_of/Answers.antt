use Rattle.own_cli.proofs.Viewing.{view_alone, view_beside}
use Rattle.own_cli.proofs.view.view_of.Goals as goal

pub returns-in-None-clause-told : goal.returns-in-None-clause-told
returns-in-None-clause-told c =
    view_alone c.args.options.now c.args.graph c.args.rules.now c.one_view.result c.in-None.is c.one_view.ensures.told

pub returns-in-Some-clause-told : goal.returns-in-Some-clause-told
returns-in-Some-clause-told c =
    view_beside c.args.options.now c.args.graph c.args.rules.now c.two_view.result c.in-Some.beside c.in-Some.is c.two_view.ensures.told
