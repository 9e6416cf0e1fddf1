use Rattle.std.proofs.Common.{rules, subst}
use Rattle.ghs_graph.specs.Graph.{Shape}
use Rattle.own_cli.specs.View.{IsShownRun}
use Rattle.own_cli.proofs.Viewing.{two_shown, two_troubled, unviewed}
use Rattle.own_cli.proofs.view.two_view.Goals as goal

pub returns-in_ok-pair_of-in-Ok-clause-told : goal.returns-in_ok-pair_of-in-Ok-clause-told
returns-in_ok-pair_of-in-Ok-clause-told c =
    let ok = c.in-Ok.ensures.ok in
    two_shown c.args.options.now c.args.graph c.args.rules.now c.args.beside c.in_ok-again.again c.in_ok-first.first c.in_ok-second.second
    c.in-Ok.first c.in-Ok.second c.in_ok-pair_of-in-Ok.field-0.items c.in_ok-again.ensures c.in_ok-first.ensures (subst (λ (s : Shape).
    IsShownRun c.args.options.now c.args.beside s c.args.rules.now c.in_ok-second.second) c.in_ok-same.ensures c.in_ok-second.ensures)
    ok.0 ok.1 ok.2 ok.3 c.in_ok-pair_of-in-Ok.ensures.page

pub returns-in-Err-clause-told : goal.returns-in-Err-clause-told
returns-in-Err-clause-told c =
    two_troubled c.args.options.now c.args.graph c.args.rules.now c.args.beside c.in_ok-first.first c.in_ok-second.second c.in-Err.told.end
    c.in-Err.told.text.items c.in_ok-first.ensures (subst (λ (s : Shape).
    IsShownRun c.args.options.now c.args.beside s c.args.rules.now c.in_ok-second.second) c.in_ok-same.ensures c.in_ok-second.ensures)
    c.in-Err.ensures.err

pub returns-in_err-pair_of-in-Ok-clause-fault : goal.returns-in_err-pair_of-in-Ok-clause-fault
returns-in_err-pair_of-in-Ok-clause-fault c =
    unviewed c.args.options.now c.args.graph c.args.rules.now c.in_ok-again.again c.from_residual-in_err-pair_of-in-Ok.result
    c.in_err-pair_of-in-Ok.field-0.0 (search rules) c.in_ok-again.ensures c.in_err-pair_of-in-Ok.ensures.fault
