use Rattle.own_cli.proofs.Viewing.{one_shown, one_troubled}
use Rattle.own_cli.proofs.view.one_view.Goals as goal

pub returns-in_ok-page_of-in-Ok-clause-told : goal.returns-in_ok-page_of-in-Ok-clause-told
returns-in_ok-page_of-in-Ok-clause-told c =
    one_shown c.args.options.now c.args.graph c.args.rules.now c.in_ok-same.same c.in_ok-ran.ran c.in-Ok.ran c.in_ok-page_of-in-Ok.field-0.items
    c.in_ok-same.ensures c.in_ok-ran.ensures c.in-Ok.ensures.ok.0 c.in-Ok.ensures.ok.1 c.in_ok-page_of-in-Ok.ensures.page

pub returns-in-Err-clause-told : goal.returns-in-Err-clause-told
returns-in-Err-clause-told c =
    one_troubled c.args.options.now c.args.graph c.args.rules.now c.in_ok-ran.ran c.in-Err.told.end c.in-Err.told.text.items c.in_ok-ran.ensures
    c.in-Err.ensures.err
