use Rattle.std.proofs.Common.{Err, ap, refl}
use Rattle.own_cli.proofs.Viewing.{one_large, same_page}
use Rattle.own_cli.proofs.view.page_of.Goals as goal

pub returns-in-Ok-clause-page : goal.returns-in-Ok-clause-page
returns-in-Ok-clause-page c =
    same_page c.args.rules.now c.args.options.now.from c.args.options.now.to c.in-Ok.text.items c.args.graph c.args.graph c.deref.result.now
    c.args.ran.now.events.items refl c.deref.ensures.value c.in-Ok.ensures.page

pub returns-in-Err-TooLarge-clause-fault : goal.returns-in-Err-TooLarge-clause-fault
returns-in-Err-TooLarge-clause-fault c =
    one_large c.args.options.now c.args.graph c.args.rules.now c.args.ran.now c.deref.result.now c.requires.alone c.requires.run
    c.deref.ensures.value (c.in-Err-TooLarge.ensures.large.0 (ap Err c.in-Err-TooLarge.field-0-is))
