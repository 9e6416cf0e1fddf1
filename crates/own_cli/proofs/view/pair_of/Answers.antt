use Rattle.std.proofs.Common.{Err, ap, refl}
use Rattle.own_cli.proofs.Viewing.{same_pair, two_large}
use Rattle.own_cli.proofs.view.pair_of.Goals as goal

pub returns-in-Ok-clause-page : goal.returns-in-Ok-clause-page
returns-in-Ok-clause-page c =
    same_pair c.args.rules.now c.args.options.now.from c.args.options.now.to c.in-Ok.text.items c.args.graph c.args.graph c.deref.result.now
    c.args.first.now.events.items c.deref-2.result.now c.args.second.now.events.items refl c.deref.ensures.value c.deref-2.ensures.value
    c.in-Ok.ensures.page

pub returns-in-Err-TooLarge-clause-fault : goal.returns-in-Err-TooLarge-clause-fault
returns-in-Err-TooLarge-clause-fault c =
    two_large c.args.options.now c.args.graph c.args.rules.now c.args.beside c.args.first.now c.args.second.now c.deref.result.now
    c.deref-2.result.now c.requires.beside c.requires.first c.requires.second c.deref.ensures.value c.deref-2.ensures.value
    (c.in-Err-TooLarge.ensures.large.0 (ap Err c.in-Err-TooLarge.field-0-is))
