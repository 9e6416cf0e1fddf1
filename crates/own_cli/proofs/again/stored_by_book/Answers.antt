use Rattle.own_cli.proofs.Misfitting.{misfit_text}
use Rattle.own_cli.proofs.again.stored_by_book.Goals as goal

pub returns-clause-fault : goal.returns-clause-fault
returns-clause-fault g c =
    misfit_text c.args.book.now c.in-Ok.marked.0 c.in-Ok.marked.1.items (g.T.Source.left c.args.trace.now) c.cause_of.result
    (c.cause_of.ensures.cause c.args.book.now c.in-Err-fits.ensures) c.in-Ok.ensures.events
