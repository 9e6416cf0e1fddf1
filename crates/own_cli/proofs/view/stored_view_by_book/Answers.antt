use Rattle.std.proofs.Common.{rules, ◌≡◌, Err}
use Rattle.ghs_answers.specs.declared.fault.ServeFault.TheVariants as serve
use Rattle.own_cli.proofs.Viewing.{stored_all, stored_part}
use Rattle.own_cli.proofs.view.stored_view_by_book.Goals as goal

pub returns-in_err-write_out-clause-view : goal.returns-in_err-write_out-clause-view
returns-in_err-write_out-clause-view g c =
    let written = c.in_err-write_out.field-0.0.written in
    let is : c.from_residual-in_err-write_out.result ≡ Err (serve.Write written) = search rules in
    stored_part c.args.options.now c.args.graph c.args.rules.now c.args.events.now c.deref.result.now c.in_ok-text.text.items
    (g.W.Sink.held c.args.out.now) (g.W.Sink.held c.write_out.new.writer) c.from_residual-in_err-write_out.result written c.deref.ensures.value
    is c.in_ok-text.ensures.page c.in_err-write_out.ensures.err.0 c.in_err-write_out.ensures.err.1

pub returns-clause-view : goal.returns-clause-view
returns-clause-view g c =
    stored_all c.args.options.now c.args.graph c.args.rules.now c.args.events.now c.deref.result.now c.in_ok-text.text.items
    (g.W.Sink.held c.args.out.now) (g.W.Sink.held c.write_out.new.writer) c.deref.ensures.value c.in_ok-text.ensures.page
    c.in_ok-write_out.ensures.ok
