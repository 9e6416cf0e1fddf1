use Rattle.std.proofs.Common.{◌≡◌, Err, rules}
use Rattle.ghs_answers.specs.declared.fault.ServeFault.TheVariants as serve
use Rattle.ghs_cli.proofs.Named.{swept_all, swept_none, swept_part}
use Rattle.ghs_cli.proofs.networks.sweep_networks.Goals as goal

pub returns-in_err-text-clause-swept : goal.returns-in_err-text-clause-swept
returns-in_err-text-clause-swept g c =
    swept_none c.args.protocols.now c.args.options.now c.args.networks.now (g.W.Sink.held c.args.out.now) c.from_residual.result (search rules)

pub returns-in_err-write_out-clause-swept : goal.returns-in_err-write_out-clause-swept
returns-in_err-write_out-clause-swept g c =
    let is : c.from_residual-in_err-write_out.result ≡ Err (serve.Write c.in_err-write_out.field-0.0.written) = search rules in
    swept_part c.args.protocols.now c.args.options.now c.args.networks.now c.deref.result.now c.in_ok-text.text.items (g.W.Sink.held c.args.out.now)
    (g.W.Sink.held c.write_out.new.writer)
    c.from_residual-in_err-write_out.result c.in_err-write_out.field-0.0.written c.deref.ensures.value is c.in_err-write_out.ensures.err.0
    c.in_err-write_out.ensures.err.1
    c.in_ok-text.ensures

pub returns-clause-swept : goal.returns-clause-swept
returns-clause-swept g c =
    swept_all c.args.protocols.now c.args.options.now c.args.networks.now c.deref.result.now c.in_ok-text.text.items (g.W.Sink.held c.args.out.now)
    (g.W.Sink.held c.write_out.new.writer) c.deref.ensures.value c.in_ok-write_out.ensures.ok c.in_ok-text.ensures
