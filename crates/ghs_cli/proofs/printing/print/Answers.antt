use Rattle.std.proofs.Common.{rules}
use Rattle.ghs_cli.proofs.Serves.{all_printed, none_printed, part_printed}
use Rattle.ghs_cli.proofs.printing.print.Goals as goal

pub returns-in_err-text-clause-printed : goal.returns-in_err-text-clause-printed
returns-in_err-text-clause-printed g c =
    none_printed c.args.made c.in_err-text.field-0.0 _ _ c.from_residual.result (search rules) (search rules)

pub returns-in_err-write_out-clause-printed : goal.returns-in_err-write_out-clause-printed
returns-in_err-write_out-clause-printed g c =
    part_printed c.args.made c.in_ok-text.text c.deref.result.now _ _ c.from_residual-in_err-write_out.result c.in_err-write_out.field-0.0.written
    (search rules) c.deref.ensures.value (search rules) c.in_err-write_out.ensures.err.0 c.in_err-write_out.ensures.err.1

pub returns-clause-printed : goal.returns-clause-printed
returns-clause-printed g c =
    all_printed c.args.made c.in_ok-text.text c.deref.result.now _ _ (search rules) c.deref.ensures.value c.in_ok-write_out.ensures.ok
