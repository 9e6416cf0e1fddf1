use Rattle.std.proofs.Common.{◌∙◌, sym}
use Rattle.ghs_node.proofs.RowNames.{row_has_port, row_named}
use Rattle.ghs_node.proofs.row_name.row_of.Goals as goal

pub tested_row-requires : goal.tested_row-requires
tested_row-requires c = row_has_port c.args.node.now c.args.work c.requires.0 c.requires.1

pub returns-clause-named : goal.returns-clause-named
returns-clause-named c = λ d row. row_named c.args.node.now c.args.work d row ∙ sym c.tested_row.ensures
