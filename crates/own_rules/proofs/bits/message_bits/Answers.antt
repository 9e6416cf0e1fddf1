use Rattle.own_rules.proofs.Valued.{message_is}
use Rattle.own_rules.proofs.bits.message_bits.Goals as goal

pub returns : goal.returns
returns c =
    message_is c.args.widths c.args.count _ c.args.text.now c.greeted.result.now c.kind_name.result.now c.types_of-types.result.now
    c.values.result.now c.kinds.result c.width_of.result c.arguments_bits-arguments.result c.saturating_add.result c.greeted.ensures.kinds
    c.kind_name.ensures c.types_of-types.ensures.types c.values.ensures c.arguments_bits-arguments.ensures c.kinds.ensures c.width_of.ensures
    c.saturating_add.ensures
