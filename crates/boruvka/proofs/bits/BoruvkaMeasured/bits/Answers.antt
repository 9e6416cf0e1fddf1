use Rattle.std.proofs.Common.{◌∙◌, ap}
use Rattle.ghs_bits.specs.declared.widths.Widths.{Widths}
use Rattle.boruvka_node.specs.Length.{length_of}
use Rattle.boruvka.proofs.bits.BoruvkaMeasured.bits.Goals as goal

pub returns : goal.returns
returns c = λ g is. c.length.ensures ∙ ap (λ (w : Widths). length_of w c.args.message.now) is
