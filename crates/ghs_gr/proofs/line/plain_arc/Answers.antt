use Rattle.std.proofs.Common.{◌∙◌, ap, Some}
use Rattle.std.specs.Prelude.{codes}
use Rattle.std.proofs.lemmas.Bool.Decides.{Decides-eqb}
use Rattle.std.proofs.lemmas.Slice.Eq.{strip_prefix_is}
use Rattle.ghs_gr.specs.Line.{meanings}
use Rattle.ghs_gr.proofs.Plain.{plain}
use Rattle.ghs_gr.proofs.line.plain_arc.Goals as goal

pub returns-clause-some : goal.returns-clause-some
returns-clause-some c =
    ap meanings (strip_prefix_is Decides-eqb c.args.text.now (codes "a ") (Some c.in_ok-fields.fields) c.in_ok-fields.ensures.cases)
    ∙ plain c.in_ok-fields.fields.now c.in_ok-from.rest.now c.in_ok-to.rest.now c.in_ok-weight.rest.now
    c.in_ok-from.from c.in_ok-to.to c.in_ok-weight.weight
    c.in_ok-from.ensures.number c.in_ok-to.ensures.number c.in_ok-weight.ensures.number
