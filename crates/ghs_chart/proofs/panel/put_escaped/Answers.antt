use Rattle.std.proofs.Common.{◌++◌, flat_map, sym, ap, ◌∙◌, map-id}
use Rattle.std.proofs.lemmas.Iterator.{YieldsList-from_chars}
use Rattle.std.proofs.lemmas.Iterator.Consumers.{YieldsList-end}
use Rattle.ghs_chart.specs.Chart.{escaped}
use Rattle.ghs_chart.proofs.panel.put_escaped.Goals as goal

-- the letters that were put are all
pub returns : goal.returns
returns c =
    let all = YieldsList-from_chars c.args.name.now c.utf8.name cc in
    let end = YieldsList-end all c.loop-letter.yielded _ c.loop-letter.yielded_by _ _ c.in-None.is c.next.ensures.steps in
    c.loop-letter.invariant ∙ ap (λ letters. c.args.text.now.items ++ flat_map escaped letters) (sym (map-id c.loop-letter.yielded) ∙ end.0)
