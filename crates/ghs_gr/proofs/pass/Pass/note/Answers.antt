use Rattle.std.proofs.Common.{◌≡◌, ◌∙◌, ◌++◌, [], ◌∷◌, Some, ap, sym, subst, arith}
use Rattle.std.specs.List.{cons_option}
use Rattle.ghs_gr.specs.Arc.{arc_count, links_in}
use Rattle.ghs_gr.specs.Key.{AreSameKeys}
use Rattle.ghs_gr.specs.declared.line.Line.TheVariants.{Arc}
use Rattle.ghs_gr.proofs.Passes.{no_problem}
use Rattle.ghs_gr.proofs.pass.Pass.note.Goals as goal

pub returns-in_ok-put_key-in-Arc-Some-clause-notes : goal.returns-in_ok-put_key-in-Arc-Some-clause-notes
returns-in_ok-put_key-in-Arc-Some-clause-notes c =
    let arc : c.args.line ≡ Arc (Some c.in-Arc-Some.arc) =
    c.in-Arc-Some.is ∙ ap Arc (rw c.in-Arc-Some.is at c.in-Arc-Some.field-0-is) in
    let one : arc_count (c.args.line ∷ []) ≡ 1 = ap (λ l. arc_count (l ∷ [])) arc in
    let link : links_in (c.args.line ∷ []) ≡ c.in-Some.key ∷ [] =
    ap (λ l. links_in (l ∷ [])) arc ∙ ap (λ o. cons_option o []) (sym c.link.ensures ∙ c.in-Some.is) in
    let ensured = c.in_ok-put_key-in-Arc-Some.ensures in
    record {
      problem = no_problem _ c.args.line _ arc;
      found = omega arith;
      keys = subst (λ ks. AreSameKeys c.put_key.new.keys.items (c.args.self.now.keys.items ++ ks)) (sym link) ensured.keys;
      few = omega (arith, ensured.few);
    }
