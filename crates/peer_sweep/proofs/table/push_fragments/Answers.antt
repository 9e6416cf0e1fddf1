use Rattle.std.proofs.Common.{◌∙◌, ◌∷◌, ◌++◌, [], List, ap, append_assoc, codes, ℕ}
use Rattle.peer_sweep.specs.declared.column.Column.{Column}
use Rattle.peer_sweep.specs.declared.measure.Measure.TheVariants.{Fragments, Level}
use Rattle.peer_sweep.specs.Columns.{column, fragment_columns}
use Rattle.peer_sweep.proofs.table.push_fragments.Goals as goal

pub returns : goal.returns
unfolding fragment_columns
returns g c =
    let p = g.T.Teller.about c.args.teller.now in
    let old = c.args.columns.now.items in
    let level = column p (codes "level") Level ∷ [] in
    let fragments = column p (codes "fragments") Fragments ∷ [] in
    c.in_ok-push-2.ensures ∙ ap (λ (n : List ℕ). c.push.new.columns.items ++ column p n Fragments ∷ []) c.of-2.ensures
    ∙ ap (λ (l : List Column). l ++ fragments)
    (c.in_ok-push.ensures ∙ ap (λ (n : List ℕ). old ++ column p n Level ∷ []) c.of.ensures)
    ∙ append_assoc old level fragments
