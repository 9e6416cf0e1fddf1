use Rattle.std.proofs.Common.{◌+◌, ◌++◌, ◌∷◌, ◌∙◌, [], ℕ, List, ap, set}
use Rattle.peer_parts.specs.declared.rows.RowCount.{RowCount}
use Rattle.peer_parts.proofs.Using.{used_at, used_last}
use Rattle.peer_parts.proofs.rows.add.Goals as goal

pub returns-in-Some : goal.returns-in-Some
returns-in-Some c =
    let xs = c.args.list.now.items in
    let is = rw c.deref.ensures.value at c.in-Some.ensures in
    ap (λ (x : RowCount). set xs c.in-Some.place (record { row = x.row; times = x.times + 1 })) c.index_mut.ensures.value
    ∙ used_at xs c.args.row.now c.in-Some.place c.index_mut.result.now is

pub returns-in_ok-push-in-None : goal.returns-in_ok-push-in-None
returns-in_ok-push-in-None c =
    let xs = c.args.list.now.items in
    let none = rw c.deref.ensures.value at c.in-None.ensures in
    c.in_ok-push-in-None.ensures.items ∙ ap (λ (w : List ℕ). xs ++ record { row = w; times = 1 } ∷ []) c.of.ensures
    ∙ used_last xs c.args.row.now none
