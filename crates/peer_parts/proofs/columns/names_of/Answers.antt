use Rattle.std.proofs.Common.{◌≡◌, ◌+◌, ◌++◌, ◌∷◌, ◌∙◌, [], List, ℕ, ap₂, sym, arith}
use Rattle.std.proofs.lemmas.List.FromFn.{map-range_with_len_more}
use Rattle.peer_parts.proofs.columns.names_of.Goals as goal

pub loop-kind-preserved : goal.loop-kind-preserved
loop-kind-preserved g c =
    let next : 0 + c.loop-kind.kind ≡ c.loop-kind.kind = omega arith in
    c.in_ok-push.ensures.items
    ∙ ap₂ (λ (l : List (List ℕ)) (w : List ℕ). l ++ w ∷ []) c.loop-kind.invariant c.kind_name.ensures
    ∙ sym (map-range_with_len_more g.P.Swept.about.kind 0 c.loop-kind.kind c.loop-kind.kind next)
