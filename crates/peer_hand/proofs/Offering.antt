-- The lines of what is offered, one by one.
use Rattle.std.proofs.Common.{◌≡◌, ℕ, ◌+◌, List, [], ◌∷◌, ◌++◌, Some, take, slice_get, ◌∙◌, ap, sym}
use Rattle.std.specs.List.{flat_map}
use Rattle.std.proofs.lemmas.List.{flat_map_more, take_more}
use Rattle.std.proofs.lemmas.Option.{get_or_from_slice_get, slice_get_within}
use Rattle.peer_network.specs.declared.event.Event.{Event}

pub one_more : (f : Event → List ℕ) (rs : List Event) (k : ℕ) (e : Event) (old now then : List ℕ) → slice_get rs k ≡ Some e →
    now ≡ old ++ flat_map f (take k rs) → then ≡ now ++ f e →
    then ≡ old ++ flat_map f (take (k + 1) rs)
one_more f rs k e old now then here has put =
    let first : take (k + 1) rs ≡ take k rs ++ e ∷ [] =
    take_more rs k e (slice_get_within rs k e here) ∙ ap (λ (x : Event). take k rs ++ x ∷ []) (get_or_from_slice_get rs k e e here) in
    put ∙ ap (λ (l : List ℕ). l ++ f e) has ∙ flat_map_more f old (take k rs) e ∙ ap (λ (l : List Event). old ++ flat_map f l) (sym first)
