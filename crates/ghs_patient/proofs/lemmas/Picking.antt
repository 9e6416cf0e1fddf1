-- A pick by its place in one of two lists.
use Rattle.std.proofs.Common.{◌≡◌, ℕ, ◌%◌, ◌<◌, List, [], ◌∷◌, length, Some, refl, sym, ◌∙◌, ap, arith}
use Rattle.std.specs.List.{slice_get}
use Rattle.peer_network.specs.declared.event.Event.{Event}
use Rattle.peer_schedule.specs.Picks.{IsPick}
use Rattle.peer_schedule.specs.Schedule.{word_of}
use Rattle.ghs_patient.specs.Patience.{or_else}

pub none_of : (es : List Event) (n : ℕ) → n ≡ length es → n ≡ 0 → es ≡ []
none_of [] n many none = refl
none_of (e ∷ es) n many none = absurd (omega (arith, many, none))

module _ (words : List ℕ) (n k : ℕ) (e : Event) (place : k ≡ word_of words % n) where
  picked : (es : List Event) → n ≡ length es → 0 < n → slice_get es k ≡ Some e → IsPick es words e
  picked es many some here =
      (omega (arith, many, some), ap (slice_get es) (ap (λ (m : ℕ). word_of words % m) (sym many) ∙ sym place) ∙ here)

  -- of the first
  pub first_picked : (es fs : List Event) → n ≡ length es → 0 < n → slice_get es k ≡ Some e → IsPick (or_else es fs) words e
  first_picked [] fs many some here = absurd (omega (arith, many, some))
  first_picked (x ∷ es) fs many some here = picked (x ∷ es) many some here

  -- of the second, where the first is empty
  pub second_picked : (es fs : List Event) → es ≡ [] → n ≡ length fs → k < n → slice_get fs k ≡ Some e → IsPick (or_else es fs) words e
  second_picked es fs none many within here = rw none (picked fs many (omega (arith, within)) here)
