-- What a schedule picks is one list.
use Rattle.std.proofs.Common.{◌≡◌, ◌%◌, ◌<◌, ◌≤◌, ◌∙◌, ℕ, Bool, List, [], ◌∷◌, ◌++◌, length, take, slice_get, refl, sym, ap, ap₂, arith, ⊎_elim, take_all, length-append}
use Rattle.std.proofs.lemmas.Bool.{cases_lt}
use Rattle.std.proofs.lemmas.List.{take-append-le}
use Rattle.std.proofs.lemmas.Option.{same_Some}
use Rattle.ghs_graph.specs.Graph.{Shape}
use Rattle.peer_network.specs.declared.event.Event.{Event}
use Rattle.peer_schedule.specs.Picks.{IsPick}
use Rattle.peer_schedule.specs.Schedule.{next_of, word_of}
use Rattle.peer_machine.specs.Rules.{Rules}
use Rattle.peer_runs.specs.Lawful.{lawful_events}
use Rattle.peer_runs.specs.Picks.{IsPicked, Begun, Picked, IsSeededRun, PicksAreOne, SeededRunIsOne}

module _ {S M : Type 0} (r : Rules S M) (may : ℕ → Bool) (g : Shape) (turns : ℕ) (trace : List Event) (words : List ℕ) where
  longer : {es : List Event} {s : List ℕ} → IsPicked r may g turns trace words es s → length trace ≤ length es
  longer Begun = omega arith
  longer (Picked es s e p few pick) = omega (arith, longer p, length-append es (e ∷ []))

  one_pick : (es fs : List Event) (s t : List ℕ) (e f : Event) → (es ≡ fs) × (s ≡ t) → IsPick (lawful_events r may g es) s e →
      IsPick (lawful_events r may g fs) t f → e ≡ f
  one_pick es fs s t e f same h k =
      same_Some e f (sym h.1 ∙ ap₂
      (λ (xs : List Event) (w : List ℕ). slice_get (lawful_events r may g xs) (word_of w % length (lawful_events r may g xs))) same.0 same.1 ∙ k.1)

  one_run : {es fs : List Event} {s t : List ℕ} → IsPicked r may g turns trace words es s → IsPicked r may g turns trace words fs t →
      length es ≡ length fs → (es ≡ fs) × (s ≡ t)
  one_run Begun Begun e = (refl, refl)
  one_run Begun (Picked fs t f q few pick) e = absurd (omega (arith, e, longer q, length-append fs (f ∷ [])))
  one_run (Picked es s x p few pick) Begun e = absurd (omega (arith, e, longer p, length-append es (x ∷ [])))
  one_run (Picked es s x p few pick) (Picked fs t f q few' pick') e =
      let same = one_run p q (omega (arith, e, length-append es (x ∷ []), length-append fs (f ∷ []))) in
      (ap₂ (λ (xs : List Event) (y : Event). xs ++ y ∷ []) same.0 (one_pick es fs s t x f same pick pick'), ap next_of same.1)

  begins_with : {es fs : List Event} {s t : List ℕ} → IsPicked r may g turns trace words es s → IsPicked r may g turns trace words fs t →
      length es ≤ length fs → take (length es) fs ≡ es
  begins_with {es} p Begun le = take_all (length es) trace (omega (arith, longer p)) ∙ sym (one_run p Begun (omega (arith, le, longer p))).0
  begins_with {es} p (Picked fs t f q few pick) le =
      let b = length-append fs (f ∷ []) in
      ⊎_elim
      (λ (lt : length es < length (fs ++ f ∷ [])).
      take-append-le (length es) fs (f ∷ []) (omega (arith, b, lt)) ∙ begins_with p q (omega (arith, b, lt)))
      (λ (ge : length (fs ++ f ∷ []) ≤ length es).
      take_all (length es) (fs ++ f ∷ []) ge ∙ sym (one_run p (Picked fs t f q few pick) (omega (arith, le, ge))).0)
      (cases_lt (length es) (length (fs ++ f ∷ [])))

  -- behind a run that is over nothing is picked
  none_behind : {es fs : List Event} {s t : List ℕ} → IsSeededRun r may g turns trace words es s → IsPicked r may g turns trace words fs t →
      length fs ≤ length es
  none_behind p Begun = longer p.picked
  none_behind {es} p (Picked fs t f q few pick) = ⊎_elim
      (λ (lt : length fs < length es). omega (arith, lt, length-append fs (f ∷ [])))
      (λ (ge : length es ≤ length fs).
      let same = (one_run p.picked q (omega (arith, ge, none_behind p q))).0 in
      absurd (⊎_elim
      (λ full. omega (arith, full, few, ap (λ (xs : List Event). length xs) same))
      (λ none. omega (arith, pick.0, ap (λ (xs : List Event). length xs) (sym (ap (lawful_events r may g) same) ∙ none)))
      p.over))
      (cases_lt (length fs) (length es))

module _ {S M : Type 0} (r : Rules S M) where
  pub picks_are_one : PicksAreOne r
  picks_are_one may g turns trace words es fs s t p q = record {
    begins = λ le. begins_with r may g turns trace words p q le;
    state = λ e. (one_run r may g turns trace words p q e).1;
  }

  pub seeded_run_is_one : SeededRunIsOne r
  seeded_run_is_one may g turns trace words es s p = record {
    begins = λ fs t q. begins_with r may g turns trace words q p.picked (none_behind r may g turns trace words p q);
    one =
        λ fs t q.
        let low = none_behind r may g turns trace words p q.picked in
        let high = none_behind r may g turns trace words q p.picked in
        one_run r may g turns trace words q.picked p.picked (omega (arith, low, high));
  }
