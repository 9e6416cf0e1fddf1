-- What a schedule picks is one list.
use Rattle.std.proofs.Common.{◌≡◌, ◌%◌, ◌<◌, ◌≤◌, ◌∙◌, ℕ, Bool, List, [], ◌∷◌, ◌++◌, length, take, slice_get, refl, sym, ap, ap₂, subst, arith, ⊎_elim, take_all, length-append}
use Rattle.std.proofs.lemmas.Bool.{cases_lt}
use Rattle.std.proofs.lemmas.List.{take-append-le}
use Rattle.std.proofs.lemmas.Option.{same_Some}
use Rattle.ghs_graph.specs.Graph.{Shape}
use Rattle.peer_network.specs.declared.event.Event.{Event}
use Rattle.ghs_protocol.specs.Marks.{HasEnded}
use Rattle.ghs_protocol.specs.Run.{net_after}
use Rattle.ghs_sched.specs.Picks.{Begun, IsPicked, IsSeededRun, Picked, PicksAreOne, SeededRunIsOne, lawful_events}
use Rattle.peer_schedule.specs.Picks.{IsPick}
use Rattle.peer_schedule.specs.Schedule.{next_of, word_of}

module _ (may : ℕ → Bool) (g : Shape) (turns : ℕ) (trace : List Event) (words : List ℕ) where
  longer : {es : List Event} {s : List ℕ} → IsPicked may g turns trace words es s → length trace ≤ length es
  longer Begun = omega arith
  longer (Picked es s e p going few pick) = let r = longer p in let m = length-append es (e ∷ []) in omega arith

  one_pick : (es fs : List Event) (s t : List ℕ) (e f : Event) → (es ≡ fs) × (s ≡ t) → IsPick (lawful_events may g es) s e →
      IsPick (lawful_events may g fs) t f → e ≡ f
  one_pick es fs s t e f same h k =
      same_Some e f (sym h.1 ∙ ap₂
      (λ (xs : List Event) (w : List ℕ). slice_get (lawful_events may g xs) (word_of w % length (lawful_events may g xs))) same.0 same.1 ∙ k.1)

  one_run : {es fs : List Event} {s t : List ℕ} → IsPicked may g turns trace words es s → IsPicked may g turns trace words fs t →
      length es ≡ length fs → (es ≡ fs) × (s ≡ t)
  one_run Begun Begun e = (refl, refl)
  one_run Begun (Picked fs t f q going few pick) e = let r = longer q in let m = length-append fs (f ∷ []) in absurd (omega arith)
  one_run (Picked es s x p going few pick) Begun e = let r = longer p in let m = length-append es (x ∷ []) in absurd (omega arith)
  one_run (Picked es s x p going few pick) (Picked fs t f q going' few' pick') e =
      let a = length-append es (x ∷ []) in
      let b = length-append fs (f ∷ []) in
      let same = one_run p q (omega arith) in
      let event = one_pick es fs s t x f same pick pick' in
      (ap₂ (λ (xs : List Event) (y : Event). xs ++ y ∷ []) same.0 event, ap next_of same.1)

  begins_with : {es fs : List Event} {s t : List ℕ} → IsPicked may g turns trace words es s → IsPicked may g turns trace words fs t →
      length es ≤ length fs → take (length es) fs ≡ es
  begins_with {es} p Begun le =
      let r = longer p in
      take_all (length es) trace (omega arith) ∙ sym (one_run p Begun (omega arith)).0
  begins_with {es} p (Picked fs t f q going few pick) le =
      let b = length-append fs (f ∷ []) in
      ⊎_elim
      (λ (lt : length es < length (fs ++ f ∷ [])). take-append-le (length es) fs (f ∷ []) (omega arith) ∙ begins_with p q (omega arith))
      (λ (ge : length (fs ++ f ∷ []) ≤ length es). take_all (length es) (fs ++ f ∷ []) (omega arith)
      ∙ sym (one_run p (Picked fs t f q going few pick) (omega arith)).0)
      (cases_lt (length es) (length (fs ++ f ∷ [])))

  -- behind a run that is over nothing is picked
  none_behind : {es fs : List Event} {s t : List ℕ} →
      IsSeededRun may g turns trace words es s →
      IsPicked may g turns trace words fs t →
      length fs ≤ length es
  none_behind p Begun = longer p.picked
  none_behind {es} p (Picked fs t f q going few pick) = ⊎_elim
      (λ (lt : length fs < length es). let m = length-append fs (f ∷ []) in omega arith)
      (λ (ge : length es ≤ length fs).
      let le = none_behind p q in
      let same = (one_run p.picked q (omega arith)).0 in
      absurd (⊎_elim
      (λ ended. going (subst (λ xs. HasEnded g (net_after g xs)) same ended))
      (λ o. ⊎_elim
      (λ full. let e = ap length same in omega arith)
      (λ none. let some = pick.0 in let e = ap length (sym (ap (lawful_events may g) same) ∙ none) in omega arith) o)
      p.over))
      (cases_lt (length fs) (length es))

pub picks_are_one : PicksAreOne
picks_are_one may g turns trace words es fs s t p q = record {
  begins = λ le. begins_with may g turns trace words p q le;
  state = λ e. (one_run may g turns trace words p q e).1;
}

pub seeded_run_is_one : SeededRunIsOne
seeded_run_is_one may g turns trace words es s p = record {
  begins = λ fs t q. begins_with may g turns trace words q p.picked (none_behind may g turns trace words p q);
  one =
      λ fs t q.
      let low = none_behind may g turns trace words p q.picked in
      let high = none_behind may g turns trace words q p.picked in
      one_run may g turns trace words q.picked p.picked (omega arith);
}
