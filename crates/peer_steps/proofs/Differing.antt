-- Marks and variables compared, one after another.
use Rattle.std.proofs.Common.{◌≡◌, ◌⊎◌, inl, inr, ℕ, zero, suc, ◌+◌, ◌<◌, ◌≤◌, Bool, true, false, List, [], ◌∷◌, ◌++◌, length, take, get_or, slice_get, slice_index_or, Option, Some, None, refl, sym, ◌∙◌, ap, ap₂, arith, ◌-◌, add-one, append_assoc, append-nil}
use Rattle.std.proofs.lemmas.Option.{slice_get_past}
use Rattle.std.specs.Prelude.{nat_lt}
use Rattle.std.proofs.lemmas.Bool.{ltb-false}
use Rattle.std.proofs.lemmas.Slice.Eq.{bytes_eq-Decides}
use Rattle.std.specs.Str.{bytes_eq}
use Rattle.peer_words.specs.declared.value.Said.{Said}
use Rattle.peer_words.specs.Words.{Words}
use Rattle.peer_steps.specs.declared.change.Change.{Change}
use Rattle.peer_steps.specs.declared.change.Change.TheVariants.{Mark}
use Rattle.peer_steps.specs.Changes.{mark_change, marks_below, unless, variable_change, variable_changes}
use Rattle.peer_steps.specs.Noted.{IsNoted}

same_bytes : (t : List ℕ) → bytes_eq t t ≡ true
same_bytes t = (bytes_eq-Decides t t).1 refl

no_change : (same : Bool) (c : Change) → same ≡ true → unless same c ≡ []
unfolding unless
no_change true c e = refl
no_change false c e = cc

module _ {S M : Type 0} (words : Words S M) (old new : S) where
  -- where the mark is as it was
  same_here : (p : ℕ) → words.mark new p ≡ words.mark old p → mark_change words old new p ≡ []
  same_here p e = no_change _ _ (ap (bytes_eq (words.mark old p)) e ∙ same_bytes (words.mark old p))

  -- where each from port k on is so
  rest_same : (k n : ℕ) → ((p : ℕ) → p < k + n → k ≤ p → words.mark new p ≡ words.mark old p) →
      marks_below words old new (k + n) ≡ marks_below words old new k
  rest_same k zero h = ap (marks_below words old new) (let e : k + 0 ≡ k = omega arith in e)
  rest_same k (suc n) h =
      ap (marks_below words old new) (let e : k + suc n ≡ suc (k + n) = omega arith in e)
      ∙ (ap₂ (λ (a b : List Change). a ++ b) (rest_same k n (λ p lt le. h p (omega (arith, lt)) le)) (same_here (k + n) (h (k + n) (omega arith)
      (omega arith)))
      ∙ append-nil (marks_below words old new k))

  module _ (ports first : ℕ) (marks : List (List ℕ)) (variables : List Said) (noted : IsNoted words old new ports first marks variables) where
    -- none before the first that is noted
    pub none_before : marks_below words old new first ≡ []
    none_before =
        ap (marks_below words old new) (let e : first ≡ 0 + first = omega arith in e)
        ∙ rest_same 0 first (λ p lt le. noted.others p (let w = noted.within in omega (arith, lt, w)) (inl (omega (arith, lt))))

    -- one more of those that are noted
    pub next_mark : (i : ℕ) (before sofar now : List Change) → i < length marks →
        sofar ≡ before ++ marks_below words old new (first + i) →
        now ≡ sofar ++ unless (bytes_eq (slice_index_or marks i []) (words.mark new (first + i))) (Mark (first + i) (words.mark new (first + i))) →
        now ≡ before ++ marks_below words old new (first + (i + 1))
    next_mark i before sofar now lt so put =
        put
        ∙ (ap₂ (λ (l : List Change) (m : List ℕ). l ++ unless (bytes_eq m (words.mark new (first + i))) (Mark (first + i) (words.mark new
        (first + i)))) so
        (noted.marks i lt)
        ∙ (append_assoc before (marks_below words old new (first + i)) (mark_change words old new (first + i))
        ∙ ap (λ (t : List Change). before ++ t) (sym (ap (marks_below words old new) (let e : first + (i + 1) ≡ suc
        (first + i) = omega arith in e)))))

    -- none behind them
    pub none_behind : marks_below words old new (first + length marks) ≡ marks_below words old new ports
    none_behind =
        let within = noted.within in
        sym
        (ap (marks_below words old new) (let e : ports ≡ first + length marks + (ports - (first + length marks)) = omega (arith, within) in e)
        ∙ rest_same (first + length marks) (ports - (first + length marks))
        (λ p lt le. noted.others p (omega (arith, lt, within)) (inr le)))
