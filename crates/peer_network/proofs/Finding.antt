-- What is found first in a list.
use Rattle.std.proofs.Common.{◌≡◌, ◌∙◌, ℕ, suc, ◌+◌, ◌<◌, Bool, true, false, List, [], ◌∷◌, None, Some, ap, sym, take, drop, length, slice_index_or}
use Rattle.std.specs.List.{find}
use Rattle.std.specs.Option.{option_or}
use Rattle.std.proofs.lemmas.Bool.{cond-true, cond-false}
use Rattle.std.proofs.lemmas.List.{take-append-drop, take_more}
use Rattle.std.proofs.lemmas.List.Folds.{find-append}
use Rattle.std.proofs.Math.Seq.{drop-cons}

module _ {X : Type 0} (p : X → Bool) (xs : List X) (i : ℕ) (d : X) (lt : i < length xs) (none : find p (take i xs) ≡ None) where
  -- nothing is found before a place, and there it is
  pub found_at : p (slice_index_or xs i d) ≡ true → find p xs ≡ Some (slice_index_or xs i d)
  found_at here =
      ap (find p) (sym (take-append-drop i xs)) ∙ find-append p (take i xs) (drop i xs) ∙
      ap (λ o. option_or o (find p (drop i xs))) none ∙
      ap (find p) (drop-cons xs i d lt) ∙
      cond-true (p (slice_index_or xs i d)) (Some (slice_index_or xs i d)) (find p (drop (suc i) xs)) here

  -- nor there
  pub none_at : p (slice_index_or xs i d) ≡ false → find p (take (i + 1) xs) ≡ None
  none_at other =
      let x = slice_index_or xs i d in
      ap (find p) (take_more xs i d lt) ∙ find-append p (take i xs) (x ∷ []) ∙ ap (λ o. option_or o (find p (x ∷ []))) none ∙
      cond-false (p x) (Some x) None other
