-- Numbered lines, one behind another.
use Rattle.std.proofs.Common.{◌≡◌, ℕ, ◌+◌, ◌<◌, ◌∷◌, ◌∙◌, List, [], ◌++◌, append-nil, append_assoc, ap, arith, length, sym, take}
use Rattle.std.specs.List.{slice_index_or}
use Rattle.std.proofs.lemmas.List.{length-take-le, take_more}
use Rattle.peer_parts.specs.Lines.{numbered_lines}

module _ {A : Type 0} (line : ℕ → A → List ℕ) where
  -- the line of the next is the last
  last_line : (first : ℕ) (xs : List A) (x : A) →
      numbered_lines line first (xs ++ x ∷ []) ≡ numbered_lines line first xs ++ line (first + length xs) x
  last_line first [] x =
      let number : first ≡ first + 0 = omega arith in
      append-nil (line first x) ∙ ap (λ (n : ℕ). line n x) number
  last_line first (y ∷ xs) x =
      let number : first + 1 + length xs ≡ first + length (y ∷ xs) = omega arith in
      let rest = last_line (first + 1) xs x ∙ ap (λ (n : ℕ). numbered_lines line (first + 1) xs ++ line n x) number in
      ap (λ (l : List ℕ). line first y ++ l) rest
      ∙ sym (append_assoc (line first y) (numbered_lines line (first + 1) xs) (line (first + length (y ∷ xs)) x))

  -- with the line of the next a text has one line more
  pub one_line_more : (first i : ℕ) (xs : List A) (x : A) (head old new : List ℕ) →
      i < length xs →
      old ≡ head ++ numbered_lines line first (take i xs) →
      new ≡ old ++ line (first + i) (slice_index_or xs i x) →
      new ≡ head ++ numbered_lines line first (take (i + 1) xs)
  one_line_more first i xs x head old new within before last =
      let count : length (take i xs) ≡ i = length-take-le i xs (omega (arith, within)) in
      let next = slice_index_or xs i x in
      let lines = last_line first (take i xs) next in
      let all : numbered_lines line first (take (i + 1) xs) ≡ numbered_lines line first (take i xs) ++ line (first + i) next =
      ap (λ (l : List A). numbered_lines line first l) (take_more xs i x within)
      ∙ (lines ∙ ap (λ (n : ℕ). numbered_lines line first (take i xs) ++ line (first + n) next) count) in
      last ∙ (ap (λ (t : List ℕ). t ++ line (first + i) next) before
      ∙ (append_assoc head (numbered_lines line first (take i xs)) (line (first + i) next) ∙ ap (λ (l : List ℕ). head ++ l) (sym all)))
