-- Rows, each once, in the order in which they applied first.
use Rattle.std.proofs.Common.{◌≡◌, ℕ, ◌+◌, ◌<◌, ◌≤◌, Bool, true, false, List, [], ◌∷◌, ◌++◌, cond, length, map, refl, sym, ◌∙◌, ap, ap₂, arith}
use Rattle.std.specs.List.{All, sum_by}
use Rattle.std.specs.Str.{bytes_eq}
use Rattle.std.proofs.lemmas.Bool.{false≢true}
use Rattle.std.proofs.lemmas.List.Elements.{All-nil, All-cons}
use Rattle.std.proofs.lemmas.List.Sums.{sum_by-cons, sum_by_push}
use Rattle.std.proofs.lemmas.Slice.Eq.{bytes_eq-Decides}
use Rattle.peer_parts.specs.declared.rows.RowCount.{RowCount}
use Rattle.peer_parts.specs.Deeds.{Deed}
use Rattle.peer_parts.specs.Kept.{with_use}
use Rattle.peer_parts.specs.Parts.{row_count, rows_behind, rows_in, times_of, with_word}

same_bytes : (t : List ℕ) → bytes_eq t t ≡ true
same_bytes t = (bytes_eq-Decides t t).1 refl

-- what isn't the same one way isn't the other
other_bytes : (s t : List ℕ) → bytes_eq s t ≡ false → bytes_eq t s ≡ false
other_bytes s t differs = go (bytes_eq t s) refl
  where
    go : (b : Bool) → bytes_eq t s ≡ b → b ≡ false
    go true e = absurd (false≢true (sym differs ∙ ap (bytes_eq s) ((bytes_eq-Decides t s).0 e) ∙ same_bytes s))
    go false e = refl

-- how often a word stands among others
abbrev pub places_of : List ℕ → List (List ℕ) → ℕ
places_of x ws = sum_by (λ w. cond (bytes_eq x w) 1 0) ws

-- no word stands there twice
abbrev pub AreOnce : List (List ℕ) → Type 0
AreOnce ws = (x : List ℕ) → places_of x ws ≤ 1

next_place : (x w : List ℕ) (ws : List (List ℕ)) → places_of x (w ∷ ws) ≡ cond (bytes_eq x w) 1 0 + places_of x ws
next_place x w ws = sum_by-cons (λ v. cond (bytes_eq x v) 1 0) w ws

once_behind : (w : List ℕ) (ws : List (List ℕ)) → AreOnce (w ∷ ws) → AreOnce ws
once_behind w ws once x = let a = once x in let b = next_place x w ws in omega (arith, a, b)

-- a word that is put there stands there once
own_place : (x w : List ℕ) (ws : List (List ℕ)) → AreOnce ws → x ≡ w → places_of x (with_word ws w) ≡ 1
own_place x w [] once e =
    let a = next_place x w [] in
    let b : ◌≡◌ {A = ℕ} (cond (bytes_eq x w) 1 0) 1 = rw (e, same_bytes w) refl in
    omega (arith, a, b)
own_place x w (v ∷ ws) once e = go (own_place x w ws (once_behind v ws once) e) (bytes_eq v w) refl
  where
    go : places_of x (with_word ws w) ≡ 1 → (b : Bool) → bytes_eq v w ≡ b → places_of x (cond b (v ∷ ws) (v ∷ with_word ws w)) ≡ 1
    go rest true here =
        let a = next_place x v ws in
        let one : ◌≡◌ {A = ℕ} (cond (bytes_eq x v) 1 0) 1 = rw (e, (bytes_eq-Decides v w).0 here, same_bytes w) refl in
        let most = once x in
        omega (arith, a, one, most)
    go rest false there =
        let a = next_place x v (with_word ws w) in
        let none : ◌≡◌ {A = ℕ} (cond (bytes_eq x v) 1 0) 0 = rw (e, other_bytes v w there) refl in
        omega (arith, a, none, rest)

-- and others as often as before
other_place : (x w : List ℕ) (ws : List (List ℕ)) → bytes_eq x w ≡ false → places_of x (with_word ws w) ≡ places_of x ws
other_place x w [] differs =
    let a = next_place x w [] in
    let b : ◌≡◌ {A = ℕ} (cond (bytes_eq x w) 1 0) 0 = rw differs refl in
    omega (arith, a, b)
other_place x w (v ∷ ws) differs = go (other_place x w ws differs) (bytes_eq v w)
  where
    go : places_of x (with_word ws w) ≡ places_of x ws → (b : Bool) → places_of x (cond b (v ∷ ws) (v ∷ with_word ws w)) ≡ places_of x (v ∷ ws)
    go rest true = refl
    go rest false =
        let a = next_place x v (with_word ws w) in
        let b = next_place x v ws in
        omega (arith, a, b, rest)

-- the same word, or another
by_word : {P : Type 0} (x w : List ℕ) → (x ≡ w → P) → (bytes_eq x w ≡ false → P) → P
by_word {P} x w same other = go (bytes_eq x w) refl
  where
    go : (b : Bool) → bytes_eq x w ≡ b → P
    go true e = same ((bytes_eq-Decides x w).0 e)
    go false e = other e

once_more : (w : List ℕ) (ws : List (List ℕ)) → AreOnce ws → AreOnce (with_word ws w)
once_more w ws once x =
    by_word x w (λ e. let a = own_place x w ws once e in omega (arith, a))
    (λ differs. let a = other_place x w ws differs in let b = once x in omega (arith, a, b))

place_stays : (x w : List ℕ) (ws : List (List ℕ)) → AreOnce ws → places_of x ws ≡ 1 → places_of x (with_word ws w) ≡ 1
place_stays x w ws once one = by_word x w (λ e. own_place x w ws once e) (λ differs. other_place x w ws differs ∙ one)

module _ {M : Type 0} where
  -- so do those of deeds that come behind
  place_kept : (x : List ℕ) (ws : List (List ℕ)) (ds : List (Deed M)) → AreOnce ws → places_of x ws ≡ 1 → places_of x (rows_behind ws ds) ≡ 1
  place_kept x ws [] once one = one
  place_kept x ws (d ∷ ds) once one =
      place_kept x (with_word ws d.row) ds (once_more d.row ws once) (place_stays x d.row ws once one)

  once_kept : (ws : List (List ℕ)) (ds : List (Deed M)) → AreOnce ws → AreOnce (rows_behind ws ds)
  once_kept ws [] once = once
  once_kept ws (d ∷ ds) once = once_kept (with_word ws d.row) ds (once_more d.row ws once)

  -- each deed's row stands there once
  each_once : (ws : List (List ℕ)) (ds : List (Deed M)) → AreOnce ws → sum_by (λ (d : Deed M). places_of d.row (rows_behind ws ds)) ds ≡ length ds
  each_once ws [] once = refl
  each_once ws (d ∷ ds) once =
      let more = with_word ws d.row in
      let later = once_more d.row ws once in
      let first = sum_by-cons (λ (e : Deed M). places_of e.row (rows_behind more ds)) d ds in
      let here = place_kept d.row more ds later (own_place d.row d.row ws once refl) in
      let rest = each_once more ds later in
      omega (arith, first, here, rest)

  -- a row that stands nowhere hasn't applied
  none_there : (x : List ℕ) (ws : List (List ℕ)) (ds : List (Deed M)) → AreOnce ws → places_of x (rows_behind ws ds) ≡ 0 → times_of x ds ≡ 0
  none_there x ws [] once none = refl
  none_there x ws (d ∷ ds) once none =
      let more = with_word ws d.row in
      let later = once_more d.row ws once in
      let first = sum_by-cons (λ (e : Deed M). cond (bytes_eq e.row x) 1 0) d ds in
      let rest = none_there x more ds later none in
      by_word d.row x
      (λ e. let here = place_kept x more ds later (own_place x d.row ws once (sym e)) in absurd (omega (arith, here, none)))
      (λ differs. let zero : ◌≡◌ {A = ℕ} (cond (bytes_eq d.row x) 1 0) 0 = rw differs refl in omega (arith, first, rest, zero))

none_once : AreOnce []
none_once x = omega arith

count_is : (w : List ℕ) (n m : ℕ) → n ≡ m → ◌≡◌ {A = RowCount} (record { row = w; times = n }) (record { row = w; times = m })
count_is w n m e = ap (λ (k : ℕ). record { row = w; times = k }) e

-- sums by two numbers
sum_both : {X : Type 0} (f h k : X → ℕ) → ((x : X) → f x ≡ h x + k x) → (xs : List X) → sum_by f xs ≡ sum_by h xs + sum_by k xs
sum_both f h k e [] = refl
sum_both f h k e (x ∷ xs) =
    let a = sum_by-cons f x xs in
    let b = sum_by-cons h x xs in
    let c = sum_by-cons k x xs in
    let here = e x in
    let rest = sum_both f h k e xs in
    omega (arith, a, b, c, here, rest)

sum_zero : {X : Type 0} (xs : List X) → sum_by (λ (x : X). 0) xs ≡ 0
sum_zero [] = refl
sum_zero (x ∷ xs) = let a = sum_by-cons (λ y. 0) x xs in let rest = sum_zero xs in omega (arith, a, rest)

sum_mapped : {X Y : Type 0} (f : Y → ℕ) (h : X → Y) (xs : List X) → sum_by f (map h xs) ≡ sum_by (λ x. f (h x)) xs
sum_mapped f h [] = refl
sum_mapped f h (x ∷ xs) =
    let a = sum_by-cons f (h x) (map h xs) in
    let b = sum_by-cons (λ y. f (h y)) x xs in
    let rest = sum_mapped f h xs in
    omega (arith, a, b, rest)

module _ {M : Type 0} where
  -- counted row by row, and deed by deed
  both_ways : (ws : List (List ℕ)) (ds : List (Deed M)) → sum_by (λ w. times_of w ds) ws ≡ sum_by (λ (d : Deed M). places_of d.row ws) ds
  both_ways ws [] = sum_zero ws
  both_ways ws (d ∷ ds) =
      let a = sum_both (λ w. times_of w (d ∷ ds)) (λ w. cond (bytes_eq d.row w) 1 0) (λ w. times_of w ds)
      (λ w. sum_by-cons (λ (e : Deed M). cond (bytes_eq e.row w) 1 0) d ds) ws in
      let b = sum_by-cons (λ (e : Deed M). places_of e.row ws) d ds in
      let rest = both_ways ws ds in
      omega (arith, a, b, rest)

  -- all rows together applied as often as there are deeds
  pub all_rows : (ds : List (Deed M)) → sum_by (λ (x : RowCount). x.times) (map (row_count ds) (rows_in ds)) ≡ length ds
  all_rows ds =
      sum_mapped (λ (x : RowCount). x.times) (row_count ds) (rows_in ds) ∙ both_ways (rows_in ds) ds ∙ each_once [] ds none_once

  -- one deed more
  rows_more : (ws : List (List ℕ)) (ds : List (Deed M)) (d : Deed M) → rows_behind ws (ds ++ d ∷ []) ≡ with_word (rows_behind ws ds) d.row
  rows_more ws [] d = refl
  rows_more ws (x ∷ ds) d = rows_more (with_word ws x.row) ds d

  times_more : (w : List ℕ) (ds : List (Deed M)) (d : Deed M) → times_of w (ds ++ d ∷ []) ≡ times_of w ds + cond (bytes_eq d.row w) 1 0
  times_more w ds d = sum_by_push (λ (e : Deed M). cond (bytes_eq e.row w) 1 0) ds d

  module _ (ds : List (Deed M)) (d : Deed M) where
    own_count : (w : List ℕ) → d.row ≡ w → ◌≡◌ {A = RowCount} (row_count (ds ++ d ∷ []) w) (record { row = w; times = times_of w ds + 1 })
    own_count w e =
        let one : ◌≡◌ {A = ℕ} (cond (bytes_eq d.row w) 1 0) 1 = rw (e, same_bytes w) refl in
        let more = times_more w ds d in
        count_is w _ _ (omega (arith, one, more))

    other_count : (w : List ℕ) → bytes_eq d.row w ≡ false → row_count (ds ++ d ∷ []) w ≡ row_count ds w
    other_count w differs =
        let none : ◌≡◌ {A = ℕ} (cond (bytes_eq d.row w) 1 0) 0 = rw differs refl in
        let more = times_more w ds d in
        count_is w _ _ (omega (arith, none, more))

    others_count : (ws : List (List ℕ)) → places_of d.row ws ≡ 0 → map (row_count (ds ++ d ∷ [])) ws ≡ map (row_count ds) ws
    others_count [] none = refl
    others_count (w ∷ ws) none =
        let a = next_place d.row w ws in
        by_word d.row w
        (λ e. let one : ◌≡◌ {A = ℕ} (cond (bytes_eq d.row w) 1 0) 1 = rw (e, same_bytes w) refl in absurd (omega (arith, a, one, none)))
        (λ differs. ap₂ (λ (x : RowCount) (xs : List RowCount). x ∷ xs) (other_count w differs) (others_count ws (omega (arith, a, none))))

    counts_more : (ws : List (List ℕ)) → AreOnce ws → (places_of d.row ws ≡ 0 → times_of d.row ds ≡ 0) →
        map (row_count (ds ++ d ∷ [])) (with_word ws d.row) ≡ with_use (map (row_count ds) ws) d.row
    counts_more [] once none =
        let zero = none refl in
        ap (λ (x : RowCount). x ∷ []) (own_count d.row refl ∙ count_is d.row _ _ (omega (arith, zero)))
    counts_more (w ∷ ws) once none = go (λ zero. counts_more ws (once_behind w ws once) zero) (bytes_eq w d.row) refl
      where
        go :
            ((places_of d.row ws ≡ 0 → times_of d.row ds ≡ 0) →
            map (row_count (ds ++ d ∷ [])) (with_word ws d.row) ≡ with_use (map (row_count ds) ws) d.row) → (b : Bool) → bytes_eq w d.row ≡ b →
            map (row_count (ds ++ d ∷ [])) (cond b (w ∷ ws) (w ∷ with_word ws d.row)) ≡
            cond b (record { row = w; times = times_of w ds + 1 } ∷ map (row_count ds) ws) (row_count ds w ∷ with_use (map (row_count ds) ws) d.row)
        go rest true e =
            let same : d.row ≡ w = sym ((bytes_eq-Decides w d.row).0 e) in
            let one : ◌≡◌ {A = ℕ} (cond (bytes_eq d.row w) 1 0) 1 = rw (same, same_bytes w) refl in
            let a = next_place d.row w ws in
            let most = once d.row in
            ap₂ (λ (x : RowCount) (xs : List RowCount). x ∷ xs) (own_count w same) (others_count ws (omega (arith, a, one, most)))
        go rest false e =
            let differs : bytes_eq d.row w ≡ false = other_bytes w d.row e in
            let zero : ◌≡◌ {A = ℕ} (cond (bytes_eq d.row w) 1 0) 0 = rw differs refl in
            let a = next_place d.row w ws in
            ap₂ (λ (x : RowCount) (xs : List RowCount). x ∷ xs) (other_count w differs)
            (rest (λ z. none (omega (arith, a, zero, z))))

    -- the rows with their counts, with one deed more
    pub used_more : map (row_count (ds ++ d ∷ [])) (rows_in (ds ++ d ∷ [])) ≡ with_use (map (row_count ds) (rows_in ds)) d.row
    used_more =
        ap (map (row_count (ds ++ d ∷ []))) (rows_more [] ds d)
        ∙ counts_more (rows_in ds) (once_kept [] ds none_once) (none_there d.row [] ds none_once)

  -- no row applied more often than there are deeds
  times_few : (w : List ℕ) (ds : List (Deed M)) → times_of w ds ≤ length ds
  times_few w [] = omega arith
  times_few w (d ∷ ds) =
      let first = sum_by-cons (λ (e : Deed M). cond (bytes_eq e.row w) 1 0) d ds in
      let rest = times_few w ds in
      let one = few (bytes_eq d.row w) in
      omega (arith, first, rest, one)
    where
      few : (b : Bool) → cond b 1 0 ≤ 1
      few true = omega arith
      few false = omega arith

  pub counts_few : (n : ℕ) (ds : List (Deed M)) (ws : List (List ℕ)) → length ds < n → All (λ (x : RowCount). x.times < n) (map (row_count ds) ws)
  counts_few n ds [] lt = All-nil (λ (x : RowCount). x.times < n)
  counts_few n ds (w ∷ ws) lt =
      let few = times_few w ds in
      All-cons (λ (x : RowCount). x.times < n) (row_count ds w) (map (row_count ds) ws) (omega (arith, few, lt)) (counts_few n ds ws lt)
