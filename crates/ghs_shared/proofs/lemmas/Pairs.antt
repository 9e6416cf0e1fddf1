-- Published pairs, lists of them, and the words that stand for them.
use Rattle.std.proofs.Common.{◌≡◌, ◌==◌, ℕ, ◌+◌, ◌*◌, ◌/◌, ◌%◌, ◌≤◌, List, [], ◌∷◌, ◌++◌, Bool, true, false, true≢false, cond, refl, sym, ap, ◌∙◌, subst, arith, append_assoc, append-nil, le_trans}
use Rattle.std.proofs.lemmas.Bool.Decides.{nat_tests}
use Rattle.ghs_shared.specs.declared.progress.Progress.{Progress}
use Rattle.ghs_shared.specs.Progress.{pair, word_of, pair_of, last_or, last_of, NoLess, RisesFrom, IsRising, StartsWith}

pub off : false ≡ true → ⊥
off e = true≢false (sym e)

-- lists that begin one another
pub starts_refl : (xs : List Progress) → StartsWith xs xs
starts_refl xs = ([], sym (append-nil xs))

pub starts_more : (xs front : List Progress) (x : Progress) → StartsWith xs front → StartsWith (xs ++ x ∷ []) front
starts_more xs front x h = (h.0 ++ x ∷ [], ap (λ l. l ++ x ∷ []) h.1 ∙ append_assoc front h.0 (x ∷ []))

pub starts_none : (xs : List Progress) → StartsWith xs []
starts_none xs = (xs, refl)

-- the last pair
pub last_or_push : (d : Progress) (xs : List Progress) (x : Progress) → last_or d (xs ++ x ∷ []) ≡ x
last_or_push d [] x = refl
last_or_push d (y ∷ ys) x = last_or_push y ys x

pub rises_push : (d : Progress) (xs : List Progress) (x : Progress) → RisesFrom d xs → NoLess (last_or d xs) x → RisesFrom d (xs ++ x ∷ [])
rises_push d [] x r n = (n, tt)
rises_push d (y ∷ ys) x r n = (r.0, rises_push y ys x r.1 n)

no_less_refl : (a : Progress) → NoLess a a
no_less_refl a = record { commits = omega arith; halted = λ h. h }

no_less_trans : (a b c : Progress) → NoLess a b → NoLess b c → NoLess a c
no_less_trans a b c p q = record { commits = le_trans p.commits q.commits; halted = λ h. q.halted (p.halted h) }

rises_to : (d : Progress) (xs : List Progress) → RisesFrom d xs → NoLess d (last_or d xs)
rises_to d [] r = no_less_refl d
rises_to d (x ∷ xs) r = no_less_trans d x (last_or x xs) r.0 (rises_to x xs r.1)

-- a later last pair is no less
pub rises_on : (d : Progress) (xs rest : List Progress) → RisesFrom d (xs ++ rest) → NoLess (last_or d xs) (last_or d (xs ++ rest))
rises_on d [] rest r = rises_to d rest r
rises_on d (x ∷ xs) rest r = rises_on x xs rest r.1

pub later_no_less : (xs front : List Progress) → StartsWith xs front → IsRising xs → NoLess (last_of front) (last_of xs)
later_no_less xs front h r =
    let P : List Progress → Type 0 = λ l. NoLess (last_of front) (last_of l) in
    subst P (sym h.1) (rises_on (pair 0 false) front h.0 (subst IsRising h.1 r))

-- the word and the pair
pub pair_word : (p : Progress) → pair_of (word_of p) ≡ p
pair_word p = halves p.commits p.halted
  where
    halves : (c : ℕ) (h : Bool) → pair_of (2 * c + cond h 1 0) ≡ pair c h
    halves c true =
        let a : (2 * c + 1) / 2 ≡ c = omega arith in
        let b : ((2 * c + 1) % 2 == 1) ≡ true = grind (arith, nat_tests) in
        λ i. pair (a i) (b i)
    halves c false =
        let a : (2 * c + 0) / 2 ≡ c = omega arith in
        let b : ((2 * c + 0) % 2 == 1) ≡ false = grind (arith, nat_tests) in
        λ i. pair (a i) (b i)

pub word_rises : (a b : Progress) → NoLess a b → word_of a ≤ word_of b
word_rises a b n = up a.commits b.commits a.halted b.halted n.commits n.halted
  where
    up : (c d : ℕ) (g h : Bool) → c ≤ d → (g ≡ true → h ≡ true) → 2 * c + cond g 1 0 ≤ 2 * d + cond h 1 0
    up c d true true le imp = omega arith
    up c d true false le imp = absurd (off (imp refl))
    up c d false true le imp = omega arith
    up c d false false le imp = omega arith
