-- Each step of the board keeps its rule.
use Rattle.std.proofs.Common.{◌≡◌, ◌≢◌, ℕ, zero, suc, ◌≤◌, max, List, [], ◌∷◌, ◌++◌, set, true, false, refl, sym, ap, ◌∙◌, subst, ⊎_elim, arith, length-append}
use mathlib.Core.Option.{some, some-ne-none, some-injective}
use lib.ListN.{get_elem?}
use Rattle.std.specs.Prelude.{slice_index}
use Rattle.atomic_table.specs.Table.{Me, keeps, step, opening, Allows, Splits, Joins}
use Rattle.atomic_table.proofs.Lists.{at_set, at_snoc}
use Rattle.ghs_shared.specs.declared.progress.Progress.{Progress}
use Rattle.ghs_shared.specs.declared.board_rule.Watch.{Watch}
use Rattle.ghs_shared.specs.Progress.{pair, word_of, pair_of, last_of, NoLess, StartsWith}
use Rattle.ghs_shared.specs.Board.{publisher_of, reader_of, Fits, IsBoard, Adds, Looks, Checks, informed}
use Rattle.ghs_shared.proofs.lemmas.Pairs.{off, starts_refl, starts_more, starts_none, last_or_push, rises_push, pair_word, word_rises}

-- views after a step
abbrev pub All : ℕ → List Progress → List Watch → Type 0
All seat log views = (id : ℕ) (v : Watch) → get_elem? views id ≡ some v → Fits seat log id v

all_set : (seat : ℕ) (log : List Progress) (views : List Watch) (id : ℕ) (w : Watch) → Fits seat log id w
    → ((j : ℕ) (u : Watch) → j ≢ id → get_elem? views j ≡ some u → Fits seat log j u) → All seat log (set views id w)
all_set seat log views id w mine others j u e =
    ⊎_elim
    (λ (x : (j ≡ id) × (w ≡ u)). subst (λ (y : ℕ × Watch). Fits seat log y.0 y.1) (λ i. (sym x.0 i, x.1 i)) mine)
    (λ (x : (j ≢ id) × (get_elem? views j ≡ some u)). others j u x.0 x.1)
    (at_set views id j w u e)

all_snoc : (seat : ℕ) (log : List Progress) (views : List Watch) (w : Watch) → All seat log views → ((j : ℕ) → Fits seat log j w)
    → All seat log (views ++ w ∷ [])
all_snoc seat log views w h new j u e = ⊎_elim (h j u) (λ (same : w ≡ u). subst (Fits seat log j) same (new j)) (at_snoc views w u j e)

-- a seat that only reads
reads_fit : (seat : ℕ) (log seen told : List Progress) (id : ℕ) → StartsWith log seen → StartsWith log told
    → Fits seat log id record { publishes = false; seen = seen; told = told }
reads_fit seat log seen told id s t = ((λ p. absurd (off p)), s, t)

pub begins : (p : Progress) → IsBoard (opening (word_of p ∷ []) [] (publisher_of (p ∷ [])))
begins p = record {
  seat = 0;
  all = p ∷ [];
  some_pair = omega arith;
  rising = (record { commits = omega arith; halted = λ h. absurd (off h) }, tt);
  word = refl;
  fits = one;
}
  where
    one : (id : ℕ) (v : Watch) → get_elem? (publisher_of (p ∷ []) ∷ []) id ≡ some v → Fits 0 (p ∷ []) id v
    one zero v e = subst (Fits 0 (p ∷ []) 0) (some-injective _ _ e) ((λ _. (refl, refl)), starts_refl (p ∷ []), starts_none (p ∷ []))
    one (suc id) v e = absurd (some-ne-none v (sym e))

at_zero : (n : ℕ) (words : List ℕ) → words ≡ n ∷ [] → slice_index words 0 ≡ n
at_zero n words e = ap (λ l. slice_index l 0) e

pub reads : (slots id : ℕ) (me : Me ℕ Watch) → me.0.publishes ≡ false → me.1 ≡ []
    → Allows IsBoard slots id me 0 (λ n. n) (Looks (step slots 0 0 0 mathlib.Core.Option.none) me)
reads slots id me plain empty s h sized at small =
    let mine = h.fits id me.0 at in
    let w = reader_of h.all in
    let n = slice_index s.words 0 in
    let found : n ≡ word_of (last_of h.all) = at_zero _ s.words h.word in (
      w,
      keeps,
      tt,
      record {
        seat = h.seat;
        all = h.all;
        some_pair = h.some_pair;
        rising = h.rising;
        word = ap (λ l. set l 0 n) h.word ∙ ap (λ k. k ∷ []) found;
        fits = all_set h.seat h.all s.views id w (reads_fit h.seat h.all h.all [] id (starts_refl h.all) (starts_none h.all))
            (λ j u _ e. h.fits j u e);
      },
      (ap (λ (c : List (ℕ × ℕ)). (w, c)) empty, mine.1, mine.2, h.rising, h.some_pair, found),
    )

-- the publisher loads
pub checks : (slots id : ℕ) (me : Me ℕ Watch) → me.0.publishes ≡ true → me.1 ≡ []
    → Allows IsBoard slots id me 0 (λ n. n) (Checks (step slots 0 0 0 mathlib.Core.Option.none) me)
checks slots id me may empty s h sized at small =
    let mine = h.fits id me.0 at in
    let known = mine.0 may in
    let w = publisher_of me.0.seen in
    let n = slice_index s.words 0 in
    let found : n ≡ word_of (last_of h.all) = at_zero _ s.words h.word in (
      w,
      keeps,
      tt,
      record {
        seat = h.seat;
        all = h.all;
        some_pair = h.some_pair;
        rising = h.rising;
        word = ap (λ l. set l 0 n) h.word ∙ ap (λ k. k ∷ []) found;
        fits = all_set h.seat h.all s.views id w ((λ _. known), mine.1, starts_none h.all) (λ j u _ e. h.fits j u e);
      },
      (
        ap (λ (c : List (ℕ × ℕ)). (w, c)) empty,
        subst (λ l. StartsWith l me.0.told) (sym known.1) mine.2,
        found ∙ ap (λ l. word_of (last_of l)) (sym known.1),
      ),
    )

-- the publisher raises the word
pub publishes : (slots id : ℕ) (me : Me ℕ Watch) (p : Progress) → me.0.publishes ≡ true → me.1 ≡ [] → NoLess (last_of me.0.seen) p
    → Allows IsBoard slots id me 0 (λ n. max n (word_of p)) (Adds (step slots 0 (word_of p) 0 mathlib.Core.Option.none) me)
publishes slots id me p may empty up s h sized at small =
    let mine = h.fits id me.0 at in
    let known = mine.0 may in
    let k = word_of p in
    let q = pair_of k in
    let same : q ≡ p = pair_word p in
    let w = publisher_of (me.0.seen ++ q ∷ []) in
    let log = h.all ++ q ∷ [] in
    let n = slice_index s.words 0 in
    let found : n ≡ word_of (last_of h.all) = at_zero _ s.words h.word in
    let rise : NoLess (last_of h.all) p = subst (λ l. NoLess (last_of l) p) known.1 up in
    let low : n ≤ k = subst (λ m. m ≤ k) (sym found) (word_rises (last_of h.all) p rise) in
    let most : max n k ≡ k = omega arith in
    let last : last_of log ≡ p = last_or_push (pair 0 false) h.all q ∙ same in (
      w,
      keeps,
      tt,
      record {
        seat = h.seat;
        all = log;
        some_pair = omega (arith, length-append h.all (q ∷ []));
        rising = rises_push (pair 0 false) h.all q h.rising (subst (λ r. NoLess (last_of h.all) r) (sym same) rise);
        word = ap (λ l. set l 0 (max n k)) h.word ∙ ap (λ m. m ∷ []) (most ∙ ap word_of (sym last));
        fits = all_set h.seat log s.views id w (
          (λ _. (known.0, ap (λ l. l ++ q ∷ []) known.1)),
          subst (λ l. StartsWith log (l ++ q ∷ [])) (sym known.1) (starts_refl log),
          starts_none log,
        )
            (λ j u other e. let was = h.fits j u e in
            ((λ c. absurd (other ((was.0 c).0 ∙ sym known.0))), starts_more h.all u.seen q was.1, starts_more h.all u.told q was.2));
      },
      ap (λ (c : List (ℕ × ℕ)). (w, c)) empty,
    )

-- a reader is made of any seat
pub splits : (id : ℕ) (v : Watch) → Splits IsBoard id v v (reader_of v.seen)
splits id v s h at =
    let mine = h.fits id v at in record {
      seat = h.seat;
      all = h.all;
      some_pair = h.some_pair;
      rising = h.rising;
      word = h.word;
      fits = all_snoc h.seat h.all (set s.views id v) (reader_of v.seen)
          (all_set h.seat h.all s.views id v mine (λ j u _ e. h.fits j u e))
          (λ j. reads_fit h.seat h.all v.seen [] j mine.1 (starts_none h.all));
    }

-- two seats become one
joined : (id : ℕ) (v : Watch) (other : ℕ) (w both : Watch)
    → ((seat : ℕ) (log : List Progress) → Fits seat log id v → Fits seat log other w → Fits seat log id both)
    → Joins IsBoard id v other w both (reader_of [])
joined id v other w both fits s h at apart there =
    let mine = h.fits id v at in
    let theirs = ⊎_elim
    (λ (t : (other ≡ id) × (both ≡ w)). absurd (apart t.0))
    (λ (t : (other ≢ id) × (get_elem? s.views other ≡ some w)). h.fits other w t.1)
    (at_set s.views id other both w there) in record {
      seat = h.seat;
      all = h.all;
      some_pair = h.some_pair;
      rising = h.rising;
      word = h.word;
      fits = all_set h.seat h.all (set s.views id both) other (reader_of [])
          (reads_fit h.seat h.all [] [] other (starts_none h.all) (starts_none h.all))
          (λ j u _ e. all_set h.seat h.all s.views id both (fits h.seat h.all mine theirs) (λ i y _ e'. h.fits i y e') j u e);
    }

pub informs : (id : ℕ) (v : Watch) (other : ℕ) (w : Watch) → Joins IsBoard id v other w (informed v w) (reader_of [])
informs id v other w = joined id v other w (informed v w) (λ seat log mine theirs. (mine.0, mine.1, theirs.1))

pub replaces : (id : ℕ) (v : Watch) (other : ℕ) (w : Watch) → Joins IsBoard id v other w (reader_of w.seen) (reader_of [])
replaces id v other w = joined id v other w (reader_of w.seen) (λ seat log mine theirs. reads_fit seat log w.seen [] id theirs.1 (starts_none log))
