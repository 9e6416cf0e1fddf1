-- How the lines of a book are read one after the other.
use Rattle.std.proofs.Common.{◌≡◌, ◌+◌, ◌-◌, ◌<◌, ◌≤◌, ◌∙◌, ℕ, suc, Bool, true, false, not, List, [], ◌∷◌, ◌++◌, length, refl, sym, ap, arith, cond, Option, Some, None, Result, Ok, Err, get_or, take_all}
use Rattle.std.specs.Option.{is_some, option_map}
use Rattle.std.specs.List.{list_all}
use Rattle.std.specs.Prelude.{nat_le}
use Rattle.std.specs.Str.{bytes_eq}
use Rattle.std.proofs.Math.Seq.{get_or-append_seam}
use Rattle.std.proofs.lemmas.Bool.{cond-true, cond-false, leb-true, le-leb}
use Rattle.std.proofs.lemmas.List.{append-nil, length-append, take-append-le}
use Rattle.std.proofs.lemmas.List.Elements.{filter-append}
use Rattle.ghs_lines.specs.Judging.{AreSound, IsFirstFault, fault_at}
use Rattle.ghs_lines.proofs.lemmas.Judging.{fault_at-append, sound_more}
use Rattle.own_book.specs.Book.{HaveFault, entries_from, entries_in, judge, line_fault, of_line, wavers}
use Rattle.own_book.specs.Entry.{Entry, entry, entry_for, others, told_in}
use Rattle.own_book.specs.Answer.{saying}
use Rattle.own_book.specs.Line.{Line, bad, cut_at_sign, line_parts, meaning, paired, passed, says}
use Rattle.own_book.specs.Question.{asked}
use Rattle.own_book.specs.Words.{is_printable}
use Rattle.own_book.specs.declared.question.Asked.{Asked}
use Rattle.own_book.specs.Reads.{HasRead}
use Rattle.own_book.specs.declared.book.Reading.{Reading}
use Rattle.own_book.specs.declared.fault.BookFault.{BookFault}
use Rattle.own_book.specs.declared.fault.LineFault.{LineFault}
use Rattle.own_book.specs.declared.fault.LineFault.TheVariants.{BadLine, TooLong, TooMany, Wavers}
use Rattle.own_book.proofs.Entries.{entry_for-others}

-- a line's fault is the first one, where the lines before it are sound
module _ (ls more : List Line) (l : Line) (sound : AreSound judge ls) where
  here : fault_at judge (ls ++ l ∷ more) (length ls) ≡ line_fault ls l
  here =
      ap (λ xs. line_fault xs (get_or (ls ++ l ∷ more) (length ls) passed))
      (take-append-le (length ls) ls (l ∷ more) (omega arith) ∙ take_all (length ls) ls (omega arith))
      ∙ ap (line_fault ls) (get_or-append_seam ls l more passed)

  first_here : (f : LineFault) (n : ℕ) → line_fault ls l ≡ Some f → n ≡ length ls + 1 → IsFirstFault judge (ls ++ l ∷ more) n f
  first_here f n e at =
      let place : n - 1 ≡ length ls = omega arith in
      record {
        counted = omega arith;
        here = ap (fault_at judge (ls ++ l ∷ more)) place ∙ here ∙ e;
        before = λ k b. (let below : k < length ls = omega arith in fault_at-append judge ls (l ∷ more) k below ∙ sound k below);
      }

  pub faulty : (f : LineFault) (n : ℕ) (fault : BookFault) → line_fault ls l ≡ Some f → n ≡ length ls + 1 → fault ≡ of_line f n →
      HaveFault (ls ++ l ∷ more) fault
  faulty f n fault e at same = record { number = n; of = f; first = first_here f n e at; same = same }

-- the entries of lines, and of one more behind them

-- one entry more, where there is none yet
abbrev unless : Option Entry → Entry → List Entry
unless None e = e ∷ []
unless (Some x) e = []

module _ (q a : List ℕ) where
  others-unless : (p : List ℕ) (m : ℕ) (o : Option Entry) → bytes_eq q p ≡ false → others p (unless o (entry q m a)) ≡ unless o (entry q m a)
  others-unless p m None e = rw e refl
  others-unless p m (Some x) e = refl

  none-unless : (p : List ℕ) (m : ℕ) (o : Option Entry) → bytes_eq q p ≡ true → others p (unless o (entry q m a)) ≡ []
  none-unless p m None e = rw e refl
  none-unless p m (Some x) e = refl

  behind_by : (n m : ℕ) (p b : List ℕ) (es : List Entry) (d : Bool) → bytes_eq q p ≡ d →
      entry p n b ∷ others p (es ++ unless (entry_for es q) (entry q m a)) ≡
      entry p n b ∷ others p es ++ unless (entry_for (entry p n b ∷ others p es) q) (entry q m a)
  behind_by n m p b es true e =
      ap (λ xs. entry p n b ∷ xs) (filter-append (λ x. not (bytes_eq x.question p)) es (unless (entry_for es q) (entry q m a))
      ∙ ap (λ xs. others p es ++ xs) (none-unless p m (entry_for es q) e))
      ∙ ap (λ o. entry p n b ∷ others p es ++ unless o (entry q m a))
      (sym (cond-true (bytes_eq q p) (Some (entry p n b)) (entry_for (others p es) q) e))
  behind_by n m p b es false e =
      ap (λ xs. entry p n b ∷ xs) (filter-append (λ x. not (bytes_eq x.question p)) es (unless (entry_for es q) (entry q m a))
      ∙ ap (λ xs. others p es ++ xs) (others-unless p m (entry_for es q) e))
      ∙ ap (λ o. entry p n b ∷ others p es ++ unless o (entry q m a))
      (sym (cond-false (bytes_eq q p) (Some (entry p n b)) (entry_for (others p es) q) e ∙ entry_for-others p q e es))

  step : (n : ℕ) (l : Line) (ls : List Line) →
      entries_from (n + 1) (ls ++ says q a ∷ []) ≡
      entries_from (n + 1) ls ++ unless (entry_for (entries_from (n + 1) ls) q) (entry q (n + suc (length ls)) a) →
      entries_from n (l ∷ ls ++ says q a ∷ []) ≡
      entries_from n (l ∷ ls) ++ unless (entry_for (entries_from n (l ∷ ls)) q) (entry q (n + suc (length ls)) a)
  step n passed ls inner = inner
  step n (bad f) ls inner = inner
  step n (says p b) ls inner =
      ap (λ es. entry p n b ∷ others p es) inner ∙ behind_by n (n + suc (length ls)) p b (entries_from (n + 1) ls) (bytes_eq q p) refl

  entries_from-more : (n : ℕ) (ls : List Line) →
      entries_from n (ls ++ says q a ∷ []) ≡ entries_from n ls ++ unless (entry_for (entries_from n ls) q) (entry q (n + length ls) a)
  entries_from-more n [] = let same : n ≡ n + 0 = omega arith in ap (λ m. entry q m a ∷ []) same
  entries_from-more n (l ∷ ls) =
      let place : (n + 1) + length ls ≡ n + suc (length ls) = omega arith in
      step n l ls (entries_from-more (n + 1) ls
      ∙ ap (λ m. entries_from (n + 1) ls ++ unless (entry_for (entries_from (n + 1) ls) q) (entry q m a)) place)

-- one more line that says an answer

module _ (ls : List Line) (q a : List ℕ) where
  few_by : (b : Bool) → nat_le 1048576 (length ls) ≡ b → length ls < 1048576 → line_fault ls (says q a) ≡ wavers a (entry_for (entries_in ls) q)
  few_by true e few = let many : 1048576 ≤ length ls = leb-true 1048576 (length ls) e in absurd (omega arith)
  few_by false e few = cond-false (nat_le 1048576 (length ls)) _ _ e

  pub few : length ls < 1048576 → line_fault ls (says q a) ≡ wavers a (entry_for (entries_in ls) q)
  few small = few_by (nat_le 1048576 (length ls)) refl small

  -- what a line has been told
  known : (n : ℕ) (b : List ℕ) (o : Option Entry) → option_map {U = ℕ × List ℕ} (λ e. (e.number, e.answer)) o ≡ Some (n, b) →
      (e : Entry) × (o ≡ Some e) × (e.number ≡ n) × (e.answer ≡ b)
  known n b None e = cc
  known n b (Some x) e =
      let pair : (let p : ℕ × List ℕ = (x.number, x.answer) in p) ≡ (n, b) = cc in
      (x, refl, ap (λ p. p.0) pair, ap (λ p. p.1) pair)

  module _ (old : Reading) (read : HasRead ls old) where
    found : (n : ℕ) (b : List ℕ) → told_in old.book q ≡ Some (n, b) →
        (e : Entry) × (entry_for (entries_in ls) q ≡ Some e) × (e.number ≡ n) × (e.answer ≡ b)
    found n b told =
        let k = known n b (entry_for old.book q) told in
        (k.0, ap (λ es. entry_for es q) (sym read.book.all) ∙ k.1, k.2, k.3)

    short : old.lines < 1048576 → length ls < 1048576
    short l = omega (arith, read.counted)

    pub reads_again : old.lines < 1048576 → (n : ℕ) (b : List ℕ) → told_in old.book q ≡ Some (n, b) → bytes_eq b a ≡ true →
        HasRead (ls ++ says q a ∷ []) (record { book = old.book; lines = old.lines + 1 })
    reads_again l n b told same =
        let f = found n b told in
        let steady : bytes_eq f.0.answer a ≡ true = ap (λ x. bytes_eq x a) f.3 ∙ same in
        let fine : line_fault ls (says q a) ≡ None = few (short l) ∙ ap (wavers a) f.1 ∙ cond-true _ _ _ steady in
        let nothing : entries_in (ls ++ says q a ∷ []) ≡ entries_in ls =
        entries_from-more q a 1 ls ∙ ap (λ o. entries_in ls ++ unless o (entry q (1 + length ls) a)) f.1 ∙ append-nil (entries_in ls) in
        record {
          book = record { sound = sound_more judge ls (says q a) read.book.sound fine; all = read.book.all ∙ sym nothing };
          counted = omega (arith, read.counted, length-append ls (says q a ∷ []));
        }

    pub waver_fault : old.lines < 1048576 → (n : ℕ) (b : List ℕ) → told_in old.book q ≡ Some (n, b) → bytes_eq b a ≡ false →
        line_fault ls (says q a) ≡ Some (Wavers n)
    waver_fault l n b told apart =
        let f = found n b told in
        let differs : bytes_eq f.0.answer a ≡ false = ap (λ x. bytes_eq x a) f.3 ∙ apart in
        few (short l) ∙ ap (wavers a) f.1 ∙ cond-false _ _ _ differs ∙ ap (λ m. Some (Wavers m)) f.2

    pub reads_new : old.lines < 1048576 → entry_for old.book q ≡ None → (new : List Entry) → new ≡ old.book ++ entry q (old.lines + 1) a ∷ [] →
        HasRead (ls ++ says q a ∷ []) (record { book = new; lines = old.lines + 1 })
    reads_new l none new e =
        let first : entry_for (entries_in ls) q ≡ None = ap (λ es. entry_for es q) (sym read.book.all) ∙ none in
        let fine : line_fault ls (says q a) ≡ None = few (short l) ∙ ap (wavers a) first in
        let at : old.lines + 1 ≡ 1 + length ls = omega (arith, read.counted) in
        let more : entries_in (ls ++ says q a ∷ []) ≡ entries_in ls ++ entry q (1 + length ls) a ∷ [] =
        entries_from-more q a 1 ls ∙ ap (λ o. entries_in ls ++ unless o (entry q (1 + length ls) a)) first in
        record {
          book = record {
            sound = sound_more judge ls (says q a) read.book.sound fine;
            all = e ∙ ap (λ es. es ++ entry q (old.lines + 1) a ∷ []) read.book.all ∙ ap (λ n. entries_in ls ++ entry q n a ∷ []) at ∙ sym more;
          };
          counted = omega (arith, read.counted, length-append ls (says q a ∷ []));
        }

-- a line past the limit

pair_says : (q a : List ℕ) (b : Bool) → cond b (says q a) (bad BadLine) ≡ passed → ⊥
pair_says q a true e = cc
pair_says q a false e = cc

paired_says : (q a : List ℕ) (r : Result Asked LineFault) → paired q a r ≡ passed → ⊥
paired_says q a (Err f) e = cc
paired_says q a (Ok asked) e = pair_says q a (is_some (saying asked a)) e

parts_say : (o : Option (List ℕ × List ℕ)) → line_parts o ≡ passed → ⊥
parts_say None e = cc
parts_say (Some (q, a)) e = paired_says q a (asked q) e

line_says : (o : Option (List ℕ × List ℕ)) (b c : Bool) → cond b (cond c (line_parts o) (bad BadLine)) (bad TooLong) ≡ passed → ⊥
line_says o true true e = parts_say o e
line_says o true false e = cc
line_says o false c e = cc

past : (ls : List Line) (l : Line) → (l ≡ passed → ⊥) → 1048576 ≤ length ls → line_fault ls l ≡ Some TooMany
past ls passed some many = absurd (some refl)
past ls (bad f) some many = cond-true _ _ _ (le-leb 1048576 (length ls) many)
past ls (says q a) some many = cond-true _ _ _ (le-leb 1048576 (length ls) many)

pub too_many : (ls : List Line) (line : List ℕ) → 1048576 ≤ length ls → line_fault ls (meaning line) ≡ Some TooMany
too_many ls line many = past ls (meaning line) (line_says (cut_at_sign line) (nat_le (length line) 1048576) (list_all is_printable line)) many
