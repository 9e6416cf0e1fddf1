-- The text of a book's entries, read again.
use Rattle.std.proofs.Common.{◌≡◌, ◌≤◌, ◌<◌, ◌+◌, ◌∙◌, ℕ, suc, Bool, true, false, not, List, [], ◌∷◌, ◌++◌, append_assoc, length, map, take, get_or, refl, sym, ap, ap₂, subst, arith, Option, Some, None, ⊎_elim}
use Rattle.std.specs.List.{AllByRecursion, list_all}
use Rattle.std.specs.Option.{option_map}
use Rattle.std.specs.Prelude.{nat_le, slice_get}
use Rattle.std.specs.Str.{bytes_eq}
use Rattle.std.proofs.Math.Seq.{take-suc}
use Rattle.std.proofs.lemmas.Bool.{and_from, and_parts, cases_lt, leb-true, ne_eqb, not_from_false}
use Rattle.std.proofs.lemmas.List.{append-nil, get_or-map, length-append, length-map, length-take-le}
use Rattle.std.proofs.lemmas.List.Concat.{flat_map-append}
use Rattle.std.proofs.lemmas.Option.{slice_get_cases}
use Rattle.ghs_lines.specs.Judging.{AreSound}
use Rattle.ghs_lines.specs.Lines.{lines_of}
use Rattle.ghs_lines.proofs.lemmas.Judging.{sound_more}
use Rattle.ghs_lines.proofs.lemmas.Words.{has_no_feed, lines_of-line}
use Rattle.own_book.specs.Book.{HasEntries, IsBook, entries_from, entries_in, judge, line_fault, wavers}
use Rattle.own_book.specs.Entry.{Entry, answer_in, entry, entry_for, others}
use Rattle.own_book.specs.Laws.{IsReadBack, ReadsBack}
use Rattle.own_book.specs.Line.{Line, bad, meaning, meanings, passed, says}
use Rattle.own_book.specs.Text.{book_text, entry_text, line_text}
use Rattle.own_book.specs.Words.{is_printable}
use Rattle.own_book.specs.declared.fault.LineFault.TheVariants.{TooMany}
use Rattle.own_book.proofs.Entries.{entry_for-others, others-other, others-same, other, own}
use Rattle.own_book.proofs.Joined.{printable, says_again}
use Rattle.own_book.proofs.Judged.{never_both}
use Rattle.own_book.proofs.Readings.{few, too_many}

-- the text of one entry more

pub one_more : (es : List Entry) (i : ℕ) (x y : List ℕ) → i < length es → x ≡ book_text (take i es) →
    ((e : Entry) → slice_get es i ≡ Some e → y ≡ x ++ entry_text e) → y ≡ book_text (take (i + 1) es)
one_more es i x y l e h = ⊎_elim
    (λ in_it.
    let next : suc i ≡ i + 1 = omega arith in
    let f = in_it.0 in
    let grown : take (suc i) es ≡ take i es ++ f ∷ [] = take-suc es i f l ∙ ap (λ g. take i es ++ g ∷ []) in_it.3 in
    h f in_it.2 ∙ ap (λ xs. xs ++ entry_text f) e ∙ ap (λ ys. book_text (take i es) ++ ys) (sym (append-nil (entry_text f)))
    ∙ sym (flat_map-append entry_text (take i es) (f ∷ [])) ∙ ap book_text (sym grown) ∙ ap (λ n. book_text (take n es)) next)
    (λ past. absurd (let p = past.0 in omega arith))
    (slice_get_cases es i).1

-- what holds of the entries of lines

-- the text of an entry says it
abbrev IsGood : Entry → Type 0
IsGood e = meaning (line_text e.question e.answer) ≡ says e.question e.answer

module _ (P : Entry → Type 0) (p : List ℕ) where
  kept_by : (e : Entry) (es : List Entry) (b : Bool) → not (bytes_eq e.question p) ≡ b → P e → AllByRecursion P (others p es) →
      AllByRecursion P (others p (e ∷ es))
  kept_by e es true t here more = rw t (here, more)
  kept_by e es false t here more = rw t more

  kept : (es : List Entry) → AllByRecursion P es → AllByRecursion P (others p es)
  kept [] all = tt
  kept (e ∷ es) all = kept_by e es (not (bytes_eq e.question p)) refl all.0 (kept es all.1)

good_by : (n : ℕ) (line : List ℕ) (l : Line) (ls : List Line) → meaning line ≡ l → AllByRecursion IsGood (entries_from (n + 1) ls) →
    AllByRecursion IsGood (entries_from n (l ∷ ls))
good_by n line passed ls e more = more
good_by n line (bad f) ls e more = more
good_by n line (says q a) ls e more = (says_again line q a e, kept IsGood q (entries_from (n + 1) ls) more)

good : (n : ℕ) (lines : List (List ℕ)) → AllByRecursion IsGood (entries_from n (map meaning lines))
good n [] = tt
good n (line ∷ lines) = good_by n line (meaning line) (map meaning lines) refl (good (n + 1) lines)

-- no two entries are for one question
abbrev AreDistinct : List Entry → Type 0
AreDistinct [] = Unit {0}
AreDistinct (e ∷ es) = AllByRecursion (λ x. bytes_eq x.question e.question ≡ false) es × AreDistinct es

module _ (p : List ℕ) where
  apart_by : (e : Entry) (es : List Entry) (b : Bool) → bytes_eq e.question p ≡ b →
      AllByRecursion (λ x. bytes_eq x.question p ≡ false) (others p es) →
      AllByRecursion (λ x. bytes_eq x.question p ≡ false) (others p (e ∷ es))
  apart_by e es true t more = rw t more
  apart_by e es false t more = let both : AllByRecursion (λ x. bytes_eq x.question p ≡ false) (e ∷ others p es) = (t, more) in
      subst (AllByRecursion (λ x. bytes_eq x.question p ≡ false)) (sym (others-other p e es t)) both

  apart : (es : List Entry) → AllByRecursion (λ x. bytes_eq x.question p ≡ false) (others p es)
  apart [] = tt
  apart (e ∷ es) = apart_by e es (bytes_eq e.question p) refl (apart es)

  distinct_by : (e : Entry) (es : List Entry) (b : Bool) → bytes_eq e.question p ≡ b →
      AllByRecursion (λ x. bytes_eq x.question e.question ≡ false) es →
      AreDistinct (others p es) → AreDistinct (others p (e ∷ es))
  distinct_by e es true t here more = subst AreDistinct (sym (others-same p e es t)) more
  distinct_by e es false t here more =
      subst AreDistinct (sym (others-other p e es t)) (kept (λ x. bytes_eq x.question e.question ≡ false) p es here, more)

  distinct_others : (es : List Entry) → AreDistinct es → AreDistinct (others p es)
  distinct_others [] h = tt
  distinct_others (e ∷ es) h = distinct_by e es (bytes_eq e.question p) refl h.0 (distinct_others es h.1)

distinct_step : (n : ℕ) (l : Line) (ls : List Line) → AreDistinct (entries_from (n + 1) ls) → AreDistinct (entries_from n (l ∷ ls))
distinct_step n passed ls h = h
distinct_step n (bad f) ls h = h
distinct_step n (says q a) ls h = (apart q (entries_from (n + 1) ls), distinct_others q (entries_from (n + 1) ls) h)

distinct : (n : ℕ) (ls : List Line) → AreDistinct (entries_from n ls)
distinct n [] = tt
distinct n (l ∷ ls) = distinct_step n l ls (distinct (n + 1) ls)

-- there are at most as many as lines

fewer_by : (p : List ℕ) (e : Entry) (es : List Entry) (b : Bool) → bytes_eq e.question p ≡ b → length (others p es) ≤ length es →
    length (others p (e ∷ es)) ≤ suc (length es)
fewer_by p e es true t h = let same : length (others p (e ∷ es)) ≡ length (others p es) = ap length (others-same p e es t) in omega arith
fewer_by p e es false t h = let more : length (others p (e ∷ es)) ≡ suc (length (others p es)) = ap length (others-other p e es t) in omega arith

fewer : (p : List ℕ) (es : List Entry) → length (others p es) ≤ length es
fewer p [] = omega arith
fewer p (e ∷ es) = fewer_by p e es (bytes_eq e.question p) refl (fewer p es)

at_most_step : (n : ℕ) (l : Line) (ls : List Line) → length (entries_from (n + 1) ls) ≤ length ls → length (entries_from n (l ∷ ls)) ≤ suc (length ls)
at_most_step n passed ls h = omega arith
at_most_step n (bad f) ls h = omega arith
at_most_step n (says q a) ls h = let f = fewer q (entries_from (n + 1) ls) in omega arith

at_most : (n : ℕ) (ls : List Line) → length (entries_from n ls) ≤ length ls
at_most n [] = omega arith
at_most n (l ∷ ls) = at_most_step n l ls (at_most (n + 1) ls)

-- the lines of entries, which say them

abbrev line_of : Entry → Line
line_of e = says e.question e.answer

answer_by : (n : ℕ) (q : List ℕ) (e : Entry) (es : List Entry) (b : Bool) → bytes_eq q e.question ≡ b →
    answer_in (entries_from (n + 1) (map line_of es)) q ≡ answer_in es q → answer_in (entries_from n (map line_of (e ∷ es))) q ≡ answer_in (e ∷ es) q
answer_by n q e es true t inner =
    let rest = others e.question (entries_from (n + 1) (map line_of es)) in
    ap (option_map {U = List ℕ} (λ x. x.answer)) (own (entry e.question n e.answer) rest q t)
    ∙ sym (ap (option_map {U = List ℕ} (λ x. x.answer)) (own e es q t))
answer_by n q e es false t inner =
    let all = entries_from (n + 1) (map line_of es) in
    ap (option_map {U = List ℕ} (λ x. x.answer))
    (other (entry e.question n e.answer) (others e.question all) q t ∙ entry_for-others e.question q t all)
    ∙ inner ∙ sym (ap (option_map {U = List ℕ} (λ x. x.answer)) (other e es q t))

same_answers : (n : ℕ) (q : List ℕ) (es : List Entry) → answer_in (entries_from n (map line_of es)) q ≡ answer_in es q
same_answers n q [] = refl
same_answers n q (e ∷ es) = answer_by n q e es (bytes_eq q e.question) refl (same_answers (n + 1) q es)

none_by : (x y : Option Entry) → option_map {U = List ℕ} (λ e. e.answer) x ≡ option_map {U = List ℕ} (λ e. e.answer) y → y ≡ None → x ≡ None
none_by None y e f = refl
none_by (Some x) None e f = cc
none_by (Some x) (Some y) e f = cc

-- each is for a question that none before it is for

missing_behind : (q : List ℕ) (before : List Entry) (e : Entry) → bytes_eq q e.question ≡ false → entry_for before q ≡ None →
    entry_for (before ++ e ∷ []) q ≡ None
missing_behind q [] e t none = other e [] q t
missing_behind q (x ∷ before) e t none = by (bytes_eq q x.question) refl (missing_behind q before e t)
  where
    by : (b : Bool) → bytes_eq q x.question ≡ b → (entry_for before q ≡ None → entry_for (before ++ e ∷ []) q ≡ None) →
        entry_for (x ∷ before ++ e ∷ []) q ≡ None
    by true s inner = let no : Some x ≡ None = sym (own x before q s) ∙ none in cc
    by false s inner = other x (before ++ e ∷ []) q s ∙ inner (sym (other x before q s) ∙ none)

still_missing : (before after : List Entry) (e : Entry) → AllByRecursion (λ x. bytes_eq x.question e.question ≡ false) after →
    AllByRecursion (λ x. entry_for before x.question ≡ None) after → AllByRecursion (λ x. entry_for (before ++ e ∷ []) x.question ≡ None) after
still_missing before [] e far none = tt
still_missing before (x ∷ after) e far none = (missing_behind x.question before e far.0 none.0, still_missing before after e far.1 none.1)

map-behind : (before : List Entry) (e : Entry) → map line_of (before ++ e ∷ []) ≡ map line_of before ++ line_of e ∷ []
map-behind [] e = refl
map-behind (x ∷ before) e = ap (λ ls. line_of x ∷ ls) (map-behind before e)

sound_from : (before after : List Entry) → AreSound judge (map line_of before) → AllByRecursion (λ x. entry_for before x.question ≡ None) after →
    AreDistinct after → length before + length after ≤ 1048576 → AreSound judge (map line_of (before ++ after))
sound_from before [] sound none distinct_after small = subst (λ es. AreSound judge (map line_of es)) (sym (append-nil before)) sound
sound_from before (e ∷ after) sound none distinct_after small =
    let lines = map line_of before in
    let count : length lines < 1048576 = omega (arith, length-map before line_of) in
    let missing : entry_for (entries_in lines) e.question ≡ None =
    none_by (entry_for (entries_in lines) e.question) (entry_for before e.question) (same_answers 1 e.question before) none.0 in
    let fine : line_fault lines (line_of e) ≡ None = few lines e.question e.answer count ∙ ap (wavers e.answer) missing in
    let more : AreSound judge (map line_of (before ++ e ∷ [])) =
    subst (AreSound judge) (sym (map-behind before e)) (sound_more judge lines (line_of e) sound fine) in
    let whole : (before ++ e ∷ []) ++ after ≡ before ++ e ∷ after = append_assoc before (e ∷ []) after in
    subst (λ es. AreSound judge (map line_of es)) whole
    (sound_from (before ++ e ∷ []) after more (still_missing before after e distinct_after.0 none.1) distinct_after.1
    (omega (arith, length-append before (e ∷ []))))

nothing_before : (es : List Entry) → AllByRecursion (λ x. entry_for [] x.question ≡ None) es
nothing_before [] = tt
nothing_before (e ∷ es) = (refl, nothing_before es)

-- the lines of the text

printable_plain : (bs : List ℕ) → list_all is_printable bs ≡ true → has_no_feed bs ≡ true
printable_plain [] h = refl
printable_plain (b ∷ bs) h =
    let parts = and_parts (is_printable b) (list_all is_printable bs) h in
    let low = (and_parts (nat_le 32 b) (nat_le b 126) parts.0).0 in
    let least : 32 ≤ b = leb-true 32 b low in
    and_from _ _ (not_from_false _ (ne_eqb b 10 (λ z. absurd (omega arith)))) (printable_plain bs parts.1)

says_all : (es : List Entry) → AllByRecursion IsGood es → meanings (book_text es) ≡ map line_of es
says_all [] good = refl
says_all (e ∷ es) good =
    let line = line_text e.question e.answer in
    ap meanings (append_assoc line (10 ∷ []) (book_text es))
    ∙ ap (map meaning) (lines_of-line line (book_text es) (printable_plain line (printable line e.question e.answer good.0)))
    ∙ ap₂ (λ (l : Line) (ls : List Line). l ∷ ls) good.0 (says_all es good.1)

-- a sound text has no more lines than a book may have

within : (lines : List (List ℕ)) → AreSound judge (map meaning lines) → length lines ≤ 1048576
within lines sound = ⊎_elim
    (λ small. omega arith)
    (λ large.
    let ls = map meaning lines in
    let inside : 1048576 < length ls = omega (arith, length-map lines meaning) in
    let here : get_or ls 1048576 passed ≡ meaning (get_or lines 1048576 []) = get_or-map meaning lines 1048576 [] passed (omega arith) in
    let count : 1048576 ≤ length (take 1048576 ls) = omega (arith, length-take-le 1048576 ls (omega arith)) in
    let many : line_fault (take 1048576 ls) (meaning (get_or lines 1048576 [])) ≡ Some TooMany =
    too_many (take 1048576 ls) (get_or lines 1048576 []) count in
    let no : None ≡ Some TooMany = sym (sound 1048576 inside) ∙ ap (line_fault (take 1048576 ls)) here ∙ many in
    cc)
    (cases_lt (length lines) 1048577)

pub reads_back : (text : List ℕ) → ReadsBack text
reads_back text entries book =
    let ls = meanings text in
    let small : length ls ≤ 1048576 = omega (arith, within (lines_of text) book.sound, length-map (lines_of text) meaning) in
    let fewer : length (entries_in ls) ≤ 1048576 = omega (arith, at_most 1 ls) in
    let all = entries_in ls in
    let sound : AreSound judge (map line_of all) =
    sound_from [] all (λ k l. absurd (omega arith)) (nothing_before all) (distinct 1 ls) (omega arith) in
    let lines : meanings (book_text all) ≡ map line_of all = says_all all (good 1 (lines_of text)) in
    let again : IsBook (map line_of all) (entries_in (map line_of all)) = record { sound = sound; all = refl } in
    let has : HasEntries (book_text all) (entries_in (map line_of all)) = subst (λ xs. IsBook xs (entries_in (map line_of all))) (sym lines) again in
    let back : IsReadBack all = record {
      again = entries_in (map line_of all);
      has = has;
      same = λ q. same_answers 1 q all;
      sound = λ fault h. never_both (meanings (book_text all)) (entries_in (map line_of all)) fault has h;
    } in
    subst IsReadBack (sym book.all) back
