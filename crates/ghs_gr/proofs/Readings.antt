-- Lines of a text that comes in chunks.
use Rattle.std.proofs.Common.{◌≡◌, ◌∙◌, ◌≤◌, ◌+◌, ◌-◌, ℕ, Bool, true, false, cond, List, [], ◌∷◌, ◌++◌, length, map, slice_index, append_assoc, refl, sym, ap, arith, subst, ⊎_elim}
use Rattle.std.proofs.Math.ListN.{get_or-append}
use Rattle.std.proofs.lemmas.Bool.{cases_lt}
use Rattle.std.specs.List.{onto_first}
use Rattle.std.specs.Prelude.{◌==◌}
use Rattle.std.proofs.lemmas.List.{append-nil, get_or-append-add, length-append, map-append}
use Rattle.ghs_lines.specs.Lines.{lines_of}
use Rattle.ghs_gr.specs.Line.{meaning, meanings}
use Rattle.ghs_gr.specs.Pass.{IsPass}
use Rattle.ghs_gr.specs.Reading.{EndsInFeed, EndsLine, HasNoFeed, HasTaken}
use Rattle.ghs_gr.specs.declared.line.Line.{Line}
use Rattle.ghs_gr.specs.declared.reading.Reading.{Reading}

-- these lines are some lines and then those of what comes behind
abbrev AreCut : (List ℕ → List (List ℕ)) → Type 0
AreCut lines = (first : List ℕ) × (others : List (List ℕ)) × ((more : List ℕ) → lines more ≡ first ∷ (others ++ lines_of more))

one_more : (b : ℕ) (is_feed : Bool) (lines : List ℕ → List (List ℕ)) → AreCut lines
    → AreCut (λ more. cond is_feed ([] ∷ lines more) (onto_first b (lines more)))
one_more b true lines c = ([], c.0 ∷ c.1, λ more. ap (λ ls. [] ∷ ls) (c.2 more))
one_more b false lines c = (b ∷ c.0, c.1, λ more. ap (onto_first b) (c.2 more))

behind_feed : (front : List ℕ) → AreCut (λ more. lines_of (front ++ 10 ∷ more))
behind_feed [] = ([], [], λ more. refl)
behind_feed (b ∷ front) = one_more b (b == 10) (λ more. lines_of (front ++ 10 ∷ more)) (behind_feed front)

-- behind a line feed a line begins
EndsLine-feed : (bytes : List ℕ) → EndsInFeed bytes → EndsLine bytes
EndsLine-feed bytes feed = λ more.
    let c = behind_feed feed.0 in
    let whole : lines_of (bytes ++ more) ≡ c.0 ∷ (c.1 ++ lines_of more) =
    ap (λ bs. lines_of (bs ++ more)) feed.1 ∙ ap lines_of (append_assoc feed.0 (10 ∷ []) more) ∙ c.2 more in
    let alone : lines_of bytes ≡ c.0 ∷ c.1 = ap lines_of feed.1 ∙ c.2 [] ∙ ap (λ ls. c.0 ∷ ls) (append-nil c.1) in
    whole ∙ sym (ap (λ ls. ls ++ lines_of more) alone)

EndsLine-append : (xs ys : List ℕ) → EndsLine xs → EndsLine ys → EndsLine (xs ++ ys)
EndsLine-append xs ys p q = λ more.
    ap lines_of (append_assoc xs ys more) ∙ p (ys ++ more) ∙ ap (λ ls. lines_of xs ++ ls) (q more)
    ∙ sym (append_assoc (lines_of xs) (lines_of ys) (lines_of more)) ∙ sym (ap (λ ls. ls ++ lines_of more) (p ys))

EndsInFeed-append : (xs ys : List ℕ) → EndsInFeed ys → EndsInFeed (xs ++ ys)
EndsInFeed-append xs ys feed = (xs ++ feed.0, ap (λ bs. xs ++ bs) feed.1 ∙ sym (append_assoc xs feed.0 (10 ∷ [])))

pub meanings-append : (xs ys : List ℕ) → EndsLine xs → meanings (xs ++ ys) ≡ meanings xs ++ meanings ys
meanings-append xs ys p = ap (map meaning) (p ys) ∙ map-append meaning (lines_of xs) (lines_of ys)

-- the line that was cut, and whole lines behind it, are gone over
pub took_lines : (text chunk lines rest held : List ℕ) (old new : Reading)
    → HasTaken old text → chunk ≡ lines ++ rest → EndsInFeed lines → HasNoFeed rest
    → held ≡ old.cut.items ++ lines → new.cut.items ≡ rest
    → ((ls : List Line) → IsPass ls old.pass → IsPass (ls ++ meanings held) new.pass)
    → new.pass.lines ≤ old.pass.lines + length held → HasTaken new (text ++ chunk)
took_lines text chunk lines rest held old new taken parts feed last is kept pass few = record {
  gone = taken.gone ++ held;
  all = ap (λ bs. text ++ bs) parts ∙ ap (λ bs. bs ++ (lines ++ rest)) taken.all ∙ append_assoc taken.gone old.cut.items (lines ++ rest)
      ∙ ap (λ bs. taken.gone ++ bs) (sym (append_assoc old.cut.items lines rest) ∙ ap (λ bs. bs ++ rest) (sym is))
      ∙ sym (append_assoc taken.gone held rest)
      ∙ ap (λ bs. (taken.gone ++ held) ++ bs) (sym kept);
  whole = EndsLine-append taken.gone held taken.whole (EndsLine-feed held (subst EndsInFeed (sym is) (EndsInFeed-append old.cut.items lines feed)));
  cut = subst HasNoFeed (sym kept) last;
  pass = subst (λ ls. IsPass ls new.pass) (sym (meanings-append taken.gone held taken.whole)) (pass (meanings taken.gone) taken.pass);
  few = omega (arith, few, taken.few, length-append taken.gone held);
}

HasNoFeed-append : (xs ys : List ℕ) → HasNoFeed xs → HasNoFeed ys → HasNoFeed (xs ++ ys)
HasNoFeed-append xs ys p q = λ k l e. ⊎_elim
    (λ below. p k below (sym (get_or-append xs ys 0 k below) ∙ e))
    (λ behind.
    let split : k ≡ length xs + (k - length xs) = omega arith in
    let len = length-append xs ys in
    q (k - length xs) (omega (arith, l, len, behind)) (sym (get_or-append-add xs ys (k - length xs) 0) ∙ sym (ap (slice_index (xs ++ ys)) split) ∙ e))
    (cases_lt k (length xs))

-- a line that is cut goes on
pub took_part : (text chunk : List ℕ) (old new : Reading)
    → HasTaken old text → HasNoFeed chunk → new.cut.items ≡ old.cut.items ++ chunk → new.pass ≡ old.pass → HasTaken new (text ++ chunk)
took_part text chunk old new taken none kept same = record {
  gone = taken.gone;
  all = ap (λ bs. bs ++ chunk) taken.all ∙ append_assoc taken.gone old.cut.items chunk ∙ ap (λ bs. taken.gone ++ bs) (sym kept);
  whole = taken.whole;
  cut = subst HasNoFeed (sym kept) (HasNoFeed-append old.cut.items chunk taken.cut none);
  pass = subst (λ p. IsPass (meanings taken.gone) p) (sym same) taken.pass;
  few = subst (λ p. p.lines ≤ length taken.gone) (sym same) taken.few;
}
