-- A hasher that holds the text of one entry more.
use Rattle.std.proofs.Common.{◌≡◌, ◌<◌, ◌+◌, ◌∙◌, ℕ, suc, List, [], ◌∷◌, ◌++◌, length, take, sym, ap, subst, arith, Some, ⊎_elim}
use Rattle.std.specs.Prelude.{slice_get}
use Rattle.std.proofs.Math.Seq.{take-suc}
use Rattle.std.proofs.lemmas.List.{append-nil}
use Rattle.std.proofs.lemmas.List.Concat.{flat_map-append}
use Rattle.std.proofs.lemmas.Option.{slice_get_cases}
use Rattle.own_book.specs.Entry.{Entry}
use Rattle.own_book.specs.Text.{book_text, entry_text}
use Rattle.sha2.specs.Hashers.{Holds256}
use Rattle.sha2.specs.declared.Sha256.{Sha256}

text_more : (es : List Entry) (i : ℕ) (f : Entry) → take (suc i) es ≡ take i es ++ f ∷ [] →
    book_text (take i es) ++ entry_text f ≡ book_text (take (suc i) es)
text_more es i f grown =
    ap (λ ys. book_text (take i es) ++ ys) (sym (append-nil (entry_text f)))
    ∙ sym (flat_map-append entry_text (take i es) (f ∷ [])) ∙ ap book_text (sym grown)

pub hashed_more : (es : List Entry) (i : ℕ) (old new : Sha256) → i < length es → Holds256 old (book_text (take i es)) →
    ((m : List ℕ) (e : Entry) → slice_get es i ≡ Some e → Holds256 old m → Holds256 new (m ++ entry_text e)) →
    Holds256 new (book_text (take (i + 1) es))
hashed_more es i old new l h step = ⊎_elim
    (λ in_it.
    let next : suc i ≡ i + 1 = omega arith in
    let f = in_it.0 in
    let grown : take (suc i) es ≡ take i es ++ f ∷ [] = take-suc es i f l ∙ ap (λ g. take i es ++ g ∷ []) in_it.3 in
    subst (λ text. Holds256 new text) (text_more es i f grown ∙ ap (λ n. book_text (take n es)) next)
    (step (book_text (take i es)) f in_it.2 h))
    (λ past. absurd (let p = past.0 in omega arith))
    (slice_get_cases es i).1
