-- Texts of a set, and the entries of a book that are read one after the other.
use Rattle.std.proofs.Common.{◌≡◌, ◌∙◌, ◌++◌, ◌+◌, ◌<◌, ◌≤◌, ℕ, suc, Bool, true, false, List, [], ◌∷◌, length, map, take, refl, sym, ap, ap₂, cond, ⊎_elim, arith, append-nil, Some}
use Rattle.std.specs.List.{flat_map, list_any, position_or_len}
use Rattle.std.specs.Prelude.{position, slice_get, fold, not, ◌||◌, nat_lt, None}
use Rattle.std.specs.Str.{bytes_eq}
use Rattle.std.proofs.lemmas.Bool.{ltb-false}
use Rattle.std.proofs.lemmas.Grind.{flat_map-append}
use Rattle.std.proofs.lemmas.List.{length-map}
use Rattle.std.proofs.lemmas.List.Sums.{fold-append, prefix_len-le-length}
use Rattle.std.proofs.lemmas.Option.{slice_get_cases}
use Rattle.std.proofs.Math.Seq.{take-suc}
use Rattle.own_book.specs.Entry.{Entry}
use Rattle.own_rules.specs.Texts.{Text, noted, texts_in, texts_of}

module _ {K : Type 0} (text : K → Text) (t : Text) where
  place_len : (ks : List K) → position_or_len (λ k. bytes_eq t (text k)) ks ≡ position_or_len (bytes_eq t) (map text ks)
  place_len [] = refl
  place_len (k ∷ ks) = ap (λ n. cond (not (bytes_eq t (text k))) (1 + n) 0) (place_len ks)

  pub place_is : (ks : List K) → position (λ k. bytes_eq t (text k)) ks ≡ position (bytes_eq t) (map text ks)
  place_is ks = ap₂ (λ (n m : ℕ). cond (nat_lt n m) (Some n) None) (place_len ks) (sym (length-map ks text))

  pub any_is : (ks : List K) → list_any (λ k. bytes_eq t (text k)) ks ≡ list_any (bytes_eq t) (map text ks)
  any_is [] = refl
  any_is (k ∷ ks) = ap (λ b. bytes_eq t (text k) || b) (any_is ks)

-- where nothing passes, the place is the length
none_by : (n m : ℕ) (b : Bool) → nat_lt n m ≡ b → n ≤ m → cond b (Some n) None ≡ None → n ≡ m
none_by n m true e le h = cc
none_by n m false e le h = let ge = ltb-false n m e in omega (arith, ge, le)

pub none_len : {K : Type 0} (test : K → Bool) (ks : List K) → position test ks ≡ None → position_or_len test ks ≡ length ks
none_len test ks h =
    none_by (position_or_len test ks) (length ks) (nat_lt (position_or_len test ks) (length ks)) refl
    (prefix_len-le-length (λ k. not (test k)) ks) h

-- the texts of one entry more
pub texts_more : (es : List Entry) (i : ℕ) (x y : List Text) → i < length es → x ≡ texts_of (take i es) →
    ((e : Entry) → slice_get es i ≡ Some e → y ≡ fold noted x (texts_in e)) → y ≡ texts_of (take (i + 1) es)
texts_more es i x y l e h = ⊎_elim
    (λ in_it.
    let next : suc i ≡ i + 1 = omega arith in
    let f = in_it.0 in
    let grown : take (suc i) es ≡ take i es ++ f ∷ [] = take-suc es i f l ∙ ap (λ g. take i es ++ g ∷ []) in_it.3 in
    h f in_it.2 ∙ ap (λ xs. fold noted xs (texts_in f)) e
    ∙ sym (fold-append noted [] (flat_map texts_in (take i es)) (texts_in f))
    ∙ ap (λ ts. fold noted [] (flat_map texts_in (take i es) ++ ts)) (sym (append-nil (texts_in f)))
    ∙ ap (fold noted []) (sym (flat_map-append texts_in (take i es) (f ∷ []))) ∙ ap texts_of (sym grown)
    ∙ ap (λ n. texts_of (take n es)) next)
    (λ past. absurd (let p = past.0 in omega arith))
    (slice_get_cases es i).1
