-- Texts that are read one part after the other.
use Rattle.std.proofs.Common.{◌≡◌, ◌⊎◌, inl, inr, ◌∙◌, ◌==◌, ℕ, Bool, true, false, List, [], ◌∷◌, length, refl, sym, ap, Option, Some, None}
use Rattle.std.specs.List.{filter_map, list_all}
use Rattle.std.specs.Option.{is_some}
use Rattle.std.proofs.lemmas.Bool.{and_parts}
use Rattle.own_book.specs.Parts.{fields_at, parts_at}

module _ {A : Type 0} (of : List ℕ → Option A) (byte : ℕ) (empty : of [] ≡ None) where
  abbrev are_read : List (List ℕ) → Bool
  are_read fields = list_all (λ f. is_some (of f)) fields

  abbrev IsNext : List ℕ → List ℕ → A → Type 0
  IsNext text rest x = (filter_map of (fields_at byte text) ≡ x ∷ filter_map of (fields_at byte rest)) × (are_read (fields_at byte rest) ≡ true)

  fields_are_parts : (text : List ℕ) → are_read (parts_at byte text) ≡ true → fields_at byte text ≡ parts_at byte text
  fields_are_parts [] all =
      let none : is_some (of []) ≡ false = ap is_some empty in
      let some : is_some (of []) ≡ true = (and_parts (is_some (of [])) true all).0 in
      let no : false ≡ true = sym none ∙ some in
      cc
  fields_are_parts (b ∷ bs) all = refl

  read_first : (f : List ℕ) (x : A) (ps : List (List ℕ)) → of f ≡ Some x → filter_map of (f ∷ ps) ≡ x ∷ filter_map of ps
  read_first f x ps e = rw e refl

  by_parts : (text f rest : List ℕ) (x : A) → fields_at byte text ≡ parts_at byte text → are_read (fields_at byte text) ≡ true → of f ≡ Some x →
      (parts_at byte text ≡ f ∷ parts_at byte rest) ⊎ ((parts_at byte text ≡ f ∷ []) × (rest ≡ [])) → IsNext text rest x
  by_parts text f rest x whole all e (inl more) =
      let both = and_parts (is_some (of f)) (are_read (parts_at byte rest)) (ap are_read (sym (whole ∙ more)) ∙ all) in
      let same = fields_are_parts rest both.1 in (
        ap (filter_map of) (whole ∙ more) ∙ read_first f x (parts_at byte rest) e ∙ ap (λ ps. x ∷ filter_map of ps) (sym same),
        ap are_read same ∙ both.1,
      )
  by_parts text f rest x whole all e (inr last) =
      let none : fields_at byte rest ≡ [] = ap (fields_at byte) last.1 in
      (ap (filter_map of) (whole ∙ last.0) ∙ read_first f x [] e ∙ ap (λ ps. x ∷ filter_map of ps) (sym none), ap are_read none)

  pub next : (text f rest : List ℕ) (x : A) → (length text == 0) ≡ false → are_read (fields_at byte text) ≡ true → of f ≡ Some x →
      (parts_at byte text ≡ f ∷ parts_at byte rest) ⊎ ((parts_at byte text ≡ f ∷ []) × (rest ≡ [])) → IsNext text rest x
  next [] f rest x some all e parts = cc
  next (b ∷ bs) f rest x some all e parts = by_parts (b ∷ bs) f rest x refl all e parts
