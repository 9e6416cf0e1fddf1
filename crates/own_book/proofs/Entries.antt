-- Entries, and the pairs of a map that they are made of.
use Rattle.std.proofs.Common.{◌≡◌, ◌∙◌, ◌++◌, ℕ, Bool, true, false, List, [], ◌∷◌, map, refl, sym, ap, ap₂, Some, None}
use Rattle.std.specs.Map.{lookup}
use Rattle.std.specs.Option.{option_map}
use Rattle.std.specs.Prelude.{slice_get}
use Rattle.std.specs.Str.{bytes_eq}
use Rattle.std.proofs.lemmas.Bool.{cond-true, cond-false}
use Rattle.std.proofs.lemmas.Option.{slice_get-map}
use Rattle.std.proofs.lemmas.Slice.Eq.{bytes_eq-Decides}
use Rattle.indexmap.specs.IndexMap.{insert_entry}
use Rattle.own_book.specs.Entry.{Entry, entry, entry_for, others, told_in}

-- an entry in front is the one for its own question alone
module _ (x : Entry) (es : List Entry) (q : List ℕ) where
  pub own : bytes_eq q x.question ≡ true → entry_for (x ∷ es) q ≡ Some x
  own e = cond-true _ _ _ e

  pub other : bytes_eq q x.question ≡ false → entry_for (x ∷ es) q ≡ entry_for es q
  other e = cond-false _ _ _ e

-- entries for other questions than this

module _ (p : List ℕ) where
  module _ (x : Entry) (es : List Entry) where
    pub others-same : bytes_eq x.question p ≡ true → others p (x ∷ es) ≡ others p es
    others-same e = rw e refl

    pub others-other : bytes_eq x.question p ≡ false → others p (x ∷ es) ≡ x ∷ others p es
    others-other e = rw e refl

  others_by : (q : List ℕ) (x : Entry) (es : List Entry) (b d : Bool) → bytes_eq x.question p ≡ b → bytes_eq q x.question ≡ d → bytes_eq q p ≡ false →
      entry_for (others p es) q ≡ entry_for es q → entry_for (others p (x ∷ es)) q ≡ entry_for (x ∷ es) q
  others_by q x es true true e f apart inner =
      let first : x.question ≡ p = (bytes_eq-Decides x.question p).0 e in
      let no : true ≡ false = sym f ∙ ap (bytes_eq q) first ∙ apart in cc
  others_by q x es true false e f apart inner = ap (λ xs. entry_for xs q) (others-same x es e) ∙ inner ∙ sym (other x es q f)
  others_by q x es false true e f apart inner = ap (λ xs. entry_for xs q) (others-other x es e) ∙ own x (others p es) q f ∙ sym (own x es q f)
  others_by q x es false false e f apart inner =
      ap (λ xs. entry_for xs q) (others-other x es e) ∙ other x (others p es) q f ∙ inner ∙ sym (other x es q f)

  -- to another question they have the same entry
  pub entry_for-others : (q : List ℕ) → bytes_eq q p ≡ false → (es : List Entry) → entry_for (others p es) q ≡ entry_for es q
  entry_for-others q apart [] = refl
  entry_for-others q apart (x ∷ es) =
      others_by q x es (bytes_eq x.question p) (bytes_eq q x.question) refl refl apart (entry_for-others q apart es)

module _ {K X : Type 0} (text : K → List ℕ) (line : X → ℕ) (answer : X → List ℕ) where
  abbrev pub entry_of : K × X → Entry
  entry_of e = entry (text e.0) (line e.1) (answer e.1)

  abbrev pub view : List (K × X) → List Entry
  view es = map (λ e. entry (text e.0) (line e.1) (answer e.1)) es

  pub view-append : (xs ys : List (K × X)) → view (xs ++ ys) ≡ view xs ++ view ys
  view-append [] ys = refl
  view-append (x ∷ xs) ys = ap (λ es. entry_of x ∷ es) (view-append xs ys)

  pub view-get : (es : List (K × X)) (i : ℕ) (k : K) (x : X) (q a : List ℕ) → slice_get es i ≡ Some (k, x) → q ≡ text k → a ≡ answer x →
      slice_get (view es) i ≡ Some (entry q (line x) a)
  view-get es i k x q a e f g =
      slice_get-map entry_of es i ∙ ap (option_map entry_of) e ∙ ap₂ (λ (r b : List ℕ). Some (entry r (line x) b)) (sym f) (sym g)

  pub view-none : (es : List (K × X)) (i : ℕ) → slice_get es i ≡ None → slice_get (view es) i ≡ None
  view-none es i e = slice_get-map entry_of es i ∙ ap (option_map entry_of) e

  module _ (q : List ℕ) where
    abbrev test : K → Bool
    test k = bytes_eq q (text k)

    found_by : (f : K × X) (es : List (K × X)) (x : X) (b : Bool) → test f.0 ≡ b → lookup test (f ∷ es) ≡ Some x →
        (lookup test es ≡ Some x → told_in (view es) q ≡ Some (line x, answer x)) → told_in (view (f ∷ es)) q ≡ Some (line x, answer x)
    found_by f es x true t e inner =
        let same : Some f.1 ≡ Some x = sym (cond-true (test f.0) _ _ t) ∙ e in
        let is : f.1 ≡ x = cc in
        ap (option_map {U = ℕ × List ℕ} (λ e. (e.number, e.answer))) (own (entry_of f) (view es) q t) ∙ ap (λ (y : X). Some (line y, answer y)) is
    found_by f es x false t e inner =
        ap (option_map {U = ℕ × List ℕ} (λ e. (e.number, e.answer))) (other (entry_of f) (view es) q t)
        ∙ inner (sym (cond-false (test f.0) _ _ t) ∙ e)

    pub found : (es : List (K × X)) (x : X) → lookup test es ≡ Some x → told_in (view es) q ≡ Some (line x, answer x)
    found [] x e = cc
    found (f ∷ es) x e = found_by f es x (test f.0) refl e (found es x)

    missing_by : (f : K × X) (es : List (K × X)) (b : Bool) → test f.0 ≡ b → lookup test (f ∷ es) ≡ None →
        (lookup test es ≡ None → entry_for (view es) q ≡ None) → entry_for (view (f ∷ es)) q ≡ None
    missing_by f es true t e inner = let no : Some f.1 ≡ None = sym (cond-true (test f.0) _ _ t) ∙ e in cc
    missing_by f es false t e inner = other (entry_of f) (view es) q t ∙ inner (sym (cond-false (test f.0) _ _ t) ∙ e)

    pub missing : (es : List (K × X)) → lookup test es ≡ None → entry_for (view es) q ≡ None
    missing [] e = refl
    missing (f ∷ es) e = missing_by f es (test f.0) refl e (missing es)

  module _ (eq : K → K → Bool) (k : K) (x : X) (same : (other : K) → eq k other ≡ bytes_eq (text k) (text other)) where
    added_by : (f : K × X) (es : List (K × X)) (b : Bool) → eq k f.0 ≡ b → entry_for (view (f ∷ es)) (text k) ≡ None →
        (entry_for (view es) (text k) ≡ None → insert_entry eq es k x ≡ es ++ (k, x) ∷ []) → insert_entry eq (f ∷ es) k x ≡ f ∷ es ++ (k, x) ∷ []
    added_by f es true t e inner =
        let no : Some (entry_of f) ≡ None = sym (own (entry_of f) (view es) (text k) (sym (same f.0) ∙ t)) ∙ e in cc
    added_by f es false t e inner =
        cond-false (eq k f.0) _ _ t ∙ ap (λ fs. f ∷ fs) (inner (sym (other (entry_of f) (view es) (text k) (sym (same f.0) ∙ t)) ∙ e))

    added : (es : List (K × X)) → entry_for (view es) (text k) ≡ None → insert_entry eq es k x ≡ es ++ (k, x) ∷ []
    added [] e = refl
    added (f ∷ es) e = added_by f es (eq k f.0) refl e (added es)

    -- the entries after a new key is inserted
    pub view-added : (es : List (K × X)) → entry_for (view es) (text k) ≡ None → view (insert_entry eq es k x) ≡ view es ++ entry_of (k, x) ∷ []
    view-added es e = ap view (added es e) ∙ view-append es ((k, x) ∷ [])
