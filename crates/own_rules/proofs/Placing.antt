-- The places of lookups.
use Rattle.std.proofs.Common.{◌≡◌, ◌∙◌, ◌++◌, ◌+◌, ◌<◌, ℕ, suc, Bool, true, false, List, [], ◌∷◌, length, take, refl, sym, ap, ap₂, cond, ⊎_elim, arith, Option, Some, None, add-zero, subst}
use Rattle.std.specs.List.{position_from, position_or_len}
use Rattle.std.specs.Map.{lookup}
use Rattle.std.specs.Option.{is_some, option_map}
use Rattle.std.specs.Prelude.{find, nat_lt, position, slice_get, ◌==◌, ◌&&◌}
use Rattle.std.proofs.lemmas.Bool.{and_from, and_parts, cond-false, cond-true, eqb-true, eq-eqb}
use Rattle.std.proofs.lemmas.Iterator.Adapters.{position_from-zero}
use Rattle.std.proofs.lemmas.List.{length-take-le}
use Rattle.std.proofs.lemmas.List.Folds.{find_at}
use Rattle.std.proofs.lemmas.Option.{get_or_from_slice_get, same_Some, slice_get_cases}
use Rattle.std.proofs.Math.Seq.{take-suc}
use Rattle.own_book.specs.Entry.{Entry}
use Rattle.own_rules.specs.Places.{ArePlaces, first_at, place_in}
use Rattle.own_rules.specs.Questions.{answer_at, asks, is_lookup, lookup_of, same_lookup}
use Rattle.own_rules.specs.Texts.{Text}
use Rattle.own_rules.specs.contracts.node.LookupPartialEq.TheImpl.{eq-value}
use Rattle.own_rules.specs.declared.node.Lookup.{Lookup}
use Rattle.own_rules.specs.declared.node.Lookup.TheVariants.{Wake, Take}

-- the test of a map is that of the definition

eq_is : (a b : Lookup) → eq-value.it a b ≡ same_lookup a b
eq_is (Wake v s) (Wake w t) = refl
eq_is (Wake v s) (Take w q n t) = refl
eq_is (Take v p m s) (Wake w t) = refl
eq_is (Take v p m s) (Take w q n t) = refl

pub lookup_is : (l : Lookup) (es : List (Lookup × ℕ)) → lookup (eq-value.it l) es ≡ place_in es l
lookup_is l [] = refl
lookup_is l (e ∷ es) = ap₂ (λ b o. cond b (Some e.1) o) (eq_is l e.0) (lookup_is l es)

pub same_is : (a b : Lookup) → same_lookup a b ≡ true → a ≡ b
same_is (Wake v s) (Wake w t) h =
    let both = and_parts (v == w) (s == t) h in
    ap₂ (λ x y. Wake x y) (eqb-true v w both.0) (eqb-true s t both.1)
same_is (Wake v s) (Take w q n t) h = cc
same_is (Take v p m s) (Wake w t) h = cc
same_is (Take v p m s) (Take w q n t) h =
    let first = and_parts (v == w) (p == q && (m == n && s == t)) h in
    let second = and_parts (p == q) (m == n && s == t) first.1 in
    let third = and_parts (m == n) (s == t) second.1 in
    ap₂ (λ x y. Take x y m s) (eqb-true v w first.0) (eqb-true p q second.0)
    ∙ ap₂ (λ x y. Take w q x y) (eqb-true m n third.0) (eqb-true s t third.1)

own_same : (a : Lookup) → same_lookup a a ≡ true
own_same (Wake v s) = and_from (v == v) (s == s) (eq-eqb v v refl) (eq-eqb s s refl)
own_same (Take v p m s) =
    and_from (v == v) (p == p && (m == m && s == s)) (eq-eqb v v refl)
    (and_from (p == p) (m == m && s == s) (eq-eqb p p refl) (and_from (m == m) (s == s) (eq-eqb m m refl) (eq-eqb s s refl)))

-- one more place is given to a lookup that has none
pub noted_in : (old new : List (Lookup × ℕ)) (k : Lookup) (place : ℕ) → (is_some (place_in old k)) ≡ false →
    ((q : Lookup) → lookup (eq-value.it q) new ≡ cond (eq-value.it k q) (Some place) (lookup (eq-value.it q) old)) →
    (l : Lookup) → place_in new l ≡ first_at old k place l
noted_in old new k place none h l =
    sym (lookup_is l new) ∙ h l ∙ ap₂ (λ b o. cond b (Some place) o) (eq_is k l) (lookup_is l old)
    ∙ sym (cond-false (is_some (place_in old k)) (place_in old l) (cond (same_lookup k l) (Some place) (place_in old l)) none)

pub kept_in : (old : List (Lookup × ℕ)) (k : Lookup) (place : ℕ) → (is_some (place_in old k)) ≡ true → (l : Lookup) →
    place_in old l ≡ first_at old k place l
kept_in old k place some l =
    sym (cond-true (is_some (place_in old k)) (place_in old l) (cond (same_lookup k l) (Some place) (place_in old l)) some)

-- the first place at which a test passes, in a list that grows

abbrev or_here : Option ℕ → Bool → ℕ → Option ℕ
or_here (Some i) b n = Some i
or_here None b n = cond b (Some n) None

module _ {X : Type 0} (test : X → Bool) where
  push_by : (i : ℕ) (y : X) (ys : List X) (x : X) (b : Bool) → test y ≡ b →
      position_from test (i + 1) (ys ++ x ∷ []) ≡ or_here (position_from test (i + 1) ys) (test x) (i + 1 + length ys) →
      position_from test i (y ∷ ys ++ x ∷ []) ≡ or_here (position_from test i (y ∷ ys)) (test x) (i + length (y ∷ ys))
  push_by i y ys x true e rest =
      cond-true (test y) (Some i) (position_from test (i + 1) (ys ++ x ∷ [])) e
      ∙ sym (ap (λ o. or_here o (test x) (i + length (y ∷ ys))) (cond-true (test y) (Some i) (position_from test (i + 1) ys) e))
  push_by i y ys x false e rest =
      let long : i + 1 + length ys ≡ i + length (y ∷ ys) = omega arith in
      cond-false (test y) (Some i) (position_from test (i + 1) (ys ++ x ∷ [])) e ∙ rest
      ∙ ap (or_here (position_from test (i + 1) ys) (test x)) long
      ∙ sym (ap (λ o. or_here o (test x) (i + length (y ∷ ys))) (cond-false (test y) (Some i) (position_from test (i + 1) ys) e))

  from_push : (i : ℕ) (xs : List X) (x : X) →
      position_from test i (xs ++ x ∷ []) ≡ or_here (position_from test i xs) (test x) (i + length xs)
  from_push i [] x = ap (λ n. cond (test x) (Some n) None) (sym (add-zero i))
  from_push i (y ∷ ys) x = push_by i y ys x (test y) refl (from_push (i + 1) ys x)

  position_push : (xs : List X) (x : X) → position test (xs ++ x ∷ []) ≡ or_here (position test xs) (test x) (length xs)
  position_push xs x =
      let long : 0 + length xs ≡ length xs = omega arith in
      position_from-zero test (xs ++ x ∷ []) ∙ from_push 0 xs x ∙ ap (or_here (position_from test 0 xs) (test x)) long
      ∙ sym (ap (λ o. or_here o (test x) (length xs)) (position_from-zero test xs))

  at_by : (n m i : ℕ) (b : Bool) → cond b (Some n) None ≡ Some i → n ≡ i
  at_by n m i true h = same_Some _ _ h
  at_by n m i false h = cc

  pub find_is : (xs : List X) (i : ℕ) → position test xs ≡ Some i → find test xs ≡ slice_get xs i
  find_is xs i h =
      find_at test xs ∙ ap (slice_get xs) (at_by (position_or_len test xs) (length xs) i (nat_lt (position_or_len test xs) (length xs)) h)

  none_by : (i : ℕ) (x : X) (xs : List X) (b : Bool) → test x ≡ b → position_from test i (x ∷ xs) ≡ None →
      (position_from test (i + 1) xs ≡ None → find test xs ≡ None) → find test (x ∷ xs) ≡ None
  none_by i x xs true e h rest = let no : Some i ≡ None = sym (cond-true (test x) (Some i) (position_from test (i + 1) xs) e) ∙ h in cc
  none_by i x xs false e h rest =
      cond-false (test x) (Some x) (find test xs) e ∙ rest (sym (cond-false (test x) (Some i) (position_from test (i + 1) xs) e) ∙ h)

  none_from : (i : ℕ) (xs : List X) → position_from test i xs ≡ None → find test xs ≡ None
  none_from i [] h = refl
  none_from i (x ∷ xs) h = none_by i x xs (test x) refl h (none_from (i + 1) xs)

  pub find_none : (xs : List X) → position test xs ≡ None → find test xs ≡ None
  find_none xs h = none_from 0 xs (sym (position_from-zero test xs) ∙ h)

-- the answer of a book, by the place

module _ (texts : List Text) (book : List Entry) (l : Lookup) where
  pub answer_is : (i : ℕ) (e : Entry) → position (asks texts l) book ≡ Some i →
      slice_get book i ≡ Some e → answer_at texts book l ≡ Some e.answer
  answer_is i e p at = ap (option_map (λ (x : Entry). x.answer)) (find_is (asks texts l) book i p ∙ at)

  pub answer_past : (i : ℕ) → position (asks texts l) book ≡ Some i → slice_get book i ≡ None → answer_at texts book l ≡ None
  answer_past i p at = ap (option_map (λ (x : Entry). x.answer)) (find_is (asks texts l) book i p ∙ at)

  pub answer_none : position (asks texts l) book ≡ None → answer_at texts book l ≡ None
  answer_none p = ap (option_map (λ (x : Entry). x.answer)) (find_none (asks texts l) book p)

-- the places of one entry more

module _ (texts : List Text) where
  pushed : (es : List Entry) (old new : List (Lookup × ℕ)) (e : Entry) → ArePlaces texts es old →
      ((l : Lookup) → place_in new l ≡ or_here (place_in old l) (asks texts l e) (length es)) → ArePlaces texts (es ++ e ∷ []) new
  pushed es old new e is h l =
      h l ∙ ap (λ o. or_here o (asks texts l e) (length es)) (is l) ∙ sym (position_push (asks texts l) es e)

  same_or : (o : Option ℕ) (n : ℕ) → o ≡ or_here o false n
  same_or None n = refl
  same_or (Some i) n = refl

  unasked : (l : Lookup) (e : Entry) → lookup_of texts e ≡ None → asks texts l e ≡ false
  unasked l e h = ap (is_lookup l) h

  asked_so : (l k : Lookup) (e : Entry) → lookup_of texts e ≡ Some k → asks texts l e ≡ same_lookup l k
  asked_so l k e h = ap (is_lookup l) h

  -- a lookup that has its place already keeps it, and another's place stays
  first_or : (old : List (Lookup × ℕ)) (k l : Lookup) (n : ℕ) (o : Option ℕ) (b c : Bool) → place_in old k ≡ o →
      same_lookup l k ≡ b →
      same_lookup k l ≡ c → first_at old k n l ≡ or_here (place_in old l) b n
  first_or old k l n (Some i) true c p e f =
      let same = same_is l k e in
      let here : place_in old l ≡ Some i = ap (place_in old) same ∙ p in
      cond-true (is_some (place_in old k)) (place_in old l) (cond (same_lookup k l) (Some n) (place_in old l)) (ap is_some p) ∙ here
      ∙ sym (ap (λ o. or_here o true n) here)
  first_or old k l n (Some i) false c p e f =
      cond-true (is_some (place_in old k)) (place_in old l) (cond (same_lookup k l) (Some n) (place_in old l)) (ap is_some p)
      ∙ same_or (place_in old l) n
  first_or old k l n None true true p e f =
      let same = same_is l k e in
      let here : place_in old l ≡ None = ap (place_in old) same ∙ p in
      cond-false (is_some (place_in old k)) (place_in old l) (cond (same_lookup k l) (Some n) (place_in old l)) (ap is_some p)
      ∙ cond-true (same_lookup k l) (Some n) (place_in old l) f ∙ sym (ap (λ o. or_here o true n) here)
  first_or old k l n None false false p e f =
      cond-false (is_some (place_in old k)) (place_in old l) (cond (same_lookup k l) (Some n) (place_in old l)) (ap is_some p)
      ∙ cond-false (same_lookup k l) (Some n) (place_in old l) f ∙ same_or (place_in old l) n
  first_or old k l n None true false p e f =
      let no : true ≡ false = sym (own_same k) ∙ ap (same_lookup k) (sym (same_is l k e)) ∙ f in cc
  first_or old k l n None false true p e f =
      let no : true ≡ false = sym (own_same l) ∙ ap (same_lookup l) (sym (same_is k l f)) ∙ e in cc

  taken : (es : List Entry) (i : ℕ) (e : Entry) → i < length es → slice_get es i ≡ Some e → take (i + 1) es ≡ take i es ++ e ∷ []
  taken es i e l at =
      let next : i + 1 ≡ suc i = omega arith in
      ap (λ n. take n es) next ∙ take-suc es i e l ∙ ap (λ (g : Entry). take i es ++ g ∷ []) (get_or_from_slice_get es i e e at)

  pub places_more : (es : List Entry) (i : ℕ) (old new : List (Lookup × ℕ)) (o : Option Lookup) → i < length es →
      ArePlaces texts (take i es) old →
      ((e : Entry) → slice_get es i ≡ Some e → o ≡ lookup_of texts e) →
      ((k : Lookup) → o ≡ Some k → (l : Lookup) → place_in new l ≡ first_at old k i l) → (o ≡ None → new ≡ old) →
      ArePlaces texts (take (i + 1) es) new
  places_more es i old new None lt is said some none = ⊎_elim
      (λ in_it.
      let e = in_it.0 in
      subst (λ xs. ArePlaces texts xs new) (sym (taken es i e lt in_it.2))
      (pushed (take i es) old new e is
      (λ l. ap (λ ps. place_in ps l) (none refl) ∙ same_or (place_in old l) (length (take i es))
      ∙ sym (ap (λ b. or_here (place_in old l) b (length (take i es))) (unasked l e (sym (said e in_it.2)))))))
      (λ past. absurd (let p = past.0 in omega arith))
      (slice_get_cases es i).1
  places_more es i old new (Some k) lt is said some none = ⊎_elim
      (λ in_it.
      let e = in_it.0 in
      let many : i ≡ length (take i es) = sym (length-take-le i es (omega (arith, lt))) in
      subst (λ xs. ArePlaces texts xs new) (sym (taken es i e lt in_it.2))
      (pushed (take i es) old new e is
      (λ l. some k refl l ∙ ap (λ n. first_at old k n l) many
      ∙ first_or old k l (length (take i es)) (place_in old k) (same_lookup l k) (same_lookup k l) refl refl refl
      ∙ sym (ap (λ b. or_here (place_in old l) b (length (take i es))) (asked_so l k e (sym (said e in_it.2)))))))
      (λ past. absurd (let p = past.0 in omega arith))
      (slice_get_cases es i).1
