-- Names between the commas of a value.
use Rattle.std.proofs.Common.{◌≡◌, ◌∙◌, ◌&&◌, ◌<◌, Bool, true, false, cond, eqb, ℕ, List, [], ◌∷◌, Option, Some, None, ap, arith, length, not, refl, sym}
use Rattle.std.specs.Prelude.{is_none}
use Rattle.std.specs.List.{after_first, before_first, find, list_all, list_any, position_or_len}
use Rattle.std.specs.Option.{option_map}
use Rattle.std.specs.Str.{bytes_eq}
use Rattle.std.proofs.lemmas.List.Elements.{All-from_get_or}
use Rattle.std.proofs.lemmas.List.Splits.{slice_split_first, slice_split_none}
use Rattle.std.proofs.lemmas.List.Sums.{fails_before_first}
use Rattle.ghs_commands.specs.Protocols.{are_distinct, names_of}

none_of : {X Y : Type 0} (f : X → Y) (o : Option X) → is_none o ≡ is_none (option_map f o)
none_of f None = refl
none_of f (Some x) = refl

one_more : {X : Type 0} (fails passes : X → Bool) (x : X) (xs : List X) (f p : Bool) → p ≡ not f →
    is_none (find fails xs) ≡ list_all passes xs →
    is_none (cond f (Some x) (find fails xs)) ≡ (p && list_all passes xs)
one_more fails passes x xs true p is rest = rw is refl
one_more fails passes x xs false p is rest = rw is rest

none_fails : {X : Type 0} (fails passes : X → Bool) → ((x : X) → passes x ≡ not (fails x)) → (xs : List X) →
    is_none (find fails xs) ≡ list_all passes xs
none_fails fails passes other [] = refl
none_fails fails passes other (x ∷ xs) =
    one_more fails passes x xs (fails x) (passes x) (other x) (none_fails fails passes other xs)

-- where the first that fails was looked for, there is none where all pass
pub none_found : {X Y : Type 0} (f : X → Y) (o : Option X) (fails passes : Y → Bool) → ((y : Y) → passes y ≡ not (fails y)) → (ys : List Y) →
    option_map f o ≡ find fails ys →
    is_none o ≡ list_all passes ys
none_found f o fails passes other ys found = none_of f o ∙ (ap is_none found ∙ none_fails fails passes other ys)

pub not_not : (b : Bool) → b ≡ not (not b)
not_not true = refl
not_not false = refl

-- a value without a comma is one name
pub one_name : (text : List ℕ) → position_or_len (λ b. eqb b 44) text ≡ length text → true ≡ are_distinct (names_of text)
one_name text none =
    let alone : names_of text ≡ text ∷ [] = slice_split_none (λ b. eqb b 44) text
    (All-from_get_or (λ b. eqb b 44 ≡ false) text 0 (λ i within. fails_before_first (λ b. eqb b 44) text i 0 (omega (arith, none, within)))) in
    sym (ap are_distinct alone)

-- what stands before its first comma is the first name, and behind it are the others
pub first_name : (text first rest : List ℕ) →
    (position_or_len (λ b. eqb b 44) text < length text) × (first ≡ before_first (λ b. eqb b 44) text) × (rest ≡ after_first (λ b. eqb b 44) text) →
    names_of text ≡ first ∷ names_of rest
first_name text first rest (within, before, after) =
    slice_split_first (λ b. eqb b 44) text 0 within
    ∙ (ap (λ (f : List ℕ). f ∷ names_of (after_first (λ b. eqb b 44) text)) (sym before) ∙ ap (λ (r : List ℕ). first ∷ names_of r) (sym after))

pub stands_again : (text first rest : List ℕ) → names_of text ≡ first ∷ names_of rest →
    list_any (λ m. bytes_eq m first) (names_of rest) ≡ true →
    false ≡ are_distinct (names_of text)
stands_again text first rest is found =
    sym (ap are_distinct is ∙ ap (λ (b : Bool). not b && are_distinct (names_of rest)) found)

pub stands_once : (text first rest : List ℕ) → names_of text ≡ first ∷ names_of rest →
    list_any (λ m. bytes_eq m first) (names_of rest) ≡ false →
    are_distinct (names_of rest) ≡ are_distinct (names_of text)
stands_once text first rest is none =
    sym (ap are_distinct is ∙ ap (λ (b : Bool). not b && are_distinct (names_of rest)) none)
