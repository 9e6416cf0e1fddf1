-- What is left of a command line's words.
use Rattle.std.proofs.Common.{◌≡◌, ℕ, ◌+◌, List, [], ◌∷◌, ◌++◌, length, drop, refl, sym, ap, ◌∙◌, arith, IfOk, Option}
use Rattle.std.specs.Prelude.{Some, None}
use Rattle.std.specs.Option.{option_to_list}
use Rattle.std.specs.Vec.{vec_items}
use Rattle.std.specs.Vec.Iter.{into_iter_items, into_iter_len, into_iter_steps}
use Rattle.std.proofs.lemmas.Iterator.{IsCollectResult, items_from_collect}
use Rattle.std.proofs.lemmas.Iterator.Adapters.{YieldsList-from_vec}

none_left : {A : Type 0} (xs : List A) → length xs ≡ 0 → xs ≡ []
none_left [] e = refl
none_left (x ∷ xs) e = absurd (omega arith)

-- what is collected behind the first item of an iterator that tells its length
pub rest_of : {A Z E : Type 0} (s t : _) (o : Option A) (r : _)
    → into_iter_items {X = A} {Z = Z} s ≡ option_to_list o ++ into_iter_items t
    → into_iter_steps {X = A} {Z = Z} s o t
    → IsCollectResult {Z = Z} {E = E} (into_iter_steps {X = A} {Z = Z}) t r
    → into_iter_len s ≡ length (into_iter_items s)
    → IfOk r (λ w. vec_items w ≡ drop 1 (into_iter_items s))
rest_of s t None r items steps got e =
    let none : into_iter_items s ≡ [] = none_left _ (sym e ∙ steps.0) in
    let d : drop 1 (into_iter_items s) ≡ [] = ap (drop 1) none in
    items_from_collect r got (YieldsList-from_vec (drop 1 (into_iter_items s)) (sym items ∙ none ∙ sym d) (steps.1 ∙ sym (ap length d)))
rest_of s t (Some x) r items steps got e =
    let d : drop 1 (into_iter_items s) ≡ into_iter_items t = ap (drop 1) steps.0 in
    let n : into_iter_len t ≡ length (drop 1 (into_iter_items s)) = omega (arith, steps.1, e, ap length steps.0, ap length d) in
    items_from_collect r got (YieldsList-from_vec (drop 1 (into_iter_items s)) (sym d) n)
