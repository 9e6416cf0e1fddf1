-- The links that are wanted, one after the other.
use Rattle.std.proofs.Common.{◌≡◌, ◌∙◌, ℕ, ◌+◌, ◌<◌, Bool, ◌||◌, List, [], ◌∷◌, ◌++◌, ap, ap₂, cond, get_or, length, map, refl, take, sym}
use Rattle.std.specs.List.{filter}
use Rattle.std.proofs.lemmas.List.Elements.{filter_more}
use Rattle.std.proofs.lemmas.List.{get_or-map, length-map}
use Rattle.ghs_graph.specs.declared.key.Key.{Key}
use Rattle.ghs_graph.specs.Key.{no_key}
use Rattle.peer_machine.specs.Net.{Net}
use Rattle.peer_report.specs.Branches.{is_branch_at, is_branch_link}
use Rattle.peer_report.specs.Links.{on_link}
use Rattle.peer_report.specs.declared.links.LinkPorts.{LinkPorts}

-- whether a link is wanted, by its two ends
pub wanted_is : {S M : Type 0} (is_branch : S → ℕ → Bool) (ks : List Key) (w : Net S M) (k : Key) (a b : Bool) →
    a ≡ is_branch_at is_branch ks w k.a k →
    b ≡ is_branch_at is_branch ks w k.b k → (a || b) ≡ is_branch_link is_branch ks w k
wanted_is is_branch ks w k a b x y = rw (x, y) refl

-- a link of the walk, by its place
pub link_at : (ks : List Key) (links : List LinkPorts) (i : ℕ) (d : LinkPorts) → links ≡ map (on_link ks) ks → i < length links →
    (i < length ks) × (get_or links i d ≡ on_link ks (get_or ks i no_key))
link_at ks links i d is lt =
    let within : i < length (map (on_link ks) ks) = rw (← is) lt in
    let few : i < length ks = rw (← length-map ks (on_link ks)) within in
    (few, rw is (get_or-map (on_link ks) ks i no_key d few))

-- one link more
pub found_more : {S M : Type 0} (is_branch : S → ℕ → Bool) (ks : List Key) (w : Net S M) (i : ℕ) (found more : List Key) (k : Key) (a b : Bool) →
    i < length ks → k ≡ get_or ks i no_key → found ≡ filter (is_branch_link is_branch ks w) (take i ks) →
    a ≡ is_branch_at is_branch ks w k.a k → b ≡ is_branch_at is_branch ks w k.b k → more ≡ found ++ cond (a || b) (k ∷ []) [] →
    more ≡ filter (is_branch_link is_branch ks w) (take (i + 1) ks)
found_more is_branch ks w i found more k a b lt at was x y is =
    is ∙ ap₂ (λ (xs : List Key) (c : Bool). xs ++ cond c (k ∷ []) []) was (wanted_is is_branch ks w k a b x y)
    ∙ ap (λ (j : Key). filter (is_branch_link is_branch ks w) (take i ks) ++ cond (is_branch_link is_branch ks w j) (j ∷ []) []) at
    ∙ sym (filter_more (is_branch_link is_branch ks w) ks i no_key lt)
