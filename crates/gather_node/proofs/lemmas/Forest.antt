-- The forest of a list is the minimum spanning forest of the links in it, whatever their order.
use Rattle.std.proofs.Common.{◌≡◌, suc, ◌⊎◌, inl, inr, ⊎_elim, Bool, true, false, ◌||◌, List, [], ◌∷◌, cond, get_or, refl, subst, arith}
use Rattle.std.specs.Prelude.{filter, ◌↔◌}
use Rattle.std.specs.List.{Contains}
use Rattle.std.proofs.lemmas.Bool.{and_parts, eqb-true}
use Rattle.std.proofs.lemmas.List.Elements.{Contains-get_or}
use Rattle.std.proofs.lemmas.List.Kept.{AllPairs-cons}
use Rattle.std.proofs.lemmas.Bool.Decides.{nat_tests}
use Rattle.ghs_graph.specs.declared.key.Key.{Key}
use Rattle.ghs_graph.specs.Key.{key_lt}
use Rattle.ghs_graph.specs.Links.{IsRising, IsTree}
use Rattle.ghs_graph.proofs.lemmas.Computing.{tree_is}
use Rattle.ghs_graph.proofs.lemmas.Keys.{same_keys, tree_is_same}
use Rattle.ghs_graph.proofs.lemmas.Members.{nothing_in, first_in, later_in, in_cases, in_filter, filter_has}
use Rattle.peer_network.proofs.lemmas.Graphs.{same_key}
use Rattle.gather_node.specs.Forest.{forest, has, in_order, insert, is_link, is_same, links_of}
use Rattle.gather_node.specs.Ordered.{AreInOrder}

pub lt_through : (j k l : Key) → key_lt j k ≡ true → key_lt k l ≡ true → key_lt j l ≡ true
lt_through j k l h i = grind (arith, nat_tests)

pub not_above_through : (j k l : Key) → key_lt k j ≡ false → key_lt l k ≡ false → key_lt l j ≡ false
not_above_through j k l h i = grind (arith, nat_tests)

-- Whether a list has a key.

pub same_true : (j k : Key) → is_same j k ≡ true → j ≡ k
same_true j k h =
    let a = and_parts _ _ h in
    let b = and_parts _ _ a.1 in
    let x : j.weight ≡ k.weight = eqb-true j.weight k.weight a.0 in
    let y : j.a ≡ k.a = eqb-true j.a k.a b.0 in
    let z : j.b ≡ k.b = eqb-true j.b k.b b.1 in
    λ i. record { weight = x i; a = y i; b = z i }

pub same_itself : (k : Key) → is_same k k ≡ true
same_itself k = grind (arith, nat_tests)

pub has_in : (ks : List Key) (k : Key) → has ks k ≡ true → Contains ks k
has_in [] k h = cc
has_in (j ∷ js) k h = go (λ z. has_in js k z) (is_same j k) refl h
  where
    go : (has js k ≡ true → Contains js k) → (b : Bool) → is_same j k ≡ b → (b || has js k) ≡ true → Contains (j ∷ js) k
    go ih true e z = subst (λ (x : Key). Contains (j ∷ js) x) (same_true j k e) (first_in j js)
    go ih false e z = later_in j k js (ih z)

pub in_has : (ks : List Key) (k : Key) → Contains ks k → has ks k ≡ true
in_has [] k h = absurd (nothing_in k h)
in_has (j ∷ js) k h = ⊎_elim (λ o. or_later (is_same j k) (in_has js k o)) (λ e. or_first (subst (λ (x : Key). is_same j x ≡ true) e (same_itself j)))
    (in_cases j k js h)
  where
    or_later : (b : Bool) → has js k ≡ true → (b || has js k) ≡ true
    or_later true z = refl
    or_later false z = z

    or_first : is_same j k ≡ true → (is_same j k || has js k) ≡ true
    or_first e = rw e refl

-- Links put in order.

before_all : (x : Key) (xs : List Key) → IsRising (x ∷ xs) → (y : Key) → Contains xs y → key_lt x y ≡ true
before_all x xs r y h = subst (λ (z : Key). key_lt x z ≡ true) h.2 (r 0 (suc h.0) y (omega arith) (let l = h.1 in omega arith))

tail_rises : (x : Key) (xs : List Key) → IsRising (x ∷ xs) → IsRising xs
tail_rises x xs r i j d lt jl = r (suc i) (suc j) d (omega arith) (omega arith)

rises : (x : Key) (xs : List Key) → ((y : Key) → Contains xs y → key_lt x y ≡ true) → IsRising xs → IsRising (x ∷ xs)
rises x xs before r = AllPairs-cons (λ j k. key_lt j k ≡ true) x xs (λ k d lt. before (get_or xs k d) (Contains-get_or xs k d lt)) r

-- what a list with one link more has
insert_in : (k : Key) (js : List Key) (x : Key) → Contains (insert k js) x → Contains js x ⊎ (k ≡ x)
insert_in k [] x h = in_cases k x [] h
insert_in k (j ∷ js) x h = go (λ o. insert_in k js x o) (key_lt k j) (key_lt j k) h
  where
    go : (Contains (insert k js) x → Contains js x ⊎ (k ≡ x)) → (b c : Bool) →
        Contains (cond b (k ∷ j ∷ js) (cond c (j ∷ insert k js) (j ∷ js))) x → Contains (j ∷ js) x ⊎ (k ≡ x)
    go ih true c z = in_cases k x (j ∷ js) z
    go ih false true z =
        ⊎_elim (λ o. ⊎_elim (λ a. inl (later_in j x js a)) inr (ih o))
        (λ e. inl (subst (λ (y : Key). Contains (j ∷ js) y) e (first_in j js))) (in_cases j x (insert k js) z)
    go ih false false z = inl z

insert_old : (k : Key) (js : List Key) (x : Key) → Contains js x → Contains (insert k js) x
insert_old k [] x h = absurd (nothing_in x h)
insert_old k (j ∷ js) x h = go (λ o. insert_old k js x o) (key_lt k j) (key_lt j k)
  where
    go : (Contains js x → Contains (insert k js) x) → (b c : Bool) → Contains (cond b (k ∷ j ∷ js) (cond c (j ∷ insert k js) (j ∷ js))) x
    go ih true c = later_in k x (j ∷ js) h
    go ih false true = ⊎_elim (λ o. later_in j x (insert k js) (ih o))
        (λ e. subst (λ (y : Key). Contains (j ∷ insert k js) y) e (first_in j (insert k js))) (in_cases j x js h)
    go ih false false = h

insert_new : (k : Key) (js : List Key) → Contains (insert k js) k
insert_new k [] = first_in k []
insert_new k (j ∷ js) = go (insert_new k js) (key_lt k j) refl (key_lt j k) refl
  where
    go : Contains (insert k js) k → (b : Bool) → key_lt k j ≡ b → (c : Bool) → key_lt j k ≡ c →
        Contains (cond b (k ∷ j ∷ js) (cond c (j ∷ insert k js) (j ∷ js))) k
    go ih true p c q = first_in k (j ∷ js)
    go ih false p true q = later_in j k (insert k js) ih
    go ih false p false q = subst (λ (y : Key). Contains (j ∷ js) y) (same_key j k q p) (first_in j js)

insert_rises : (k : Key) (js : List Key) → IsRising js → IsRising (insert k js)
insert_rises k [] r = rises k [] (λ y h. absurd (nothing_in y h)) r
insert_rises k (j ∷ js) r = go (insert_rises k js (tail_rises j js r)) (key_lt k j) refl (key_lt j k) refl
  where
    go : IsRising (insert k js) → (b : Bool) → key_lt k j ≡ b → (c : Bool) → key_lt j k ≡ c →
        IsRising (cond b (k ∷ j ∷ js) (cond c (j ∷ insert k js) (j ∷ js)))
    go ih true p c q =
        rises k (j ∷ js)
        (λ y h.
        ⊎_elim (λ o. lt_through k j y p (before_all j js r y o)) (λ e. subst (λ (z : Key). key_lt k z ≡ true) e p) (in_cases j y js h)) r
    go ih false p true q =
        rises j (insert k js)
        (λ y h. ⊎_elim (λ o. before_all j js r y o) (λ e. subst (λ (z : Key). key_lt j z ≡ true) e q) (insert_in k js y h))
        ih
    go ih false p false q = r

order_rises : (ks : List Key) → IsRising (in_order ks)
order_rises [] = λ i j d lt jl. absurd (omega arith)
order_rises (k ∷ ks) = insert_rises k (in_order ks) (order_rises ks)

order_in : (ks : List Key) (x : Key) → Contains (in_order ks) x → Contains ks x
order_in [] x h = h
order_in (k ∷ ks) x h =
    ⊎_elim (λ o. later_in k x ks (order_in ks x o)) (λ e. subst (λ (y : Key). Contains (k ∷ ks) y) e (first_in k ks))
    (insert_in k (in_order ks) x h)

order_has : (ks : List Key) (x : Key) → Contains ks x → Contains (in_order ks) x
order_has [] x h = h
order_has (k ∷ ks) x h =
    ⊎_elim (λ o. insert_old k (in_order ks) x (order_has ks x o))
    (λ e. subst (λ (y : Key). Contains (insert k (in_order ks)) y) e (insert_new k (in_order ks))) (in_cases k x ks h)

-- the links of a list are in order
pub links_in_order : (ks : List Key) → AreInOrder ks (links_of ks)
links_in_order ks = record {
  rising = order_rises (filter is_link ks);
  same = λ k. (
    λ h. in_filter is_link ks k (order_in (filter is_link ks) k h),
    λ h. order_has (filter is_link ks) k (filter_has is_link ks k h.0 h.1),
  );
}

-- and they are in no other
pub one_order : (ks js keys : List Key) → ((k : Key) → Contains ks k ↔ Contains js k) → AreInOrder js keys → keys ≡ links_of ks
one_order ks js keys same o =
    let l = links_in_order ks in
    same_keys keys (links_of ks) o.rising l.rising
    (λ x h. let s = (o.same x).0 h in (l.same x).1 ((same x).1 s.0, s.1))
    (λ x h. let s = (l.same x).0 h in (o.same x).1 ((same x).0 s.0, s.1))

-- the forest is the minimum spanning forest of the links
pub forest_is : (ks : List Key) → IsTree (links_of ks) (forest ks)
unfolding forest
forest_is ks = tree_is (links_of ks) (links_in_order ks).rising

pub forest_one : (ks js keys tree : List Key) → ((k : Key) → Contains ks k ↔ Contains js k) → AreInOrder js keys → IsTree keys tree →
    tree ≡ forest ks
forest_one ks js keys tree same o t =
    tree_is_same (links_of ks) tree (forest ks) (subst (λ (x : List Key). IsTree x tree) (one_order ks js keys same o) t) (forest_is ks)
