-- Ways out: which classes have one, the least of them, and what follows where none has.
use Rattle.std.proofs.Common.{◌≡◌, ℕ, zero, suc, ◌≤◌, ◌⊎◌, inl, inr, ⊎_elim, false, List, [], ◌∷◌, sym, subst, arith}
use Rattle.std.specs.List.{Contains}
use Rattle.std.proofs.lemmas.Bool.{cases_Bool, cases_eq}
use Rattle.ghs_graph.specs.declared.key.Key.{Key}
use Rattle.ghs_graph.specs.Key.{key_lt}
use Rattle.ghs_graph.specs.Graph.{Shape, IsGraph}
use Rattle.ghs_graph.specs.Links.{Joined, Same, Over, Back, links, IsTree, InTree}
use Rattle.ghs_graph.proofs.lemmas.Members.{nothing_in, first_in, later_in, in_cases}
use Rattle.ghs_graph.proofs.lemmas.Keys.{lt_irreflexive}
use Rattle.ghs_graph.proofs.lemmas.Joining.{joined_then, joined_back, joined_within, Decided}
use Rattle.ghs_graph.proofs.lemmas.Computing.{tree, tree_is}
use Rattle.ghs_graph.proofs.lemmas.Forests.{none_is_spare}
use Rattle.boruvka_protocol.specs.Levels.{Leaves, IsLeastOut, Taken, InClass, HasWayOut, IsOfLevel}
use Rattle.boruvka_protocol.specs.LevelLaws.{WaysOutLiftClasses, InsideIsTree, WholeIsTree, WholeIsComponent, WholeIsTreeThere}
use Rattle.boruvka_protocol.proofs.lemmas.KeyOrder.{not_below_less}
use Rattle.boruvka_protocol.proofs.lemmas.Cuts.{stays, taken_in_tree, taken_links}
use Rattle.boruvka_protocol.proofs.lemmas.Computing.{leaves_decided, taken_decided, in_class_decided}

-- The least link of a list that has P.

pub record LeastWith (P : Key → Type 0) (ks : List Key) : Type 0 where
  pub key : Key
  pub is : Contains ks key
  pub has : P key
  pub least : (j : Key) → Contains ks j → P j → key_lt j key ≡ false

abbrev pub NoneWith : (Key → Type 0) → List Key → Type 0
NoneWith P ks = (j : Key) → Contains ks j → P j → ⊥

pub least_more : (P : Key → Type 0) (k : Key) (ks : List Key) → Decided (P k) → LeastWith P ks ⊎ NoneWith P ks
    → LeastWith P (k ∷ ks) ⊎ NoneWith P (k ∷ ks)
least_more P k ks (inr lacks) (inr none) =
    inr (λ j h p. ⊎_elim (λ o. none j o p) (λ e. lacks (subst P (sym e) p)) (in_cases k j ks h))
least_more P k ks (inr lacks) (inl m) = inl (record {
  key = m.key;
  is = later_in k m.key ks m.is;
  has = m.has;
  least = λ j h p. ⊎_elim (λ o. m.least j o p) (λ e. absurd (lacks (subst P (sym e) p))) (in_cases k j ks h);
})
least_more P k ks (inl here) (inr none) = inl (record {
  key = k;
  is = first_in k ks;
  has = here;
  least =
      λ j h p.
      ⊎_elim (λ o. absurd (none j o p)) (λ e. subst (λ (x : Key). key_lt x k ≡ false) e (lt_irreflexive k)) (in_cases k j ks h);
})
least_more P k ks (inl here) (inl m) = ⊎_elim
    (λ less. inl (record {
      key = k;
      is = first_in k ks;
      has = here;
      least =
          λ j h p.
          ⊎_elim (λ o. not_below_less j k m.key (m.least j o p) less) (λ e. subst (λ (x : Key). key_lt x k ≡ false) e (lt_irreflexive k))
          (in_cases k j ks h);
    }))
    (λ not_less. inl (record {
      key = m.key;
      is = later_in k m.key ks m.is;
      has = m.has;
      least = λ j h p. ⊎_elim (λ o. m.least j o p) (λ e. subst (λ (x : Key). key_lt x m.key ≡ false) e not_less) (in_cases k j ks h);
    }))
    (cases_Bool (key_lt k m.key))

pub least_with : (P : Key → Type 0) → ((k : Key) → Decided (P k)) → (ks : List Key) → LeastWith P ks ⊎ NoneWith P ks
least_with P decide [] = inr (λ j h p. nothing_in j h)
least_with P decide (k ∷ ks) = least_more P k ks (decide k) (least_with P decide ks)

-- a class with a way out has a least one
pub least_out : (ks : List Key) (l v : ℕ) → HasWayOut ks l v → (k : Key) × IsLeastOut ks (Taken ks l) v k
least_out ks l v h =
    ⊎_elim (λ m. (m.key, record { link = m.is; leaves = m.has; least = m.least })) (λ none. absurd (none h.0 h.1 h.2))
    (least_with (λ k. Leaves (Taken ks l) v k) (leaves_decided ks l v) ks)

pub way_out_decided : (ks : List Key) (l v : ℕ) → Decided (HasWayOut ks l v)
way_out_decided ks l v =
    ⊎_elim (λ m. inl (m.key, m.is, m.has)) (λ none. inr (λ h. none h.0 h.1 h.2))
    (least_with (λ k. Leaves (Taken ks l) v k) (leaves_decided ks l v) ks)

-- Who has a way out.

-- a class without one has all that the links join
pub whole_class : (ks : List Key) (l : ℕ) {u w : ℕ} → (HasWayOut ks l u → ⊥) → Joined (links ks) u w → (InClass ks l u w → ⊥) → ⊥
whole_class ks l {u} none way out = stays u (λ k is leaves. none (k, is, leaves)) way Same out

-- if one class has a way out, then each has one that the links join with it
pub way_out_at : (ks : List Key) (l : ℕ) {v u : ℕ} → Joined (links ks) v u → HasWayOut ks l v → HasWayOut ks l u
way_out_at ks l {v} {u} way h = ⊎_elim (λ has. has) (λ none. absurd (no none h.2)) (way_out_decided ks l u)
  where
    -- the class of u would have both ends of the link that leads out of the class of v
    both : (HasWayOut ks l u → ⊥) → (p q : ℕ) → Joined (links ks) p q → InClass ks l v p → (InClass ks l v q → ⊥) → ⊥
    both none p q over inside out =
        let to_p : Joined (links ks) u p = joined_then (joined_back way) (taken_links ks l inside) in
        whole_class ks l none to_p
        (λ at_p. whole_class ks l none (joined_then to_p over) (λ at_q. out (joined_then inside (joined_then (joined_back at_p) at_q))))

    no : (HasWayOut ks l u → ⊥) → Leaves (Taken ks l) v h.0 → ⊥
    no none (inl p) = both none h.0.a h.0.b (Over h.0 h.1 Same) p.0 p.1
    no none (inr p) = both none h.0.b h.0.a (Back h.0 h.1 Same) p.0 p.1

-- what a level joins the next one joins
pub still_in_class : (ks : List Key) (l : ℕ) {u w : ℕ} → InClass ks l u w → InClass ks (suc l) u w
still_in_class ks l way = joined_within (λ k s. inl s) way

-- a class with a way out had one at the level before
pub way_out_before : (ks : List Key) (l v : ℕ) → HasWayOut ks (suc l) v → HasWayOut ks l v
way_out_before ks l v h = from h.2
  where
    from : Leaves (Taken ks (suc l)) v h.0 → HasWayOut ks l v
    from (inl p) =
        way_out_at ks l (joined_back (taken_links ks (suc l) p.0))
        (h.0, h.1, inl (Same, λ far. p.1 (joined_then p.0 (still_in_class ks l far))))
    from (inr p) =
        way_out_at ks l (joined_back (taken_links ks (suc l) p.0))
        (h.0, h.1, inr (Same, λ far. p.1 (joined_then p.0 (still_in_class ks l far))))

pub way_out_down : (ks : List Key) (l m v : ℕ) → l ≤ m → HasWayOut ks m v → HasWayOut ks l v
way_out_down ks l zero v le h = let same : zero ≡ l = omega (arith, le) in subst (λ n. HasWayOut ks n v) same h
way_out_down ks l (suc m) v le h = ⊎_elim
    (λ (e : suc m ≡ l). subst (λ n. HasWayOut ks n v) e h)
    (λ ne. way_out_down ks l m v (omega (arith, le, ne)) (way_out_before ks m v h))
    (cases_eq (suc m) l)

-- so a class with a way out becomes part of one of the next level
pub next_of_level : (ks : List Key) (l v : ℕ) → HasWayOut ks l v → IsOfLevel ks (suc l) v
next_of_level ks zero v h = λ u way. (tt, way_out_at ks zero (taken_links ks (suc zero) way) h)
next_of_level ks (suc l) v h = λ u way.
    let here : HasWayOut ks (suc l) u = way_out_at ks (suc l) (taken_links ks (suc (suc l)) way) h in
    (next_of_level ks l u (way_out_before ks l u here), here)

pub of_level : (ks : List Key) (l v : ℕ) → HasWayOut ks l v → IsOfLevel ks l v
of_level ks zero v h = tt
of_level ks (suc l) v h = next_of_level ks l v (way_out_before ks l v h)

pub ways_out_lift : WaysOutLiftClasses
ways_out_lift g ok l v h = (of_level g.keys l v h, next_of_level g.keys l v h)

-- Inside a class: a link of the forest that isn't taken would be spare in it.

inside_taken : (g : Shape) → IsGraph g → (l : ℕ) (k : Key) → InTree g.keys k → ((InClass g.keys l k.a k.b → ⊥) → ⊥) → Taken g.keys l k
inside_taken g ok l k h inside = ⊎_elim (λ is. is) (λ isnt. absurd (inside (spare isnt))) (taken_decided g.keys l k h.0)
  where
    t : IsTree g.keys (tree g.keys)
    t = tree_is g.keys ok.rising

    spare : (Taken g.keys l k → ⊥) → InClass g.keys l k.a k.b → ⊥
    spare isnt way =
        none_is_spare g.keys (tree g.keys) t k (t.all k h)
        (joined_within (λ j s. (t.all j (taken_in_tree g.keys l j s), λ e. isnt (subst (λ (x : Key). Taken g.keys l x) e s))) way)

pub inside_is_tree : InsideIsTree
inside_is_tree g ok l k way = (taken_in_tree g.keys l k, λ h. inside_taken g ok l k h (λ out. out way))

pub whole_is_tree : WholeIsTree
whole_is_tree g ok l none k =
    (taken_in_tree g.keys l k, λ h. inside_taken g ok l k h (λ out. whole_class g.keys l (none k.a) (Over k h.0 Same) out))

-- A class without a way out, whatever others have.

pub whole_is_component : WholeIsComponent
whole_is_component g ok l v none u =
    (taken_links g.keys l, λ way. ⊎_elim (λ is. is) (λ out. absurd (whole_class g.keys l none way out)) (in_class_decided g.keys l v u))

pub whole_is_tree_there : WholeIsTreeThere
whole_is_tree_there g ok l v none k way = (taken_in_tree g.keys l k, λ h. inside_taken g ok l k h (λ out. no h out))
  where
    no : InTree g.keys k → (InClass g.keys l k.a k.b → ⊥) → ⊥
    no h out =
        let at_a : InClass g.keys l v k.a = (whole_is_component g ok l v none k.a).1 way in
        let at_b : InClass g.keys l v k.b = (whole_is_component g ok l v none k.b).1 (joined_then way (Over k h.0 Same)) in
        out (joined_then (joined_back at_a) at_b)
