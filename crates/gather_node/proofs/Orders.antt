-- Links taken from a sorted list, one by one.
use Rattle.std.proofs.Common.{◌≡◌, ℕ, zero, suc, ◌+◌, ◌-◌, ◌<◌, ◌≤◌, ⊎_elim, Bool, true, false, ◌==◌, ◌&&◌, ◌||◌, List, [], ◌∷◌, ◌++◌, length, get_or, take, refl, sym, ◌∙◌, ap, subst, arith, ltb-true, leb-true, eqb-true, length-take}
use Rattle.std.specs.List.{Contains}
use Rattle.std.specs.List.Sorted.{IsPermutation}
use Rattle.std.proofs.lemmas.Bool.{cases_eq, both_ways, and_parts}
use Rattle.std.proofs.lemmas.Bool.Decides.{nat_tests}
use Rattle.std.proofs.lemmas.List.{take_more, get_or_default, get_or-take}
use Rattle.std.proofs.lemmas.List.Elements.{Contains-get_or, Contains-push, Contains-push_cases, Contains-append_left}
use Rattle.std.proofs.lemmas.List.Quantifiers.{all_pairs_push}
use Rattle.std.proofs.lemmas.List.Sorted.{Contains-permutation, IsPermutation-sym}
use Rattle.ghs_graph.specs.declared.key.Key.{Key}
use Rattle.ghs_graph.specs.Graph.{NODE_LIMIT}
use Rattle.ghs_graph.specs.Key.{key_lt, no_key}
use Rattle.ghs_graph.specs.Links.{AreAmong, IsRising, IsTree}
use Rattle.ghs_graph.proofs.lemmas.Keys.{lt_irreflexive}
use Rattle.peer_network.proofs.lemmas.Graphs.{same_key}
use Rattle.gather_node.specs.Forest.{follows, forest, is_link}
use Rattle.gather_node.specs.Ordered.{AreInOrder, NoneFalls}
use Rattle.gather_node.proofs.lemmas.Forest.{forest_one, lt_through, not_above_through}

-- in a sorted list no key is above a later one
sorted_pairs : (ks : List Key) → NoneFalls ks → (j n : ℕ) (d : Key) → j + n < length ks → key_lt (get_or ks (j + n) d) (get_or ks j d) ≡ false
sorted_pairs ks s j zero d lt = subst (λ i. key_lt (get_or ks i d) (get_or ks j d) ≡ false) (let e : j ≡ j + 0 = omega arith in e)
    (lt_irreflexive (get_or ks j d))
sorted_pairs ks s j (suc n) d lt =
    let e : (j + n) + 1 ≡ j + suc n = omega arith in
    subst (λ i. key_lt (get_or ks i d) (get_or ks j d) ≡ false) e
    (not_above_through (get_or ks j d) (get_or ks (j + n) d) (get_or ks ((j + n) + 1) d) (sorted_pairs ks s j n d (omega (arith, lt)))
    (s (j + n) d (omega (arith, lt))))

-- of the first keys none is above the next
none_above : (ks : List Key) (i : ℕ) (k : Key) → NoneFalls ks → i < length ks → get_or ks i k ≡ k → (x : Key) → Contains (take i ks) x →
    key_lt k x ≡ false
none_above ks i k s lt e x h =
    let short : h.0 < i = omega (arith, h.1, length-take i ks) in
    let at : get_or ks h.0 x ≡ x = sym (get_or-take i ks h.0 x short) ∙ h.2 in
    let p : h.0 + (i - h.0) ≡ i = omega (arith, short) in
    let z : key_lt (get_or ks i x) (get_or ks h.0 x) ≡ false =
    subst (λ n. key_lt (get_or ks n x) (get_or ks h.0 x) ≡ false) p (sorted_pairs ks s h.0 (i - h.0) x (omega (arith, p, lt))) in
    subst (λ (y : Key). key_lt y x ≡ false) (get_or_default ks i x k lt ∙ e) (subst (λ (y : Key). key_lt (get_or ks i x) y ≡ false) at z)

taken_more : (ks : List Key) (i : ℕ) (k : Key) → i < length ks → get_or ks i k ≡ k → take (i + 1) ks ≡ take i ks ++ k ∷ []
taken_more ks i k lt e = take_more ks i k lt ∙ ap (λ (x : Key). take i ks ++ x ∷ []) e

pub order_starts : (ks : List Key) → AreInOrder (take 0 ks) []
order_starts ks = record {
  rising = λ i j d lt jl. absurd (omega arith);
  same = λ k. (λ h. absurd (let l = h.1 in omega (arith, l)), λ h. absurd (let l = h.0.1 in omega (arith, l)));
}

-- a key that comes after all of a list in key order
pub rises_on : (keys : List Key) (k : Key) → IsRising keys → follows keys k ≡ true → IsRising (keys ++ k ∷ [])
rises_on keys k r h = all_pairs_push (λ x y. key_lt x y ≡ true) keys k r (last (length keys == 0) refl h)
  where
    last : (b : Bool) → (length keys == 0) ≡ b → (b || key_lt (get_or keys (length keys - 1) no_key) k) ≡ true →
        (j : ℕ) (d : Key) → j < length keys → key_lt (get_or keys j d) k ≡ true
    last true z t j d l = absurd (let n = eqb-true (length keys) 0 z in omega (arith, n, l))
    last false z t j d l = ⊎_elim
        (λ (h : j ≡ length keys - 1).
        subst (λ (y : Key). key_lt y k ≡ true)
        (get_or_default keys (length keys - 1) no_key d (omega (arith, l)) ∙ ap (λ n. get_or keys n d) (sym h)) t)
        (λ ne.
        lt_through (get_or keys j d) (get_or keys (length keys - 1) d) k
        (r j (length keys - 1) d (omega (arith, ne, l)) (omega (arith, l)))
        (subst (λ (y : Key). key_lt y k ≡ true) (get_or_default keys (length keys - 1) no_key d (omega (arith, l))) t))
        (cases_eq j (length keys - 1))

-- a link that comes after those before it
pub order_more : (ks keys keys' : List Key) (i : ℕ) (k : Key) → NoneFalls ks → i < length ks → get_or ks i k ≡ k → AreInOrder (take i ks) keys →
    (is_link k && follows keys k) ≡ true → keys' ≡ keys ++ k ∷ [] → AreInOrder (take (i + 1) ks) keys'
order_more ks keys keys' i k s lt e o b q =
    subst (λ (x : List Key). AreInOrder (take (i + 1) ks) x) (sym q)
    (subst (λ (x : List Key). AreInOrder x (keys ++ k ∷ [])) (sym (taken_more ks i k lt e)) made)
  where
    parts : (is_link k ≡ true) × (follows keys k ≡ true)
    parts = and_parts _ _ b

    made : AreInOrder (take i ks ++ k ∷ []) (keys ++ k ∷ [])
    made = record {
      rising = rises_on keys k o.rising parts.1;
      same = λ x. (
        λ h. ⊎_elim
            (λ old. let w = (o.same x).0 old in (Contains-append_left (take i ks) (k ∷ []) x w.0, w.1))
            (λ z.
            subst (λ (y : Key). Contains (take i ks ++ k ∷ []) y × (is_link y ≡ true)) z (Contains-push (take i ks) k, parts.0))
            (Contains-push_cases keys k x h),
        λ h. ⊎_elim
            (λ old. Contains-append_left keys (k ∷ []) x ((o.same x).1 (old, h.1)))
            (λ z. subst (λ (y : Key). Contains (keys ++ k ∷ []) y) z (Contains-push keys k))
            (Contains-push_cases (take i ks) k x h.0),
      );
    }

-- what is no link, or no new one
pub order_skips : (ks keys keys' : List Key) (i : ℕ) (k : Key) → NoneFalls ks → i < length ks → get_or ks i k ≡ k → AreInOrder (take i ks) keys →
    (is_link k && follows keys k) ≡ false → keys' ≡ keys → AreInOrder (take (i + 1) ks) keys'
order_skips ks keys keys' i k s lt e o b q =
    subst (λ (x : List Key). AreInOrder (take (i + 1) ks) x) (sym q)
    (subst (λ (x : List Key). AreInOrder x keys) (sym (taken_more ks i k lt e)) made)
  where
    known : is_link k ≡ true → Contains keys k
    known l = go (length keys == 0) refl (sym (ap (λ c. c && follows keys k) l) ∙ b)
      where
        go : (c : Bool) → (length keys == 0) ≡ c → (c || key_lt (get_or keys (length keys - 1) no_key) k) ≡ false → Contains keys k
        go true z t = absurd (both_ways true t refl)
        go false z t =
            let some : length keys - 1 < length keys =
            ⊎_elim (λ (h : length keys ≡ 0). absurd (grind (arith, nat_tests))) (λ ne. omega (arith, ne)) (cases_eq (length keys) 0) in
            let has = Contains-get_or keys (length keys - 1) no_key some in
            let old = ((o.same (get_or keys (length keys - 1) no_key)).0 has).0 in
            let not_above = none_above ks i k s lt e (get_or keys (length keys - 1) no_key) old in
            subst (λ (y : Key). Contains keys y) (same_key (get_or keys (length keys - 1) no_key) k t not_above) has

    made : AreInOrder (take i ks ++ k ∷ []) keys
    made = record {
      rising = o.rising;
      same = λ x. (
        λ h. let w = (o.same x).0 h in (Contains-append_left (take i ks) (k ∷ []) x w.0, w.1),
        λ h. ⊎_elim
            (λ old. (o.same x).1 (old, h.1))
            (λ z. subst (λ (y : Key). Contains keys y) z (known (subst (λ (y : Key). is_link y ≡ true) (sym z) h.1)))
            (Contains-push_cases (take i ks) k x h.0),
      );
    }

-- links lie within the limit
link_parts : (k : Key) → is_link k ≡ true → (1 ≤ k.a) × (k.a < k.b) × (k.b ≤ NODE_LIMIT)
link_parts k h =
    let a = and_parts _ _ h in
    let b = and_parts _ _ a.1 in
    (ltb-true 0 k.a a.0, ltb-true k.a k.b b.0, leb-true k.b NODE_LIMIT b.1)

pub links_among : (ks keys : List Key) → AreInOrder ks keys → AreAmong NODE_LIMIT keys
links_among ks keys o i d lt = link_parts (get_or keys i d) ((o.same (get_or keys i d)).0 (Contains-get_or keys i d lt)).1

-- the tree of the links that were put in order
pub forest_made : (ks sorted keys tree : List Key) → IsPermutation ks sorted → AreInOrder sorted keys → IsTree keys tree → tree ≡ forest ks
forest_made ks sorted keys tree p o t =
    forest_one ks sorted keys tree
    (λ k. (Contains-permutation ks sorted k p, Contains-permutation sorted ks k (IsPermutation-sym ks sorted p))) o t
