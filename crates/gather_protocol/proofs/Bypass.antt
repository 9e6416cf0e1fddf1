-- The forest of a union: a list stands for a set of links, where it has links of the set alone and joins the ends of each by links that aren't above
-- it. Then both have the same forest. A forest stands for its links, so lists may be made into forests one after another.
use Rattle.std.proofs.Common.{◌≡◌, ⊎_elim, Bool, true, false, not, List, ap, subst, arith}
use Rattle.std.specs.Prelude.{filter, ◌↔◌}
use Rattle.std.specs.List.{Contains}
use Rattle.std.proofs.lemmas.Bool.{cases_Bool, both_ways, not-true}
use Rattle.std.proofs.lemmas.Bool.Decides.{nat_tests}
use Rattle.std.proofs.lemmas.List.Kept.{AllPairs-filter}
use Rattle.ghs_graph.specs.declared.key.Key.{Key}
use Rattle.ghs_graph.specs.Key.{key_lt}
use Rattle.ghs_graph.specs.Links.{Joined, Same, Over, InTree, IsRising, IsTree}
use Rattle.ghs_graph.proofs.lemmas.Computing.{tree, tree_is}
use Rattle.ghs_graph.proofs.lemmas.Forests.{tree_joins}
use Rattle.ghs_graph.proofs.lemmas.Joining.{joined_within, joined_through}
use Rattle.ghs_graph.proofs.lemmas.Keys.{lt_irreflexive}
use Rattle.ghs_graph.proofs.lemmas.Members.{in_filter, filter_has}
use Rattle.peer_network.proofs.lemmas.Graphs.{same_key}
use Rattle.gather_node.specs.Forest.{forest, has, is_link, links_of}
use Rattle.gather_node.proofs.lemmas.Forest.{forest_is, has_in, in_has, links_in_order, not_above_through}

-- links of the list that aren't above k join its ends
abbrev pub Bypassed : List Key → Key → Type 0
Bypassed ks k = Joined (λ j. Contains ks j × (key_lt k j ≡ false)) k.a k.b

below_not_above : (i j k : Key) → key_lt i j ≡ true → key_lt k j ≡ false → key_lt k i ≡ false
below_not_above i j k h l = grind (arith, nat_tests)

not_above_below : (i j k : Key) → key_lt j i ≡ false → key_lt j k ≡ true → key_lt i k ≡ true
not_above_below i j k h l = grind (arith, nat_tests)

-- the link itself
pub by_itself : (ks : List Key) (k : Key) → Contains ks k → Bypassed ks k
by_itself ks k h = Over k (h, lt_irreflexive k) Same

-- a link that is bypassed by links that are bypassed
pub bypassed_through : (ks js : List Key) (k : Key) → ((j : Key) → Contains ks j → Bypassed js j) → Bypassed ks k → Bypassed js k
bypassed_through ks js k f way =
    joined_through (λ j s. joined_within (λ x p. (p.0, not_above_through x j k p.1 s.1)) (f j s.0)) way

-- the tree bypasses each link
tree_bypasses : (ks t : List Key) → IsRising ks → IsTree ks t → (k : Key) → Contains ks k → Bypassed t k
tree_bypasses ks t r is k h =
    joined_within within
    (tree_joins some (tree some) (AllPairs-filter (λ i j. key_lt i j ≡ true) test ks r)
    (tree_is some (AllPairs-filter (λ i j. key_lt i j ≡ true) test ks r))
    k.a k.b (Over k (filter_has test ks k h (passes k (lt_irreflexive k))) Same))
  where
    test : Key → Bool
    test j = not (key_lt k j)

    some : List Key
    some = filter (λ j. not (key_lt k j)) ks

    passes : (j : Key) → key_lt k j ≡ false → not (key_lt k j) ≡ true
    passes j e = ap not e

    passed : (j : Key) → not (key_lt k j) ≡ true → key_lt k j ≡ false
    passed j e = not-true (key_lt k j) e

    within : (j : Key) → Contains (tree some) j → Contains t j × (key_lt k j ≡ false)
    within j s =
        let is' = tree_is some (AllPairs-filter (λ i l. key_lt i l ≡ true) (λ l. not (key_lt k l)) ks r) in
        let m = is'.has j s in
        let o = in_filter (λ l. not (key_lt k l)) ks j m.0 in
        let low = passed j o.1 in (
          is.all j (
            o.0,
            λ way.
                m.1
                (joined_within (λ i l. (filter_has (λ l. not (key_lt k l)) ks i l.0 (passes i (below_not_above i j k l.1 low)), l.1)) way),
          ),
          low,
        )

-- and so does the forest of a list, if it is a link
pub forest_bypasses : (ks : List Key) (k : Key) → Contains ks k → is_link k ≡ true → Bypassed (forest ks) k
forest_bypasses ks k h l =
    let o = links_in_order ks in tree_bypasses (links_of ks) (forest ks) o.rising (forest_is ks) k ((o.same k).1 (h, l))

-- a forest has links of its list
pub forest_within : (ks : List Key) (k : Key) → Contains (forest ks) k → Contains ks k
forest_within ks k h = (((links_in_order ks).same k).0 ((forest_is ks).has k h).0).0

-- The forest of a set.

-- the ends of the link aren't joined by links of the set that have smaller keys
abbrev pub InTreeOf : (Key → Type 0) → Key → Type 0
InTreeOf S k = S k × (Joined (λ j. S j × (key_lt j k ≡ true)) k.a k.b → ⊥)

-- the list stands for the set
pub record StandsFor (S : Key → Type 0) (ks : List Key) : Type 0 where
  pub within : (k : Key) → Contains ks k → S k
  pub around : (k : Key) → S k → Bypassed ks k

-- in a set and in a list that stands for it the same links are needed
pub stands_in : (S : Key → Type 0) (ks : List Key) → StandsFor S ks → (k : Key) → InTree ks k → InTreeOf S k
stands_in S ks s k h = (
  s.within k h.0,
  λ way. h.1 (joined_through (λ j p. joined_within (λ x q. (q.0, not_above_below x j k q.1 p.1)) (s.around j p.0)) way),
)

pub needed_in : (S : Key → Type 0) (ks : List Key) → StandsFor S ks → (k : Key) → InTreeOf S k → Contains ks k → InTree ks k
needed_in S ks s k h c = (c, λ way. h.1 (joined_within (λ j p. (s.within j p.0, p.1)) way))

-- and the list has each link that is needed
pub has_needed : (S : Key → Type 0) (ks : List Key) → StandsFor S ks → (k : Key) → InTreeOf S k → Contains ks k
has_needed S ks s k h =
    ⊎_elim (λ e. has_in ks k e)
    (λ e. absurd (h.1 (joined_within (λ j p. (s.within j p.0, least j p.0 p.1 e)) (s.around k h.0)))) (cases_Bool (has ks k))
  where
    least : (j : Key) → Contains ks j → key_lt k j ≡ false → has ks k ≡ false → key_lt j k ≡ true
    least j c above none = ⊎_elim (λ l. l)
        (λ l. absurd (both_ways (has ks k) none (subst (λ (x : Key). has ks x ≡ true) (same_key j k l above) (in_has ks j c))))
        (cases_Bool (key_lt j k))

-- where a list stands for the set, so does its forest, if all are links
pub forest_stands : (S : Key → Type 0) (ks : List Key) → ((k : Key) → S k → is_link k ≡ true) → StandsFor S ks → StandsFor S (forest ks)
forest_stands S ks l s = record {
  within = λ k h. s.within k (forest_within ks k h);
  around = λ k h. bypassed_through ks (forest ks) k (λ j c. forest_bypasses ks j c (l j (s.within j c))) (s.around k h);
}

-- the forest of a list that stands for a set has just what is needed in the set
pub forest_of_set : (S : Key → Type 0) (ks : List Key) → ((k : Key) → S k → is_link k ≡ true) → StandsFor S ks → (k : Key) →
    Contains (forest ks) k ↔ InTreeOf S k
forest_of_set S ks l s k = (
  λ h.
      let t = (forest_is ks).has k h in
      let o = links_in_order ks in
      stands_in S ks s k (
        ((o.same k).0 t.0).0,
        λ way. t.1 (joined_within (λ j p. ((o.same j).1 (p.0, l j (s.within j p.0)), p.1)) way),
      ),
  λ h.
      let o = links_in_order ks in
      let c = has_needed S ks s k h in
      let n = needed_in S ks s k h c in
      (forest_is ks).all k (
        (o.same k).1 (c, l k h.0),
        λ way. n.1 (joined_within (λ j p. (((o.same j).0 p.0).0, p.1)) way),
      ),
)
