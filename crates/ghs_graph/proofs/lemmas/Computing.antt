-- The forest, roots and the number of components, computed in a plain slow way.
use Rattle.std.proofs.Common.{◌≡◌, ℕ, ◌<◌, ◌≤◌, ◌+◌, ◌-◌, ⊎_elim, Bool, true, not, ◌&&◌, List, [], ◌∷◌, length, get_or, refl, sym, ◌∙◌, arith}
use Rattle.std.specs.Bool.{Decides}
use Rattle.std.specs.List.{AllPairs, Contains, filter, list_all, range_with_len}
use Rattle.std.proofs.lemmas.Bool.{both_ways, cases_lt, and_parts, not-true, not_from_false, false_from_ne_true}
use Rattle.std.proofs.lemmas.Bool.Decides.{Decides-like, Decides-and, Decides-not, Decides-below_and}
use Rattle.std.proofs.lemmas.List.Kept.{AllPairs-cons, AllPairs-filter}
use Rattle.std.proofs.lemmas.List.Sums.{AllPass-from_list_all}
use Rattle.std.proofs.lemmas.List.FromFn.{length-range_with_len, get_or-range_with_len}
use Rattle.ghs_graph.specs.Computing.{joins, none_below, is_root}
use Rattle.ghs_graph.specs.declared.key.Key.{Key}
use Rattle.ghs_graph.specs.Key.{key_lt}
use Rattle.ghs_graph.specs.Links.{Joined, links, IsTree, IsRising}
use Rattle.ghs_graph.specs.Graph.{Shape, nodes_of}
use Rattle.ghs_graph.specs.Components.{IsRoot, HasComponents}
use Rattle.ghs_graph.proofs.lemmas.Members.{in_filter, filter_has}
use Rattle.ghs_graph.proofs.lemmas.Joining.{joined_within, joins_tells}

-- The forest.

-- each key is less than every later one
abbrev rises : List Key → Bool
rises [] = true
rises (k ∷ ks) = list_all (key_lt k) ks && rises ks

pub is_rising : (ks : List Key) → rises ks ≡ true → IsRising ks
is_rising [] e = λ i j d lt jl. absurd (omega arith)
is_rising (k ∷ ks) e =
    let both : (list_all (key_lt k) ks ≡ true) × (rises ks ≡ true) = and_parts (list_all (key_lt k) ks) (rises ks) e in
    AllPairs-cons (λ i j. key_lt i j ≡ true) k ks (AllPass-from_list_all (key_lt k) ks both.0) (is_rising ks both.1)

-- a link whose ends the smaller ones don't join
abbrev pub in_tree : List Key → Key → Bool
in_tree ks k = not (joins (filter (λ j. key_lt j k) ks) k.a k.b)

abbrev pub tree : List Key → List Key
tree ks = filter (in_tree ks) ks

pub tree_is : (ks : List Key) → IsRising ks → IsTree ks (tree ks)
tree_is ks r = record {
  rising = AllPairs-filter (λ j k. key_lt j k ≡ true) (in_tree ks) ks r;
  has =
      λ k h.
      let o = in_filter (in_tree ks) ks k h in (
        o.0,
        λ way.
            both_ways (below k) (not-true (below k) o.1)
            ((joins_tells (smaller k) k.a k.b).1 (joined_within (λ j s. filter_has (λ i. key_lt i k) ks j s.0 s.1) way)),
      );
  all =
      λ k h.
      filter_has (in_tree ks) ks k h.0
      (not_from_false (below k)
      (false_from_ne_true (below k)
      (λ e. h.1 (joined_within (λ j s. in_filter (λ i. key_lt i k) ks j s) ((joins_tells (smaller k) k.a k.b).0 e)))));
}
  where
    smaller : Key → List Key
    smaller k = filter (λ j. key_lt j k) ks

    below : Key → Bool
    below k = joins (smaller k) k.a k.b

-- Roots.

pub root_tells : (ks : List Key) (v r : ℕ) → Decides (is_root ks v r) (IsRoot ks v r)
root_tells ks v r = Decides-like (is_root ks v r)
    (λ h. record { joined = h.0; least = λ u way. ⊎_elim (λ (lt : u < r). absurd (h.1 u lt way)) (λ le. le) (cases_lt u r) })
    (λ h. (h.joined, λ u lt way. absurd (omega (arith, h.least u way))))
    (Decides-and (joins ks v r) (none_below (joins ks v) r) (joins_tells ks v r)
    (Decides-below_and (λ u. not (joins ks v u)) (λ u. Joined (links ks) v u → ⊥) (none_below (joins ks v))
    (λ u. Decides-not (joins ks v u) (joins_tells ks v u)) refl (λ n. refl) r))

-- Components.

pub nodes_rise : (n : ℕ) → AllPairs (λ u v. u < v) (range_with_len 1 n)
nodes_rise n i j d lt jl =
    omega (
      arith,
      get_or-range_with_len 1 n i d (omega (arith, length-range_with_len 1 n)),
      get_or-range_with_len 1 n j d (omega (arith, length-range_with_len 1 n)),
    )

pub node_in : (n v : ℕ) → Contains (range_with_len 1 n) v → (1 ≤ v) × (v ≤ n)
node_in n v h =
    let here : get_or (range_with_len 1 n) h.0 v ≡ 1 + h.0 = get_or-range_with_len 1 n h.0 v (omega (arith, h.1, length-range_with_len 1 n)) in
    (omega (arith, here, h.2), omega (arith, here, h.2, h.1, length-range_with_len 1 n))

pub in_nodes : (n v : ℕ) → 1 ≤ v → v ≤ n → Contains (range_with_len 1 n) v
in_nodes n v low high =
    let place : v ≡ 1 + (v - 1) = omega arith in
    (v - 1, omega (arith, length-range_with_len 1 n), get_or-range_with_len 1 n (v - 1) v (omega arith) ∙ sym place)

-- how many nodes are their own roots
abbrev pub components : Shape → ℕ
components g = length (filter (λ v. is_root g.keys v v) (nodes_of g))

pub components_are : (g : Shape) → HasComponents g (components g)
components_are g = record {
  leasts = filter (λ v. is_root g.keys v v) (nodes_of g);
  rising = AllPairs-filter (λ u v. u < v) (λ v. is_root g.keys v v) (nodes_of g) (nodes_rise g.nodes);
  has = λ v h.
      let i : Contains (nodes_of g) v × (is_root g.keys v v ≡ true) = in_filter (λ u. is_root g.keys u u) (nodes_of g) v h in
      let b : (1 ≤ v) × (v ≤ g.nodes) = node_in g.nodes v i.0 in
      (b.0, b.1, (root_tells g.keys v v).0 i.1);
  all = λ v low high r. filter_has (λ u. is_root g.keys u u) (nodes_of g) v (in_nodes g.nodes v low high) ((root_tells g.keys v v).1 r);
  number = refl;
}
