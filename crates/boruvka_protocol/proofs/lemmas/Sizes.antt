-- How many nodes a class has: those of two of its parts, at least.
use Rattle.std.proofs.Common.{◌≡◌, ℕ, zero, suc, ◌+◌, ◌^◌, ◌<◌, ◌≤◌, inr, ⊎_elim, Bool, true, false, List, [], ◌∷◌, length, arith}
use Rattle.std.specs.List.{Contains, filter}
use Rattle.std.proofs.lemmas.Bool.{cases_Bool, cases_lt}
use Rattle.std.proofs.lemmas.List.Elements.{All-contains}
use Rattle.std.proofs.lemmas.List.Kept.{AllPairs-filter}
use Rattle.std.proofs.lemmas.List.FromFn.{length-range_with_len}
use Rattle.ghs_graph.specs.Computing.{joins}
use Rattle.ghs_graph.specs.declared.key.Key.{Key}
use Rattle.ghs_graph.specs.Links.{Same, Over, Back}
use Rattle.ghs_graph.specs.Graph.{Shape, IsGraph, nodes_of}
use Rattle.ghs_graph.proofs.lemmas.Members.{in_filter, filter_has}
use Rattle.ghs_graph.proofs.lemmas.Joining.{joined_then, joined_back, joined_nodes}
use Rattle.ghs_graph.specs.Bound.{IsFloorLog2}
use Rattle.ghs_graph.proofs.lemmas.Logs.{floor_log2_is_one}
use Rattle.ghs_graph.proofs.lemmas.Computing.{nodes_rise, node_in, in_nodes}
use Rattle.boruvka_protocol.specs.Levels.{IsLeastOut, Taken, InClass, HasWayOut, IsOfLevel}
use Rattle.boruvka_protocol.specs.LevelLaws.{ClassesAreLarge, LevelsAreFew, LastLevelIsWhole, LastLevelIsTree, IsLast, NodesHaveOneLast}
use Rattle.boruvka_protocol.proofs.lemmas.Cuts.{leaves_at, taken_links}
use Rattle.boruvka_protocol.proofs.lemmas.Computing.{taken, in_class_tells}
use Rattle.boruvka_protocol.proofs.lemmas.WaysOut.{least_out, way_out_decided, way_out_down, still_in_class, next_of_level, whole_is_tree}

-- Numbers that pass one of two tests, but never both, pass a third.

passes_each : (p q r : ℕ → Bool) → ((x : ℕ) → p x ≡ true → r x ≡ true) → ((x : ℕ) → q x ≡ true → r x ≡ true)
    → ((x : ℕ) → p x ≡ true → q x ≡ true → ⊥) → (xs : List ℕ) → length (filter p xs) + length (filter q xs) ≤ length (filter r xs)
passes_each p q r f g never [] = omega arith
passes_each p q r f g never (x ∷ xs) =
    let rest : length (filter p xs) + length (filter q xs) ≤ length (filter r xs) = passes_each p q r f g never xs in
    ⊎_elim
    (λ (a : p x ≡ true).
    ⊎_elim (λ b. absurd (never x a b)) (λ (b : q x ≡ false). rw (a, b, f x a) (omega (arith, rest))) (cases_Bool (q x)))
    (λ (a : p x ≡ false). ⊎_elim
    (λ (b : q x ≡ true). rw (a, b, g x b) (omega (arith, rest)))
    (λ (b : q x ≡ false). ⊎_elim
    (λ (c : r x ≡ true). rw (a, b, c) (omega (arith, rest)))
    (λ (c : r x ≡ false). rw (a, b, c) (omega (arith, rest)))
    (cases_Bool (r x)))
    (cases_Bool (q x)))
    (cases_Bool (p x))

few_pass : (p : ℕ → Bool) (xs : List ℕ) → length (filter p xs) ≤ length xs
few_pass p [] = omega arith
few_pass p (x ∷ xs) =
    let rest : length (filter p xs) ≤ length xs = few_pass p xs in
    ⊎_elim (λ (a : p x ≡ true). rw a (omega (arith, rest))) (λ (a : p x ≡ false). rw a (omega (arith, rest))) (cases_Bool (p x))

-- Classes.

module _ (g : Shape) (ok : IsGraph g) where
  -- the nodes of a class
  abbrev class_of : ℕ → ℕ → List ℕ
  class_of l v = filter (joins (taken g.keys l) v) (nodes_of g)

  -- a node in another part of the class
  record Beyond (l v : ℕ) : Type 0 where
    node : ℕ
    inside : InClass g.keys (suc l) v node
    apart : InClass g.keys l v node → ⊥

  beyond : (l v : ℕ) → HasWayOut g.keys l v → Beyond l v
  beyond l v h = over (least_out g.keys l v h)
    where
      over : (k : Key) × IsLeastOut g.keys (Taken g.keys l) v k → Beyond l v
      over m = ⊎_elim
          (λ p. record { node = m.0.b; inside = joined_then (still_in_class g.keys l p.0) (Over m.0 (inr (v, m.1)) Same); apart = p.1 })
          (λ p. record { node = m.0.a; inside = joined_then (still_in_class g.keys l p.0) (Back m.0 (inr (v, m.1)) Same); apart = p.1 })
          m.1.leaves

  size : (l v : ℕ) → 1 ≤ v → v ≤ g.nodes → IsOfLevel g.keys l v → 2 ^ l ≤ length (class_of l v)
  size zero v low high h =
      let has : Contains (class_of zero v) v =
      filter_has (joins (taken g.keys zero) v) (nodes_of g) v (in_nodes g.nodes v low high) ((in_class_tells g.keys zero v v).1 Same) in
      omega (arith, has.1)
  size (suc l) v low high h =
      let here : IsOfLevel g.keys l v × HasWayOut g.keys l v = h v Same in
      let b : Beyond l v = beyond l v here.1 in
      let is : (1 ≤ b.node) × (b.node ≤ g.nodes) = joined_nodes g.nodes g.keys ok.among low high (taken_links g.keys (suc l) b.inside) in
      let one : 2 ^ l ≤ length (class_of l v) = size l v low high here.0 in
      let other : 2 ^ l ≤ length (class_of l b.node) = size l b.node is.0 is.1 (h b.node b.inside).0 in
      let both : length (class_of l v) + length (class_of l b.node) ≤ length (class_of (suc l) v) =
      passes_each (joins (taken g.keys l) v) (joins (taken g.keys l) b.node) (joins (taken g.keys (suc l)) v)
      (λ x e. (in_class_tells g.keys (suc l) v x).1 (still_in_class g.keys l ((in_class_tells g.keys l v x).0 e)))
      (λ x e. (in_class_tells g.keys (suc l) v x).1 (joined_then b.inside (still_in_class g.keys l ((in_class_tells g.keys l b.node x).0 e))))
      (λ x e f. b.apart (joined_then ((in_class_tells g.keys l v x).0 e) (joined_back ((in_class_tells g.keys l b.node x).0 f)))) (nodes_of g) in
      omega (arith, one, other, both)

  few_levels : (l v k : ℕ) → 1 ≤ v → v ≤ g.nodes → IsOfLevel g.keys l v → 2 ^ l ≤ g.nodes
  few_levels l v k low high h =
      omega (arith, size l v low high h, few_pass (joins (taken g.keys l) v) (nodes_of g), length-range_with_len 1 g.nodes)

pub classes_are_large : ClassesAreLarge
classes_are_large g ok l v low high h = record {
  nodes = class_of g ok l v;
  rising = AllPairs-filter (λ u w. u < w) (joins (taken g.keys l) v) (nodes_of g) (nodes_rise g.nodes);
  each = λ u is.
      let i : Contains (nodes_of g) u × (joins (taken g.keys l) v u ≡ true) = in_filter (joins (taken g.keys l) v) (nodes_of g) u is in
      let b : (1 ≤ u) × (u ≤ g.nodes) = node_in g.nodes u i.0 in
      (b.0, b.1, (in_class_tells g.keys l v u).0 i.1);
  many = size g ok l v low high h;
}

pub levels_are_few : LevelsAreFew
levels_are_few g ok l v k low high h log2 = log2.greatest l (few_levels g ok l v k low high h)

-- the end of a way out inside is a node, and its class would be of the next level
pub last_level_is_whole : LastLevelIsWhole
last_level_is_whole g ok k l v log2 le h = ⊎_elim (λ p. at h.0.a p.0 ends.0 a_low) (λ p. at h.0.b p.0 b_low ends.2) h.2
  where
    ends : (1 ≤ h.0.a) × (h.0.a < h.0.b) × (h.0.b ≤ g.nodes)
    ends = All-contains (λ (j : Key). (1 ≤ j.a) × (j.a < j.b) × (j.b ≤ g.nodes)) g.keys h.0 ok.among h.1

    a_low : h.0.a ≤ g.nodes
    a_low = omega (arith, ends.1, ends.2)

    b_low : 1 ≤ h.0.b
    b_low = omega (arith, ends.0, ends.1)

    at : (u : ℕ) → InClass g.keys l v u → 1 ≤ u → u ≤ g.nodes → ⊥
    at u way low high =
        let up : suc l ≤ k = levels_are_few g ok (suc l) u k low high (next_of_level g.keys l u (h.0, h.1, leaves_at h.0 way h.2)) log2 in
        omega (arith, up, le)

pub last_level_is_tree : LastLevelIsTree
last_level_is_tree g ok k l log2 le = whole_is_tree g ok l (λ v h. last_level_is_whole g ok k l v log2 le h)

-- The last level: as long as there is a way out the next level is reached, and levels are few.

-- from a level that is reached, in so many more
last_from : (g : Shape) → IsGraph g → (v k : ℕ) → IsFloorLog2 g.nodes k → (n l : ℕ) → n + l ≡ k → IsOfLevel g.keys l v → (m : ℕ) × IsLast g.keys m v
last_from g ok v k log2 zero l e h =
    (l, record { level = h; whole = last_level_is_whole g ok k l v log2 (omega (arith, e)) })
last_from g ok v k log2 (suc n) l e h = ⊎_elim
    (λ out. last_from g ok v k log2 n (suc l) (omega (arith, e)) (next_of_level g.keys l v out))
    (λ whole. (l, record { level = h; whole = whole }))
    (way_out_decided g.keys l v)

-- below a level that is reached there was a way out
before_level : (ks : List Key) (l m v : ℕ) → l < m → IsOfLevel ks m v → HasWayOut ks l v
before_level ks l zero v lt h = absurd (omega arith)
before_level ks l (suc m) v lt h = way_out_down ks l m v (omega arith) (h v Same).1

last_is_one : (ks : List Key) (v l m : ℕ) → IsLast ks l v → IsLast ks m v → l ≡ m
last_is_one ks v l m p q = ⊎_elim
    (λ e. absurd (p.whole (before_level ks l m v e q.level)))
    (λ ge. ⊎_elim (λ lt. absurd (q.whole (before_level ks m l v lt p.level))) (λ le. omega (arith, ge, le)) (cases_lt m l))
    (cases_lt l m)

pub nodes_have_one_last : NodesHaveOneLast
nodes_have_one_last g ok v =
    let log2 = floor_log2_is_one g.nodes ok.some in
    let last = last_from g ok v log2.0 log2.1 log2.0 0 (omega arith) tt in
    (last.0, last.1, λ m h. last_is_one g.keys v m last.0 h last.1)
