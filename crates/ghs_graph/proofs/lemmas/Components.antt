-- Roots and components: there are such, and each link of the forest makes one component fewer.
use Rattle.std.proofs.Common.{◌≡◌, ◌≢◌, ℕ, zero, suc, ◌<◌, ◌≤◌, ◌+◌, ◌⊎◌, inl, inr, ⊎_elim, Bool, true, not, ◌==◌, List, [], ◌∷◌, ◌++◌, length, take, get_or, refl, sym, ◌∙◌, ap, subst, arith, eq-eqb, ne_eqb, add-one}
use Rattle.std.specs.List.{Contains, filter, range_with_len}
use Rattle.std.proofs.lemmas.Bool.{cases_Bool, both_ways, cases_eq, cases_lt, cases_order, not-true, not_from_false, eqb-false}
use Rattle.std.proofs.lemmas.List.{take_more, take_all, length_push}
use Rattle.std.proofs.lemmas.List.Kept.{AllPairs-filter}
use Rattle.std.proofs.lemmas.List.Elements.{All-take, Contains-push_cases, Contains-append_left, Contains-push}
use Rattle.std.proofs.lemmas.List.FromFn.{length-range_with_len}
use Rattle.ghs_graph.specs.declared.key.Key.{Key}
use Rattle.ghs_graph.specs.Key.{key_lt, no_key}
use Rattle.ghs_graph.specs.Links.{Joined, Same, Over, links, IsTree, AreAmong}
use Rattle.ghs_graph.specs.Graph.{Shape, IsGraph}
use Rattle.ghs_graph.specs.Components.{IsRoot, HasComponents}
use Rattle.ghs_graph.specs.Laws.{NodesHaveRoots, RootsTell, ForestHasFewer}
use Rattle.ghs_graph.proofs.lemmas.Members.{nothing_in, in_filter, filter_has}
use Rattle.ghs_graph.proofs.Rising.{same_rising, length-without}
use Rattle.ghs_graph.proofs.lemmas.Keys.{below_at, tree_is_same}
use Rattle.ghs_graph.proofs.lemmas.Joining.{joined_nodes, joined_then, joined_back, joined_within, joined_through, joined_by_none, one_more, joins_tells, decided}
use Rattle.ghs_graph.specs.Computing.{joins}
use Rattle.ghs_graph.proofs.lemmas.Trees.{tree_of_none, tree_takes, tree_leaves}
use Rattle.ghs_graph.proofs.lemmas.Computing.{nodes_rise, node_in, in_nodes}

-- Roots.

-- the least of the numbers below n that pass, if one does
data Found (test : ℕ → Bool) (n : ℕ) : Type 0 where
  At : (m : ℕ) → m < n → test m ≡ true → ((u : ℕ) → u < m → test u ≡ true → ⊥) → Found test n
  Nowhere : ((u : ℕ) → u < n → test u ≡ true → ⊥) → Found test n

found : (test : ℕ → Bool) (n : ℕ) → Found test n
found test zero = Nowhere (λ u lt e. absurd (omega arith))
found test (suc n) = next (found test n)
  where
    next : Found test n → Found test (suc n)
    next (At m lt e before) = At m (omega arith) e before
    next (Nowhere none) = ⊎_elim
        (λ e. At n (omega arith) e none)
        (λ e.
        Nowhere
        (λ u lt p.
        ⊎_elim (λ (q : u ≡ n). both_ways (test n) e (subst (λ x. test x ≡ true) q p)) (λ ne. none u (omega arith) p) (cases_eq u n)))
        (cases_Bool (test n))

pub nodes_have_roots : NodesHaveRoots
nodes_have_roots ks v = root (found (joins ks v) (suc v))
  where
    root : Found (joins ks v) (suc v) → (r : ℕ) × IsRoot ks v r
    root (At r lt e before) = (
      r,
      record {
        joined = (joins_tells ks v r).0 e;
        least = λ u way. ⊎_elim (λ l. absurd (before u l ((joins_tells ks v u).1 way))) (λ le. le) (cases_lt u r);
      },
    )
    root (Nowhere none) = absurd (none v (omega arith) ((joins_tells ks v v).1 Same))

pub roots_tell : RootsTell
roots_tell ks u v r s p q = (
  λ way.
      let low : s ≤ r = q.least r (joined_then (joined_back way) p.joined) in let high : r ≤ s = p.least s (joined_then way q.joined) in omega arith,
  λ e. joined_then p.joined (joined_back (subst (λ x. Joined (links ks) v x) (sym e) q.joined)),
)

pub root_is_one : (ks : List Key) (v r s : ℕ) → IsRoot ks v r → IsRoot ks v s → r ≡ s
root_is_one ks v r s p q = (roots_tell ks v v r s p q).0 Same

-- the root of a node is a node
pub root_low : (n : ℕ) (ks : List Key) (v r : ℕ) → AreAmong n ks → 1 ≤ v → v ≤ n → IsRoot ks v r → 1 ≤ r
root_low n ks v r among low high is = (joined_nodes n ks among low high is.joined).0

-- a root is its own
root_own : (ks : List Key) (v r : ℕ) → IsRoot ks v r → IsRoot ks r r
root_own ks v r h = record { joined = Same; least = λ u way. h.least u (joined_then h.joined way) }

-- Links that join the same.

root_like : (ks js : List Key) → ((u v : ℕ) → Joined (links ks) u v → Joined (links js) u v)
    → ((u v : ℕ) → Joined (links js) u v → Joined (links ks) u v) → (v r : ℕ) → IsRoot ks v r → IsRoot js v r
root_like ks js f g v r h = record { joined = f v r h.joined; least = λ u way. h.least u (g v u way) }

components_like : (n : ℕ) (ks js : List Key) (c : ℕ) → ((u v : ℕ) → Joined (links ks) u v → Joined (links js) u v)
    → ((u v : ℕ) → Joined (links js) u v → Joined (links ks) u v) → HasComponents (record { nodes = n; keys = ks }) c
    → HasComponents (record { nodes = n; keys = js }) c
components_like n ks js c f g h = record {
  leasts = h.leasts;
  rising = h.rising;
  has = λ v o. let t = h.has v o in (t.0, t.1, root_like ks js f g v v t.2);
  all = λ v low high r. h.all v low high (root_like js ks g f v v r);
  number = h.number;
}

-- A link between nodes that weren't joined.

-- the links js are ks and one more, whose ends are p and q
record IsBridged (ks js : List Key) (p q : ℕ) : Type 0 where
  wider : {u v : ℕ} → Joined (links ks) u v → Joined (links js) u v
  over : {u v : ℕ} → Joined (links js) u v
      → Joined (links ks) u v ⊎ ((Joined (links ks) u p × Joined (links ks) q v) ⊎ (Joined (links ks) u q × Joined (links ks) p v))
  joins : Joined (links js) p q

bridged : (ks : List Key) (k : Key) → IsBridged ks (ks ++ k ∷ []) k.a k.b
bridged ks k = record {
  wider = λ way. joined_within (λ j s. Contains-append_left ks (k ∷ []) j s) way;
  over = λ way. one_more (links ks) (links (ks ++ k ∷ [])) k (λ j s. Contains-push_cases ks k j s) way;
  joins = Over k (Contains-push ks k) Same;
}

bridged_back : (ks js : List Key) (p q : ℕ) → IsBridged ks js p q → IsBridged ks js q p
bridged_back ks js p q b = record {
  wider = λ way. b.wider way;
  over = λ way. ⊎_elim inl (λ o. inr (⊎_elim inr inl o)) (b.over way);
  joins = joined_back b.joins;
}

module _ (ks js : List Key) (p q r s : ℕ) (b : IsBridged ks js p q) (of_p : IsRoot ks p r) (of_q : IsRoot ks q s) (lt : r < s) where
  -- the greater root is none any more
  root_left : (v : ℕ) → IsRoot js v v → IsRoot ks v v × (v ≢ s)
  root_left v h = (
    record { joined = Same; least = λ u way. h.least u (b.wider way) },
    λ e.
        let low : v ≤ r =
        h.least r
        (subst (λ x. Joined (links js) x r) (sym e)
        (joined_then (b.wider (joined_back of_q.joined)) (joined_then (joined_back b.joins) (b.wider of_p.joined)))) in
        absurd (omega arith),
  )

  -- the others stay
  root_stays : (v : ℕ) → IsRoot ks v v → v ≢ s → IsRoot js v v
  root_stays v h ne = record {
    joined = Same;
    least = λ u way. ⊎_elim
        (λ w. h.least u w)
        (λ o. ⊎_elim
        (λ w. let low : v ≤ r = h.least r (joined_then w.0 of_p.joined) in let high : s ≤ u = of_q.least u w.1 in omega arith)
        (λ w. absurd (ne (root_is_one ks q v s (record { joined = joined_back w.0; least = λ x way'. h.least x (joined_then w.0 way') }) of_q)))
        o)
        (b.over way);
  }

  components_fewer : (n c : ℕ) → 1 ≤ s → s ≤ n → HasComponents (record { nodes = n; keys = ks }) c
      → (d : ℕ) × HasComponents (record { nodes = n; keys = js }) d × (d + 1 ≡ c)
  components_fewer n c low high h = (
    length (filter other h.leasts),
    record {
      leasts = filter other h.leasts;
      rising = AllPairs-filter (λ u v. u < v) other h.leasts h.rising;
      has =
          λ v o. let i = in_filter other h.leasts v o in let t = h.has v i.0 in (t.0, t.1, root_stays v t.2 (eqb-false v s (not-true (v == s) i.1)));
      all = λ v vl vh w. let i = root_left v w in filter_has other h.leasts v (h.all v vl vh i.0) (not_from_false (v == s) (ne_eqb v s i.1));
      number = refl;
    },
    length-without (λ u v. u < v) (λ x l. absurd (omega arith)) (λ x y l m. absurd (omega arith)) other s (ap not (eq-eqb s s refl))
        (λ x ne. not_from_false (x == s) (ne_eqb x s ne)) h.leasts h.rising (h.all s low high (root_own ks q s of_q))
        ∙ h.number,
  )
    where
      other : ℕ → Bool
      other v = not (v == s)

-- No link.

components_of_none : (n : ℕ) → HasComponents (record { nodes = n; keys = [] }) n
components_of_none n = record {
  leasts = range_with_len 1 n;
  rising = nodes_rise n;
  has = λ v h. let b = node_in n v h in (b.0, b.1, alone v);
  all = λ v low high r. in_nodes n v low high;
  number = length-range_with_len 1 n;
}
  where
    alone : (v : ℕ) → IsRoot [] v v
    alone v = record { joined = Same; least = λ u way. let e : v ≡ u = joined_by_none (λ k s. nothing_in k s) way in omega arith }

-- One more link after another.

record IsCounted (n : ℕ) (ks : List Key) : Type 0 where
  tree : List Key
  is : IsTree ks tree
  count : ℕ
  has : HasComponents (record { nodes = n; keys = ks }) count
  fewer : length tree + count ≡ n

counted_none : (n : ℕ) → IsCounted n []
counted_none n = record { tree = []; is = tree_of_none; count = n; has = components_of_none n; fewer = omega arith }

counted_more : (n : ℕ) (ks : List Key) (k : Key) → AreAmong n ks → (1 ≤ k.a) × (k.a < k.b) × (k.b ≤ n)
    → ((j : Key) → Contains ks j → key_lt j k ≡ true) → IsCounted n ks → IsCounted n (ks ++ k ∷ [])
counted_more n ks k among ends below c = ⊎_elim still fewer (decided (joins ks k.a k.b) (joins_tells ks k.a k.b))
  where
    more : List Key
    more = ks ++ k ∷ []

    still : Joined (links ks) k.a k.b → IsCounted n more
    still way = record {
      tree = c.tree;
      is = tree_leaves ks c.tree k below c.is way;
      count = c.count;
      has = components_like n ks more c.count
          (λ u v w. joined_within (λ j s. Contains-append_left ks (k ∷ []) j s) w)
          (λ u v w.
          joined_through
          (λ j s. ⊎_elim (λ o. Over j o Same) (λ e. subst (λ (x : Key). Joined (links ks) x.a x.b) e way) (Contains-push_cases ks k j s)) w)
          c.has;
      fewer = c.fewer;
    }

    root_a : (r : ℕ) × IsRoot ks k.a r
    root_a = nodes_have_roots ks k.a

    root_b : (r : ℕ) × IsRoot ks k.b r
    root_b = nodes_have_roots ks k.b

    node_a : (1 ≤ root_a.0) × (root_a.0 ≤ n)
    node_a = joined_nodes n ks among ends.0 (omega (arith, ends.1, ends.2)) root_a.1.joined

    node_b : (1 ≤ root_b.0) × (root_b.0 ≤ n)
    node_b = joined_nodes n ks among (omega (arith, ends.0, ends.1)) ends.2 root_b.1.joined

    longer : (Joined (links ks) k.a k.b → ⊥) → (d : ℕ) × HasComponents (record { nodes = n; keys = more }) d × (d + 1 ≡ c.count) → IsCounted n more
    longer apart h = record {
      tree = c.tree ++ k ∷ [];
      is = tree_takes ks c.tree k below c.is apart;
      count = h.0;
      has = h.1;
      fewer = omega (arith, length_push c.tree k, h.2, c.fewer);
    }

    fewer : (Joined (links ks) k.a k.b → ⊥) → IsCounted n more
    fewer apart = longer apart (⊎_elim
        (λ e. absurd (apart ((roots_tell ks k.a k.b root_a.0 root_b.0 root_a.1 root_b.1).1 e)))
        (λ o. ⊎_elim
        (λ lt. components_fewer ks more k.a k.b root_a.0 root_b.0 (bridged ks k) root_a.1 root_b.1 lt n c.count node_b.0 node_b.1 c.has)
        (λ lt.
        components_fewer ks more k.b k.a root_b.0 root_a.0 (bridged_back ks more k.a k.b (bridged ks k)) root_b.1 root_a.1 lt n c.count node_a.0
        node_a.1 c.has)
        o)
        (cases_order root_a.0 root_b.0))

module _ (g : Shape) (ok : IsGraph g) where
  counted_up_to : (i : ℕ) → i ≤ length g.keys → IsCounted g.nodes (take i g.keys)
  counted_up_to zero le = counted_none g.nodes
  counted_up_to (suc i) le =
      let lt : i < length g.keys = omega arith in
      let k : Key = get_or g.keys i no_key in
      let ends : (1 ≤ k.a) × (k.a < k.b) × (k.b ≤ g.nodes) = ok.among i no_key lt in
      subst (IsCounted g.nodes) (sym (ap (λ m. take m g.keys) (sym (add-one i)) ∙ take_more g.keys i no_key lt))
      (counted_more g.nodes (take i g.keys) k (All-take (λ (j : Key). (1 ≤ j.a) × (j.a < j.b) × (j.b ≤ g.nodes)) i g.keys ok.among) ends
      (below_at g.keys i no_key ok.rising lt) (counted_up_to i (omega arith)))

  counted : IsCounted g.nodes g.keys
  counted = subst (IsCounted g.nodes) (take_all (length g.keys) g.keys (omega arith)) (counted_up_to (length g.keys) (omega arith))

-- there is one number of components
pub components_are_one : (g : Shape) (c d : ℕ) → HasComponents g c → HasComponents g d → c ≡ d
components_are_one g c d p q =
    let within : (x y : ℕ) (f : HasComponents g x) (h : HasComponents g y) (v : ℕ) → Contains f.leasts v → Contains h.leasts v =
    λ x y f h v o. let t = f.has v o in h.all v t.0 t.1 t.2 in
    sym p.number
    ∙ ap (λ (xs : List ℕ). length xs)
    (same_rising (λ u v. u < v) (λ x l. absurd (omega arith)) (λ x y l m. absurd (omega arith)) p.leasts q.leasts p.rising q.rising
    (within c d p q) (within d c q p))
    ∙ q.number

pub forest_has_fewer : ForestHasFewer
forest_has_fewer g ok = (
  c.count,
  c.has,
  λ d tree h t.
      let same : d ≡ c.count = components_are_one g d c.count h c.has in
      (same, ap (λ (ks : List Key). length ks + d) (tree_is_same g.keys tree c.tree t c.is) ∙ ap (λ m. length c.tree + m) same ∙ c.fewer),
)
  where
    c : IsCounted g.nodes g.keys
    c = counted g ok
