-- What is wrong with the end of a run, found link by link and node by node.
use Rattle.std.proofs.Common.{◌≡◌, ◌∙◌, ◌+◌, ◌<◌, ◌≤◌, ◌==◌, ◌&&◌, ◌≢◌, ℕ, zero, suc, Bool, true, false, not, cond, List, [], ◌∷◌, ap, ap₂, arith, filter, get_or, length, map, refl, subst, sym, ⊎_elim, Some, None}
use Rattle.std.proofs.lemmas.Bool.{cases_lt, eq-eqb, ne_eqb}
use Rattle.std.proofs.lemmas.List.{get_or_default}
use Rattle.std.proofs.lemmas.List.Elements.{All-filter}
use Rattle.std.proofs.lemmas.List.Kept.{AllPairs-filter}
use Rattle.ghs_graph.specs.Components.{IsRoot}
use Rattle.ghs_graph.specs.Graph.{IsGraph, Shape}
use Rattle.ghs_graph.specs.Key.{key_lt}
use Rattle.ghs_graph.specs.Links.{AreAmong, IsRising, Same}
use Rattle.ghs_graph.specs.declared.key.Key.{Key}
use Rattle.ghs_graph.proofs.lemmas.Components.{nodes_have_roots, root_is_one}
use Rattle.own_book.specs.Entry.{Entry}
use Rattle.own_rules.specs.Check.{AreRootsBy, count_nodes, first_node, is_misled, keys_where, leaders, leads_for, links_seen, seen, sooner}
use Rattle.own_rules.specs.declared.check.Seen.{Seen}
use Rattle.own_rules.specs.declared.node.Node.{Node}
use Rattle.own_rules.specs.Words.{mark_at}
use Rattle.peer_report.specs.Links.{on_link}
use Rattle.peer_report.specs.declared.links.LinkPorts.{LinkPorts}
use Rattle.std.specs.Prelude.{codes}
use Rattle.std.specs.Str.{bytes_eq}

-- Links.

-- what the ends of a link mark, by its ports
abbrev pub seen_on : List Entry → (ℕ → Node) → LinkPorts → Seen
seen_on book node l = record {
  key = l.key;
  at_a = bytes_eq (mark_at book (node l.key.a).state l.at_a) (codes "branch");
  at_b = bytes_eq (mark_at book (node l.key.b).state l.at_b) (codes "branch");
}

module _ (book : List Entry) (g : Shape) (node : ℕ → Node) where
  pub seen_all : (ks : List Key) → map (seen_on book node) (map (on_link g.keys) ks) ≡ map (seen book g node) ks
  seen_all [] = refl
  seen_all (k ∷ ks) = ap (λ xs. seen book g node k ∷ xs) (seen_all ks)

  -- the keys of the links that are wanted are some of the graph's, in its order
  kept : (b : Bool) (k : Key) (xs : List Seen) (ys : List Key) → map (λ (s : Seen). s.key) xs ≡ ys →
      map (λ (s : Seen). s.key) (cond b (seen book g node k ∷ xs) xs) ≡ cond b (k ∷ ys) ys
  kept true k xs ys is = ap (λ zs. k ∷ zs) is
  kept false k xs ys is = is

  wanted_keys : (p : Seen → Bool) (ks : List Key) → keys_where p (map (seen book g node) ks) ≡ filter (λ k. p (seen book g node k)) ks
  wanted_keys p [] = refl
  wanted_keys p (k ∷ ks) = kept (p (seen book g node k)) k (filter p (map (seen book g node) ks)) _ (wanted_keys p ks)

  pub wanted_rise : (p : Seen → Bool) → IsGraph g → IsRising (keys_where p (links_seen book g node))
  wanted_rise p ok =
      subst IsRising (sym (wanted_keys p g.keys))
      (AllPairs-filter (λ (j k : Key). key_lt j k ≡ true) (λ k. p (seen book g node k)) g.keys ok.rising)

  pub wanted_among : (p : Seen → Bool) → IsGraph g → AreAmong g.nodes (keys_where p (links_seen book g node))
  wanted_among p ok =
      subst (AreAmong g.nodes) (sym (wanted_keys p g.keys))
      (All-filter (λ k. p (seen book g node k)) (λ (k : Key). (1 ≤ k.a) × (k.a < k.b) × (k.b ≤ g.nodes)) g.keys ok.among)

-- The first node of which something holds.
module _ (p : ℕ → Bool) where
  first_stays : (v n most : ℕ) → first_node p n ≡ Some v → n ≤ most → first_node p most ≡ Some v
  first_stays v n zero found le = let none : zero ≡ n = omega (arith, le) in ap (first_node p) none ∙ found
  first_stays v n (suc m) found le =
      ⊎_elim
      (λ (less : m < n). let same : suc m ≡ n = omega (arith, less, le) in ap (first_node p) same ∙ found)
      (λ (ge : n ≤ m). ap (λ o. sooner o (p (suc m)) (suc m)) (first_stays v n m found ge))
      (cases_lt m n)

  pub first_here : (n most : ℕ) → first_node p n ≡ None → p (n + 1) ≡ true → n < most → first_node p most ≡ Some (n + 1)
  first_here n most none is lt =
      let next : n + 1 ≡ suc n = omega arith in
      let found : first_node p (suc n) ≡ Some (suc n) =
      ap (λ o. sooner o (p (suc n)) (suc n)) none ∙ ap (λ b. cond b (Some (suc n)) None) (ap p (sym next) ∙ is) in
      first_stays (suc n) (suc n) most found (omega (arith, lt)) ∙ ap Some (sym next)

-- Leaders.
module _ (book : List Entry) (g : Shape) (node : ℕ → Node) where
  -- how many of the nodes 1 to i lead, of each component
  pub record Counted (i : ℕ) (counts : List ℕ) : Type 0 where
    pub places : length counts ≡ g.nodes + 1
    pub each : (root : ℕ → ℕ) → AreRootsBy g root → (r : ℕ) → r ≤ g.nodes → get_or counts r 0 ≡ count_nodes (leads_for book g node root r) i

  -- a root for each node
  abbrev pub root_of : ℕ → ℕ
  root_of v = (nodes_have_roots g.keys v).0

  pub roots_are : AreRootsBy g root_of
  roots_are v lo hi = (nodes_have_roots g.keys v).1

  -- so many have been counted at most
  pub counted_few : (i : ℕ) (counts : List ℕ) (r : ℕ) → Counted i counts → r ≤ g.nodes → get_or counts r 0 ≤ i
  counted_few i counts r so hi =
      let each = so.each root_of roots_are r hi in let few = at_most (leads_for book g node root_of r) i in omega (arith, each, few)
    where
      one : (b : Bool) → cond b 1 0 ≤ 1
      one true = omega arith
      one false = omega arith

      at_most : (p : ℕ → Bool) (n : ℕ) → count_nodes p n ≤ n
      at_most p zero = omega arith
      at_most p (suc n) = let rest = at_most p n in let here = one (p (suc n)) in omega (arith, rest, here)

  -- what stands at a root that a node has
  pub root_fits : (i at : ℕ) (counts : List ℕ) → Counted i counts → i < g.nodes → IsRoot g.keys (i + 1) at → at < length counts
  root_fits i at counts so lt top = let low = top.least (i + 1) Same in let places = so.places in omega (arith, low, lt, places)

  pub count_fits : (i at old : ℕ) (counts : List ℕ) → Counted i counts → i < g.nodes → IsRoot g.keys (i + 1) at → old ≡ get_or counts at old → old ≤ i
  count_fits i at old counts so lt top is =
      let fits = root_fits i at counts so lt top in
      let read = is ∙ get_or_default counts at old 0 fits in
      let low = top.least (i + 1) Same in
      let few = counted_few i counts at so (omega (arith, low, lt)) in
      omega (arith, read, few)

  -- the component of node i + 1, which is its root, is the first with another number of leaders than one
  pub misled_at : (i at many : ℕ) (counts : List ℕ) → i < g.nodes → IsRoot g.keys (i + 1) at → length counts ≡ g.nodes + 1 →
      ((root : ℕ → ℕ) → AreRootsBy g root → (r : ℕ) → r ≤ g.nodes → get_or counts r 0 ≡ leaders book g node root r) →
      many ≡ get_or counts (i + 1) many → first_node (is_misled book g node root_of) i ≡ None → at ≡ i + 1 → many ≢ 1 →
      (first_node (is_misled book g node root_of) g.nodes ≡ Some (i + 1)) × (many ≡ leaders book g node root_of (i + 1))
  misled_at i at many counts lt top places each is none own odd =
      let fits : i + 1 < length counts = omega (arith, lt, places) in
      let read : many ≡ leaders book g node root_of (i + 1) =
      is ∙ get_or_default counts (i + 1) many 0 fits ∙ each root_of roots_are (i + 1) (omega (arith, lt)) in
      let same : root_of (i + 1) ≡ at =
      root_is_one g.keys (i + 1) (root_of (i + 1)) at (roots_are (i + 1) (omega arith) (omega (arith, lt))) top in
      let misled : is_misled book g node root_of (i + 1) ≡ true =
      ap₂ (λ r n. (r == i + 1) && not (n == 1)) same (sym read)
      ∙ ap₂ (λ a b. a && not b) (eq-eqb at (i + 1) own) (ne_eqb many 1 odd) in
      (first_here (is_misled book g node root_of) i g.nodes none misled lt, read)
