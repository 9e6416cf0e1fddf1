-- Which nodes have halted, one node more at a time.
use Rattle.std.proofs.Common.{◌≡◌, ◌≢◌, ℕ, suc, ◌+◌, ◌<◌, ◌≤◌, ◌↔◌, Bool, true, false, not, cond, ◌==◌, List, [], ◌∷◌, length, get_or, set, replicate, Option, Some, None, min, refl, sym, ◌∙◌, ap, ⊎_elim, arith, get_or-set_same, get_or-set_other, length-set, eq-eqb, IsTrue}
use Rattle.std.specs.List.{AllPairs, Contains, count_by}
use Rattle.std.proofs.lemmas.Bool.{cases_eq, cases_lt, cases_Bool, both_ways, eqb-true, or_cases}
use Rattle.std.proofs.lemmas.Bool.Decides.{nat_tests}
use Rattle.std.proofs.lemmas.List.{get_or-replicate, length-replicate}
use Rattle.std.proofs.lemmas.List.Sums.{sum_by-cons}
use Rattle.ghs_graph.specs.Graph.{Shape, IsGraph}
use Rattle.ghs_graph.specs.Links.{Joined, Same, links}
use Rattle.ghs_graph.specs.Components.{IsRoot, HasComponents}
use Rattle.ghs_graph.proofs.lemmas.Members.{first_in, later_in, in_cases, nothing_in}
use Rattle.ghs_graph.proofs.lemmas.Joining.{joined_then, joined_back, joined_nodes}
use Rattle.ghs_graph.proofs.lemmas.Components.{nodes_have_roots}
use Rattle.ghs_core.specs.declared.halts.Halts.{Halts}
use Rattle.ghs_core.specs.Halts.{IsLeast, HasOne, AreHalts, is_running, AreHaltsOfSome, none_halted, also, with_node, lesser}

-- Counts over a rising list.

count_all : (p : ℕ → Bool) (xs : List ℕ) → ((x : ℕ) → Contains xs x → p x ≡ true) → count_by p xs ≡ length xs
count_all p [] h = refl
count_all p (x ∷ xs) h =
    sum_by-cons (λ y. cond (p y) 1 0) x xs ∙
    rw (h x (first_in x xs)) (let rest = count_all p xs (λ y c. h y (later_in x y xs c)) in omega (arith, rest))

count_none : (p : ℕ → Bool) (xs : List ℕ) → ((x : ℕ) → Contains xs x → p x ≡ false) → count_by p xs ≡ 0
count_none p [] h = refl
count_none p (x ∷ xs) h =
    sum_by-cons (λ y. cond (p y) 1 0) x xs ∙
    rw (h x (first_in x xs)) (let rest = count_none p xs (λ y c. h y (later_in x y xs c)) in omega (arith, rest))

-- where one passes, the count isn't 0
count_some : (p : ℕ → Bool) (xs : List ℕ) (r : ℕ) → Contains xs r → p r ≡ true → 0 < count_by p xs
count_some p [] r c e = absurd (nothing_in r c)
count_some p (x ∷ xs) r c e =
    let all = sum_by-cons (λ y. cond (p y) 1 0) x xs in
    ⊎_elim
    (λ o. let rest = count_some p xs r o e in omega (arith, all, rest))
    (λ (q : x ≡ r). let one : ◌≡◌ {A = ℕ} (cond (p x) 1 0) 1 = rw (q, e) refl in omega (arith, all, one))
    (in_cases x r xs c)

count_same : (p q : ℕ → Bool) (xs : List ℕ) → ((x : ℕ) → Contains xs x → p x ≡ q x) → count_by p xs ≡ count_by q xs
count_same p q [] h = refl
count_same p q (x ∷ xs) h =
    let rest = count_same p q xs (λ y c. h y (later_in x y xs c)) in
    sum_by-cons (λ y. cond (p y) 1 0) x xs ∙ rw (h x (first_in x xs), rest) (sym (sum_by-cons (λ y. cond (q y) 1 0) x xs))

rises_head : (x : ℕ) (xs : List ℕ) → AllPairs (λ u v. u < v) (x ∷ xs) → (y : ℕ) → Contains xs y → x < y
rises_head x xs rising y c = let h : x < get_or xs c.0 y = rising 0 (suc c.0) y (omega arith) (omega (arith, c.1)) in omega (arith, h, c.2)

rises_tail : (x : ℕ) (xs : List ℕ) → AllPairs (λ u v. u < v) (x ∷ xs) → AllPairs (λ u v. u < v) xs
rises_tail x xs rising = λ i j d lt within. rising (suc i) (suc j) d (omega arith) (omega arith)

-- one that passed passes no more
count_fewer : (p q : ℕ → Bool) (xs : List ℕ) (r : ℕ) →
    AllPairs (λ u v. u < v) xs →
    Contains xs r →
    p r ≡ true →
    q r ≡ false →
    ((x : ℕ) → x ≢ r → p x ≡ q x) →
    count_by q xs + 1 ≡ count_by p xs
count_fewer p q [] r rising c e f same = absurd (nothing_in r c)
count_fewer p q (x ∷ xs) r rising c e f same =
    let was = sum_by-cons (λ y. cond (p y) 1 0) x xs in
    let now = sum_by-cons (λ y. cond (q y) 1 0) x xs in
    ⊎_elim
    (λ (o : Contains xs r).
    let less = rises_head x xs rising r o in
    let here : ◌≡◌ {A = ℕ} (cond (p x) 1 0) (cond (q x) 1 0) = ap (λ (b : Bool). cond b 1 0) (same x (λ z. absurd (omega (arith, z, less)))) in
    let rest = count_fewer p q xs r (rises_tail x xs rising) o e f same in
    omega (arith, was, now, here, rest))
    (λ (z : x ≡ r).
    let one : ◌≡◌ {A = ℕ} (cond (p x) 1 0) 1 = rw (z, e) refl in
    let none : ◌≡◌ {A = ℕ} (cond (q x) 1 0) 0 = rw (z, f) refl in
    let rest = count_same p q xs (λ y o. same y (λ w. let less = rises_head x xs rising y o in absurd (omega (arith, less, w, z)))) in
    omega (arith, was, now, one, none, rest))
    (in_cases x r xs c)

-- Nodes that have halted.

-- no node has
pub none_are : (g : Shape) →
    IsGraph g →
    (h : Halts) → h.least ≡ None →
    h.ended.items ≡ replicate (g.nodes + 1) false →
    HasComponents g h.running →
    AreHalts g none_halted h
none_are g graph h least ended running = record {
  graph = graph;
  least = rw least (λ v lo hi e. absurd cc);
  places = rw ended (length-replicate (g.nodes + 1) false);
  ended = λ r lo hi root. (λ e. let d : false ≡ true = sym (down r hi) ∙ e in absurd cc, λ one. let e = one.4 in absurd cc);
  running = record {
    count = h.running;
    components = running;
    number = count_all (is_running h.ended.items) running.leasts (λ r c. rw (down r (running.has r c).1) refl) ∙ running.number;
  };
}
  where
    down : (r : ℕ) → r ≤ g.nodes → get_or h.ended.items r true ≡ false
    down r le = rw ended (get_or-replicate (g.nodes + 1) r false true (omega arith))

-- the same nodes have halted
pub are_like : (g : Shape) (halted other : ℕ → Bool) (h : Halts) →
    ((v : ℕ) → 1 ≤ v → v ≤ g.nodes → halted v ≡ other v) →
    AreHalts g halted h →
    AreHalts g other h
are_like g halted other h same are = record {
  graph = are.graph;
  least = least h.least are.least;
  places = are.places;
  ended = λ r lo hi root. (
    λ e. let one = (are.ended r lo hi root).0 e in (one.0, one.1, one.2, one.3, sym (same one.0 one.1 one.2) ∙ one.4),
    λ one. (are.ended r lo hi root).1 (one.0, one.1, one.2, one.3, same one.0 one.1 one.2 ∙ one.4),
  );
  running = are.running;
}
  where
    least : (o : Option ℕ) → IsLeast halted g.nodes o → IsLeast other g.nodes o
    least None none = λ v lo hi e. none v lo hi (same v lo hi ∙ e)
    least (Some v) is = (is.0, is.1, sym (same v is.0 is.1) ∙ is.2, λ u lo lt e. let hi = is.1 in is.3 u lo lt (same u lo (omega arith) ∙ e))

also_there : (halted : ℕ → Bool) (v : ℕ) → also halted v v ≡ true
also_there halted v = grind (arith, nat_tests)

also_before : (halted : ℕ → Bool) (v u : ℕ) → halted u ≡ true → also halted v u ≡ true
also_before halted v u e = rw e refl

also_other : (halted : ℕ → Bool) (v u : ℕ) → u ≢ v → also halted v u ≡ true → halted u ≡ true
also_other halted v u ne e = ⊎_elim (λ h. h) (λ z. absurd (ne (eqb-true u v z))) (or_cases (halted u) (u == v) e)

also_elsewhere : (halted : ℕ → Bool) (v u : ℕ) → u ≢ v → also halted v u ≡ halted u
also_elsewhere halted v u ne = grind (arith, nat_tests)

-- v has halted as b says, and of the others none has that hadn't
pub with_node_is : (halted new : ℕ → Bool) (v : ℕ) (b : Bool) →
    new v ≡ b →
    ((u : ℕ) → u ≢ v → new u ≡ halted u) →
    (halted v ≡ true → new v ≡ true) →
    (u : ℕ) → with_node halted v b u ≡ new u
with_node_is halted new v true here there stays u = ⊎_elim
    (λ (z : u ≡ v). rw z (also_there halted v ∙ sym here))
    (λ ne. also_elsewhere halted v u ne ∙ sym (there u ne))
    (cases_eq u v)
with_node_is halted new v false here there stays u = ⊎_elim
    (λ (z : u ≡ v). rw z (⊎_elim (λ up. absurd (both_ways (new v) here (stays up))) (λ down. down ∙ sym here) (cases_Bool (halted v))))
    (λ ne. sym (there u ne))
    (cases_eq u v)

-- the least one, where v has halted as well
least_also : (halted : ℕ → Bool) (n v : ℕ) → 1 ≤ v → v ≤ n → (o : Option ℕ) → IsLeast halted n o → IsLeast (also halted v) n (Some (lesser o v))
least_also halted n v lo hi None none =
    (lo, hi, also_there halted v, λ u low lt e. none u low (omega arith) (also_other halted v u (λ z. absurd (omega (arith, z))) e))
least_also halted n v lo hi (Some t) is = ⊎_elim first second (cases_lt t v)
  where
    first : t < v → IsLeast (also halted v) n (Some (min t v))
    first lt =
        let m : min t v ≡ t = omega arith in
        rw m (is.0, is.1, also_before halted v t is.2, λ u low below e. is.3 u low below (also_other halted v u (λ z. absurd (omega (arith, z))) e))

    second : v ≤ t → IsLeast (also halted v) n (Some (min t v))
    second le =
        let m : min t v ≡ v = omega arith in
        rw m (lo, hi, also_there halted v, λ u low below e. is.3 u low (omega arith) (also_other halted v u (λ z. absurd (omega (arith, z))) e))

-- v, in the component of the root r, has halted as well
module _ (g : Shape) (graph : IsGraph g) (v r : ℕ) (lo : 1 ≤ v) (hi : v ≤ g.nodes) (root : IsRoot g.keys v r) where
  pub root_high : r ≤ g.nodes
  root_high = let le = root.least v Same in omega (arith, le)

  root_low : 1 ≤ r
  root_low = (joined_nodes g.nodes g.keys graph.among lo hi root.joined).0

  root_own : IsRoot g.keys r r
  root_own = record { joined = Same; least = λ u way. root.least u (joined_then root.joined way) }

  pub root_within : (h : Halts) → AreHaltsOfSome g h → r < length h.ended.items
  root_within h some = let n = some.1.places in omega (arith, n, root_high)

  -- its component had none
  pub one_running : (h : Halts) → AreHaltsOfSome g h → get_or h.ended.items r true ≡ false → 1 ≤ h.running
  one_running h some down =
      let k = some.1.running in
      let n = k.number in
      let more = count_some (is_running h.ended.items) k.components.leasts r (k.components.all r root_low root_high root_own) (rw down refl) in
      omega (arith, n, more)

  -- a root other than r has one exactly where it had one
  one_elsewhere : (halted : ℕ → Bool) (s : ℕ) → s ≢ r → IsRoot g.keys s s → HasOne g (also halted v) s → HasOne g halted s
  one_elsewhere halted s ne own one = (one.0, one.1, one.2, one.3, also_other halted v one.0 (λ z. apart (rw z at one.3)) one.4)
    where
      apart : Joined (links g.keys) s v → ⊥
      apart way =
          let a = own.least r (joined_then way root.joined) in
          let b = root.least s (joined_back way) in
          absurd (ne (omega (arith, a, b)))

  one_more : (halted : ℕ → Bool) (s : ℕ) → HasOne g halted s → HasOne g (also halted v) s
  one_more halted s one = (one.0, one.1, one.2, one.3, also_before halted v one.0 one.4)

  one_here : (halted : ℕ → Bool) → HasOne g (also halted v) r
  one_here halted = (v, lo, hi, joined_back root.joined, also_there halted v)

  -- the first one of its component
  pub first_halts : (halted : ℕ → Bool) (h k : Halts) →
      AreHalts g halted h →
      get_or h.ended.items r true ≡ false →
      k.least ≡ Some (lesser h.least v) →
      k.ended.items ≡ set h.ended.items r true → k.running + 1 ≡ h.running → AreHalts g (also halted v) k
  first_halts halted h k are down least ended running = record {
    graph = are.graph;
    least = rw least (least_also halted g.nodes v lo hi h.least are.least);
    places = rw ended (length-set h.ended.items r true ∙ are.places);
    ended = λ s low high own. ⊎_elim
        (λ (z : s ≡ r). (λ e. rw z (one_here halted), λ one. rw (z, ended) (get_or-set_same h.ended.items r true true within)))
        (λ ne. (
          λ e. one_more halted s ((are.ended s low high own).0 (sym (other s ne) ∙ e)),
          λ one. other s ne ∙ (are.ended s low high own).1 (one_elsewhere halted s ne own one),
        ))
        (cases_eq s r);
    running = record {
      count = are.running.count;
      components = are.running.components;
      number =
          let all = are.running.components in
          let fewer =
          count_fewer (is_running h.ended.items) (is_running k.ended.items) all.leasts r all.rising (all.all r root_low root_high root_own)
          (rw down refl) (rw (ended, get_or-set_same h.ended.items r true true within) refl) (λ s ne. ap not (sym (other s ne))) in
          let n = are.running.number in
          omega (arith, fewer, n, running);
    };
  }
    where
      within : r < length h.ended.items
      within = root_within h (halted, are)

      other : (s : ℕ) → s ≢ r → get_or k.ended.items s true ≡ get_or h.ended.items s true
      other s ne = rw ended (get_or-set_other h.ended.items r s true true ne)

  -- one more of a component that had one
  pub more_halts : (halted : ℕ → Bool) (h k : Halts) →
      AreHalts g halted h →
      get_or h.ended.items r true ≡ true →
      k.least ≡ Some (lesser h.least v) →
      k.ended ≡ h.ended →
      k.running ≡ h.running → AreHalts g (also halted v) k
  more_halts halted h k are up least ended running = record {
    graph = are.graph;
    least = rw least (least_also halted g.nodes v lo hi h.least are.least);
    places = rw ended are.places;
    ended = λ s low high own. ⊎_elim
        (λ (z : s ≡ r). (λ e. rw z (one_here halted), λ one. rw (z, ended) up))
        (λ ne. rw ended (
          λ e. one_more halted s ((are.ended s low high own).0 e),
          λ one. (are.ended s low high own).1 (one_elsewhere halted s ne own one),
        ))
        (cases_eq s r);
    running = rw (ended, running) are.running;
  }

-- each component has one exactly where no count is left
none_running : (g : Shape) (halted : ℕ → Bool) (h : Halts) → AreHalts g halted h → h.running ≡ 0 ↔ ((v : ℕ) → 1 ≤ v → v ≤ g.nodes → HasOne g halted v)
none_running g halted h are = (all_have, none_left)
  where
    all_have : h.running ≡ 0 → (v : ℕ) → 1 ≤ v → v ≤ g.nodes → HasOne g halted v
    all_have z v lo hi =
        let found = nodes_have_roots g.keys v in
        let r = found.0 in
        let low = root_low g are.graph v r lo hi found.1 in
        let high = root_high g are.graph v r lo hi found.1 in
        let own = root_own g are.graph v r lo hi found.1 in
        let one = ⊎_elim
        (λ (up : get_or h.ended.items r true ≡ true). (are.ended r low high own).0 up)
        (λ down. absurd (let some = one_running g are.graph v r lo hi found.1 h (halted, are) down in omega (arith, some, z)))
        (cases_Bool (get_or h.ended.items r true)) in
        (one.0, one.1, one.2, joined_then found.1.joined one.3, one.4)

    none_left : ((v : ℕ) → 1 ≤ v → v ≤ g.nodes → HasOne g halted v) → h.running ≡ 0
    none_left each =
        let all = are.running.components in
        sym are.running.number ∙
        count_none (is_running h.ended.items) all.leasts
        (λ r c. let is = all.has r c in rw ((are.ended r is.0 is.1 is.2).1 (each r is.0 is.1)) refl)

-- and so where none is counted
pub each_has : (g : Shape) (halted : ℕ → Bool) (h : Halts) →
    AreHalts g halted h →
    (r : Bool) → r ≡ (h.running == 0) →
    IsTrue r ↔ ((v : ℕ) → 1 ≤ v → v ≤ g.nodes → HasOne g halted v)
each_has g halted h are r is =
    let none = none_running g halted h are in
    (λ t. none.0 (eqb-true h.running 0 (sym is ∙ t)), λ each. is ∙ eq-eqb h.running 0 (none.1 each))
