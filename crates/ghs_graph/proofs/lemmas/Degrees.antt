-- How many ports each node has.
use Rattle.std.proofs.Common.{◌≡◌, ℕ, zero, suc, ◌<◌, ◌≤◌, ◌+◌, ⊎_elim, true, false, List, [], length, take, get_or, set, sum, replicate, map, refl, sym, ◌∙◌, ap, subst, arith, get_or-set_same, get_or-set_other, length-set, add-one}
use Rattle.std.proofs.lemmas.Bool.{cases_eq}
use Rattle.std.proofs.lemmas.List.{get_or-replicate, length-replicate, length-take, take_all}
use Rattle.std.specs.List.{sum_by, range_with_len}
use Rattle.std.proofs.lemmas.List.FromFn.{fill_by_all}
use Rattle.std.proofs.lemmas.List.Sums.{count_by_more_yes, count_by_more_no, sum_by-set, sum_by-cons, sum-map}
use Rattle.ghs_graph.specs.declared.key.Key.{Key}
use Rattle.ghs_graph.specs.Key.{ends_at, no_key}
use Rattle.ghs_graph.specs.Links.{AreAmong}
use Rattle.ghs_graph.specs.Ports.{degree}
use Rattle.ghs_graph.specs.Graph.{nodes_of}
use Rattle.ghs_graph.specs.Laws.{DegreesAreTwice}
use Rattle.ghs_graph.specs.Layout.{AreDegrees}
use Rattle.ghs_graph.proofs.lemmas.Ports.{length-ports_of, ends_a, ends_b, ends_not, degree-take, among_at}

-- One more link.

pub degree_ends : (ks : List Key) (i : ℕ) (d : Key) (v : ℕ) → i < length ks → ends_at v (get_or ks i d) ≡ true
    → degree (take (i + 1) ks) v ≡ degree (take i ks) v + 1
unfolding degree
degree_ends ks i d v lt e = count_by_more_yes (ends_at v) ks i d lt e

pub degree_stays : (ks : List Key) (i : ℕ) (d : Key) (v : ℕ) → i < length ks → ends_at v (get_or ks i d) ≡ false
    → degree (take (i + 1) ks) v ≡ degree (take i ks) v
unfolding degree
degree_stays ks i d v lt e = count_by_more_no (ends_at v) ks i d lt e

pub degree_none : (v : ℕ) → degree [] v ≡ 0
unfolding degree
degree_none v = refl

pub degree_up : (ks : List Key) (i v : ℕ) → i ≤ length ks → degree (take i ks) v ≤ degree ks v
degree_up ks i v le = omega (arith, degree-take ks v i (length ks) le, ap (λ (xs : List Key). degree xs v) (take_all (length ks) ks (omega arith)))

-- no link ends above n
pub degree_above : (n : ℕ) (ks : List Key) (v : ℕ) → AreAmong n ks → n < v → degree ks v ≡ 0
degree_above n ks v among gt = rw (← take_all (length ks) ks (omega arith)) (none (length ks) (omega arith))
  where
    none : (i : ℕ) → i ≤ length ks → degree (take i ks) v ≡ 0
    none zero le = degree_none v
    none (suc i) le =
        let h = among_at n ks i no_key among (omega arith) in
        rw (← add-one i)
        (degree_stays ks i no_key v (omega arith)
        (ends_not v (get_or ks i no_key) (λ e. absurd (omega (arith, h.1, h.2))) (λ e. absurd (omega (arith, h.2))))
        ∙ none i (omega arith))

-- Counts.

sum-replicate : (n : ℕ) → sum (replicate n 0) ≡ 0
sum-replicate zero = refl
sum-replicate (suc n) = omega (arith, sum_by-cons (λ x. x) 0 (replicate n 0), sum-replicate n)

pub none_counted : (n : ℕ) (cs : List ℕ) → cs ≡ replicate (n + 1) 0 → AreDegrees n [] cs
none_counted n cs e =
    rw e
    (record {
      count = length-replicate (n + 1) 0;
      each = λ v le. get_or-replicate (n + 1) v 0 0 (omega arith) ∙ sym (degree_none v);
      total = sum-replicate (n + 1);
    })

-- both ends of a link have one more
pub one_counted : (n : ℕ) (ks : List Key) (cs : List ℕ) (i : ℕ) (d : Key) (x y : ℕ) → AreAmong n ks → i < length ks → AreDegrees n (take i ks) cs
    → x ≡ get_or cs (get_or ks i d).a 0 → y ≡ get_or cs (get_or ks i d).b 0
    → AreDegrees n (take (i + 1) ks) (set (set cs (get_or ks i d).a (x + 1)) (get_or ks i d).b (y + 1))
one_counted n ks cs i d x y w lt g ex ey = record {
  count = length-set (set cs k.a (x + 1)) k.b (y + 1) ∙ length-set cs k.a (x + 1) ∙ g.count;
  each = λ v le. ⊎_elim
      (λ (e : v ≡ k.b).
      rw e
      (get_or-set_same (set cs k.a (x + 1)) k.b (y + 1) 0 b_in ∙ ap (λ m. m + 1) (ey ∙ g.each k.b (among_at n ks i d w lt).2)
      ∙ sym (degree_ends ks i d k.b lt (ends_b k))))
      (λ nb. get_or-set_other (set cs k.a (x + 1)) k.b v (y + 1) 0 nb ∙ ⊎_elim
      (λ (e : v ≡ k.a).
      rw e (get_or-set_same cs k.a (x + 1) 0 a_in ∙ ap (λ m. m + 1) (ex ∙ g.each k.a a_le) ∙ sym (degree_ends ks i d k.a lt (ends_a k))))
      (λ na. get_or-set_other cs k.a v (x + 1) 0 na ∙ g.each v le ∙ sym (degree_stays ks i d v lt (ends_not v k na nb)))
      (cases_eq v k.a))
      (cases_eq v k.b);
  total =
      let more_a : sum (set cs k.a (x + 1)) + get_or cs k.a 0 ≡ sum cs + (x + 1) = sum_by-set (λ m. m) cs k.a (x + 1) 0 a_in in
      let more_b : sum (set (set cs k.a (x + 1)) k.b (y + 1)) + get_or (set cs k.a (x + 1)) k.b 0 ≡ sum (set cs k.a (x + 1)) + (y + 1) = sum_by-set
      (λ m. m) (set cs k.a (x + 1)) k.b (y + 1) 0 b_in in
      let old_b : get_or (set cs k.a (x + 1)) k.b 0 ≡ get_or cs k.b 0 = get_or-set_other cs k.a k.b (x + 1) 0
      (λ e. absurd (let r = among_at n ks i d w lt in omega (arith, r.1))) in
      omega (arith, more_a, more_b, old_b, ex, ey, g.total, length-take i ks, length-take (i + 1) ks);
}
  where
    k : Key
    k = get_or ks i d

    a_le : k.a ≤ n
    a_le = let r = among_at n ks i d w lt in omega (arith, r.1, r.2)

    a_in : k.a < length cs
    a_in = omega (arith, a_le, g.count)

    b_in : k.b < length (set cs k.a (x + 1))
    b_in = let r = among_at n ks i d w lt in omega (arith, r.2, g.count, length-set cs k.a (x + 1))

-- The sum of the degrees.

counted_up_to : (n : ℕ) (ks : List Key) → AreAmong n ks → (i : ℕ) → i ≤ length ks → (cs : List ℕ) × AreDegrees n (take i ks) cs
counted_up_to n ks among zero le = (replicate (n + 1) 0, none_counted n (replicate (n + 1) 0) refl)
counted_up_to n ks among (suc i) le =
    let k : Key = get_or ks i no_key in
    let c : (cs : List ℕ) × AreDegrees n (take i ks) cs = counted_up_to n ks among i (omega arith) in (
      set (set c.0 k.a (get_or c.0 k.a 0 + 1)) k.b (get_or c.0 k.b 0 + 1),
      rw (← add-one i) (one_counted n ks c.0 i no_key (get_or c.0 k.a 0) (get_or c.0 k.b 0) among (omega arith) c.1 refl refl),
    )

-- no link ends at 0
degree_zero : (n : ℕ) (ks : List Key) → AreAmong n ks → (i : ℕ) → i ≤ length ks → degree (take i ks) 0 ≡ 0
degree_zero n ks among zero le = degree_none 0
degree_zero n ks among (suc i) le =
    let h = among_at n ks i no_key among (omega arith) in
    rw (← add-one i)
    (degree_stays ks i no_key 0 (omega arith)
    (ends_not 0 (get_or ks i no_key) (λ e. absurd (omega (arith, h.0))) (λ e. absurd (omega (arith, h.0, h.1))))
    ∙ degree_zero n ks among i (omega arith))

pub degrees_are_twice : DegreesAreTwice
degrees_are_twice g ok =
    ap (λ (f : ℕ → ℕ). sum_by f (nodes_of g)) (λ i v. length-ports_of g.keys v i)
    ∙ omega (arith, c.1.total, counts, sum-map degree_at (nodes_of g), zero_first)
  where
    degree_at : ℕ → ℕ
    degree_at = degree g.keys

    c : (cs : List ℕ) × AreDegrees g.nodes g.keys cs
    c =
        let h = counted_up_to g.nodes g.keys ok.among (length g.keys) (omega arith) in
        (h.0, subst (λ (ks : List Key). AreDegrees g.nodes ks h.0) (take_all (length g.keys) g.keys (omega arith)) h.1)

    zero_first : degree_at 0 ≡ 0
    zero_first =
        ap (λ (ks : List Key). degree ks 0) (sym (take_all (length g.keys) g.keys (omega arith)))
        ∙ degree_zero g.nodes g.keys ok.among (length g.keys) (omega arith)

    counts : sum c.0 ≡ degree_at 0 + sum (map degree_at (nodes_of g))
    counts =
        ap (λ (xs : List ℕ). sum xs)
        (fill_by_all degree_at c.0 (g.nodes + 1) 0 c.1.count (λ k lt. c.1.each k (omega arith))
        ∙ ap (λ n. map degree_at (range_with_len 0 n)) (add-one g.nodes))
        ∙ sum_by-cons (λ x. x) (degree_at 0) (map degree_at (nodes_of g))
