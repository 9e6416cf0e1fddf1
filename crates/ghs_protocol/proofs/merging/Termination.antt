-- Merging comes to an end: each step takes a name from the fragments.
use Rattle.std.proofs.Common.{◌≡◌, ◌≢◌, ℕ, zero, suc, ◌+◌, ◌≤◌, ◌==◌, min, cond, Option, Some, List, [], ◌∷◌, inl, inr, refl, sym, ◌∙◌, ap, ⊎_elim, eq-eqb, arith}
use Rattle.std.specs.List.{Contains}
use Rattle.std.proofs.lemmas.Bool.{cases_eq, ne_eqb}
use Rattle.ghs_graph.specs.declared.key.Key.{Key}
use Rattle.ghs_graph.specs.Graph.{Shape, IsGraph}
use Rattle.peer_network.specs.Sums.{sum_below}
use Rattle.ghs_protocol.specs.Merging.{Fragments, singles, united, Between, Unites, Merge, Absorb, Merging, Done, Then, IsEnd}
use Rattle.ghs_protocol.proofs.merging.United.{Either, either_cases, inside, outside, min_either, IsEven}
use Rattle.ghs_protocol.proofs.merging.OneEnd.{step_even, singles_even}
use Rattle.ghs_protocol.proofs.merging.Ends.{first_out, Step, step_from, end_of_none}
use Rattle.peer_network.proofs.lemmas.Sums.{sum_less}
use Rattle.peer_network.proofs.lemmas.Graphs.{link_among}

-- names are nodes, and each names the fragment that it lies in
pub record Named (n : ℕ) (m : Fragments) : Type 0 where
  pub within : (v : ℕ) → 1 ≤ v → v ≤ n → (1 ≤ m.fragment v) × (m.fragment v ≤ n)
  pub itself : (v : ℕ) → m.fragment (m.fragment v) ≡ m.fragment v

-- how many nodes are names
abbrev pub one_if_name : Fragments → ℕ → ℕ
one_if_name m v = cond (m.fragment v == v) 1 0

abbrev pub names : ℕ → Fragments → ℕ
names n m = sum_below n (λ i. one_if_name m (suc i))

is_name : (m : Fragments) (v : ℕ) → m.fragment v ≡ v → one_if_name m v ≡ 1
is_name m v e = rw (eq-eqb (m.fragment v) v e) refl

no_name : (m : Fragments) (v : ℕ) → m.fragment v ≢ v → one_if_name m v ≡ 0
no_name m v ne = rw (ne_eqb (m.fragment v) v ne) refl

module _ (n : ℕ) (m : Fragments) (u v l : ℕ) (c : Option Key) (named : Named n m) (u_in : (1 ≤ u) × (u ≤ n)) (v_in : (1 ≤ v) × (v ≤ n))
    (apart : m.fragment v ≢ m.fragment u) where
  abbrev one : Fragments
  one = united u v l c m

  -- the lower of the two names stays, the other goes
  lower : ℕ
  lower = min (m.fragment u) (m.fragment v)

  lower_named : m.fragment (min (m.fragment u) (m.fragment v)) ≡ min (m.fragment u) (m.fragment v)
  lower_named =
      ⊎_elim (λ e. ap m.fragment e ∙ named.itself u ∙ sym e) (λ e. ap m.fragment e ∙ named.itself v ∙ sym e)
      (min_either (m.fragment u) (m.fragment v))

  in_one : (x : ℕ) → m.fragment x ≡ min (m.fragment u) (m.fragment v) → Either (m.fragment u) (m.fragment v) (m.fragment x)
  in_one x e = ⊎_elim (λ z. inl (e ∙ z)) (λ z. inr (e ∙ z)) (min_either (m.fragment u) (m.fragment v))

  pub still_named : Named n (united u v l c m)
  still_named = record { within = within; itself = itself }
    where
      within : (x : ℕ) → 1 ≤ x → x ≤ n → (1 ≤ (united u v l c m).fragment x) × ((united u v l c m).fragment x ≤ n)
      within x lo hi =
          ⊎_elim
          (λ h. let a = (inside m u v l c x h).fragment in let b = named.within u u_in.0 u_in.1 in let d = named.within v v_in.0 v_in.1 in
          (omega (arith, a, b, d), omega (arith, a, b, d)))
          (λ h. let a = (outside m u v l c x h.0 h.1).fragment in let b = named.within x lo hi in (omega (arith, a, b), omega (arith, a, b)))
          (either_cases (m.fragment u) (m.fragment v) (m.fragment x))

      itself : (x : ℕ) → (united u v l c m).fragment ((united u v l c m).fragment x) ≡ (united u v l c m).fragment x
      itself x =
          ⊎_elim
          (λ h.
          let a = (inside m u v l c x h).fragment in
          ap (united u v l c m).fragment a ∙
          (inside m u v l c (min (m.fragment u) (m.fragment v)) (in_one (min (m.fragment u) (m.fragment v)) lower_named)).fragment ∙ sym a)
          (λ h.
          let a = (outside m u v l c x h.0 h.1).fragment in
          ap (united u v l c m).fragment a ∙
          (outside m u v l c (m.fragment x) (λ e. h.0 (sym (named.itself x) ∙ e)) (λ e. h.1 (sym (named.itself x) ∙ e))).fragment ∙
          named.itself x ∙ sym a)
          (either_cases (m.fragment u) (m.fragment v) (m.fragment x))

  -- who is a name was one
  was_name : (x : ℕ) → (united u v l c m).fragment x ≡ x → m.fragment x ≡ x
  was_name x e =
      ⊎_elim
      (λ h.
      let a : min (m.fragment u) (m.fragment v) ≡ x = sym (inside m u v l c x h).fragment ∙ e in
      ap m.fragment (sym a) ∙ lower_named ∙ a)
      (λ h. sym (outside m u v l c x h.0 h.1).fragment ∙ e)
      (either_cases (m.fragment u) (m.fragment v) (m.fragment x))

  each : (x : ℕ) → one_if_name (united u v l c m) x ≤ one_if_name m x
  each x =
      ⊎_elim (λ e. let a = is_name (united u v l c m) x e in let b = is_name m x (was_name x e) in omega (arith, a, b))
      (λ ne. let a = no_name (united u v l c m) x ne in omega (arith, a)) (cases_eq ((united u v l c m).fragment x) x)

  -- one name has gone
  gone : (x : ℕ) → 1 ≤ x → x ≤ n → m.fragment x ≡ x → Either (m.fragment u) (m.fragment v) x → x ≢ min (m.fragment u) (m.fragment v) →
      suc (names n (united u v l c m)) ≤ names n m
  gone x lo hi name either ne = pick x lo hi refl
    where
      inside_it : (united u v l c m).fragment x ≡ min (m.fragment u) (m.fragment v)
      inside_it = (inside m u v l c x (⊎_elim (λ e. inl (name ∙ e)) (λ e. inr (name ∙ e)) either)).fragment

      pick : (y : ℕ) → 1 ≤ y → y ≤ n → y ≡ x → suc (names n (united u v l c m)) ≤ names n m
      pick (suc i) a b e =
          sum_less n i (λ k. one_if_name (united u v l c m) (suc k)) (λ k. one_if_name m (suc k)) (omega (arith, b)) (λ k lt. each (suc k))
          (let p = no_name (united u v l c m) (suc i) (λ z. ne (sym e ∙ sym z ∙ ap (united u v l c m).fragment e ∙ inside_it)) in
          let q = is_name m (suc i) (ap m.fragment e ∙ name ∙ sym e) in omega (arith, p, q))
      pick y a b e = absurd (omega (arith, a, b, e, lo))

  pub fewer_names : suc (names n (united u v l c m)) ≤ names n m
  fewer_names =
      ⊎_elim
      (λ e.
      let b = named.within v v_in.0 v_in.1 in
      gone (m.fragment v) b.0 b.1 (named.itself v) (inr refl) (λ z. apart (z ∙ e)))
      (λ e.
      let b = named.within u u_in.0 u_in.1 in
      gone (m.fragment u) b.0 b.1 (named.itself u) (inl refl) (λ z. apart (sym (z ∙ e))))
      (min_either (m.fragment u) (m.fragment v))

-- merging to its end
pub record Ended (ks : List Key) (pay : Option Key → ℕ → ℕ) (m : Fragments) : Type 0 where
  pub links : List Key
  pub cost : ℕ
  pub to : Fragments
  pub way : Merging ks pay m links cost to
  pub end : IsEnd ks to

module _ (g : Shape) (ok : IsGraph g) (pay : Option Key → ℕ → ℕ) where
  in_graph : (k : Key) (u v : ℕ) → Contains g.keys k → Between k u v → ((1 ≤ u) × (u ≤ g.nodes)) × ((1 ≤ v) × (v ≤ g.nodes))
  in_graph k u v has ends =
      let e = link_among g ok k has in
      ⊎_elim (λ z. ((omega (arith, e, z.0), omega (arith, e, z.0)), (omega (arith, e, z.1), omega (arith, e, z.1))))
      (λ z. ((omega (arith, e, z.1), omega (arith, e, z.1)), (omega (arith, e, z.0), omega (arith, e, z.0)))) ends

  step_named : (m : Fragments) (k : Key) (c : ℕ) (z : Fragments) → Named g.nodes m → Unites g.keys pay m k c z →
      Named g.nodes z × (suc (names g.nodes z) ≤ names g.nodes m)
  step_named m k _ _ named (Merge _ u v p q e) =
      let b = in_graph k u v p.link p.ends in (
        still_named g.nodes m u v (suc (m.level u)) (Some k) named b.0 b.1 p.out,
        fewer_names g.nodes m u v (suc (m.level u)) (Some k) named b.0 b.1 p.out,
      )
  step_named m k _ _ named (Absorb _ u v p lt) =
      let b = in_graph k u v p.link p.ends in (
        still_named g.nodes m u v (m.level v) (m.core v) named b.0 b.1 p.out,
        fewer_names g.nodes m u v (m.level v) (m.core v) named b.0 b.1 p.out,
      )

  -- no step can be made, or one more, and then to the end
  stops : (m : Fragments) → ((j : Key) → Contains g.keys j → m.fragment j.a ≡ m.fragment j.b) → Ended g.keys pay m
  stops m none = record { links = []; cost = 0; to = m; way = Done; end = end_of_none g.keys m none }

  goes_on : (m : Fragments) (t : Step g.keys pay m) → Ended g.keys pay t.next → Ended g.keys pay m
  goes_on m t r = record { links = t.link ∷ r.links; cost = t.cost + r.cost; to = r.to; way = Then t.unites r.way; end = r.end }

  pub to_end : (n : ℕ) (m : Fragments) → IsEven m → Named g.nodes m → names g.nodes m ≤ n → Ended g.keys pay m
  to_end zero m even named le =
      ⊎_elim
      (λ f.
      let t = step_from g.keys pay m even f in
      let z = (step_named m t.link t.cost t.next named t.unites).1 in absurd (omega (arith, z, le)))
      (λ none. stops m none) (first_out m g.keys)
  to_end (suc n) m even named le =
      ⊎_elim
      (λ f.
      let t = step_from g.keys pay m even f in
      let z = step_named m t.link t.cost t.next named t.unites in
      let less = z.1 in
      goes_on m t (to_end n t.next (step_even g.keys pay m t.link t.cost t.next t.unites even) z.0 (omega (arith, less, le))))
      (λ none. stops m none) (first_out m g.keys)

  pub ended : Ended g.keys pay singles
  ended =
      to_end (names g.nodes singles) singles singles_even (record { within = λ v lo hi. (lo, hi); itself = λ v. refl }) (omega arith)
