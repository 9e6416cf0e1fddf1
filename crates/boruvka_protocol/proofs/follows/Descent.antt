-- In a tree of ways up nobody goes down for ever.
use Rattle.std.proofs.Common.{◌≡◌, ℕ, zero, suc, ◌≤◌, ◌||◌, ◌==◌, Bool, true, false, refl, sym, ◌∙◌, ap, subst, cond, ⊎_elim, eq-eqb, eqb-true, arith}
use Rattle.std.proofs.lemmas.Bool.{false_from_ne_true, or_cases}
use Rattle.ghs_graph.specs.declared.key.Key.{Key}
use Rattle.ghs_graph.specs.Graph.{Shape, IsGraph}
use Rattle.ghs_graph.specs.Ports.{far_end}
use Rattle.peer_network.specs.Sums.{sum_below}
use Rattle.peer_network.proofs.lemmas.Sums.{node_before, sum_less}
use Rattle.boruvka_protocol.specs.Levels.{Taken}
use Rattle.boruvka_protocol.specs.WaysUp.{IsTop, IsUp, IsBelow, Here, Up}
use Rattle.boruvka_protocol.proofs.lemmas.WaysUp.{top_at, others_have_one_way_up, tops_have_no_way_up, ways_up_lead_to_top}
use Rattle.boruvka_protocol.proofs.Unlike.{false_is_true}
use Rattle.boruvka_protocol.proofs.follows.Ways.{over, ends_from, taken_ordered}

-- Nodes that were seen, and how many weren't.

abbrev unseen : (ℕ → Bool) → ℕ → ℕ
unseen s i = cond (s (suc i)) 0 1

abbrev with_one : (ℕ → Bool) → ℕ → ℕ → Bool
with_one s u z = (z == u) || s z

none_more : (a b : Bool) → cond (a || b) 0 1 ≤ cond b 0 1
none_more true true = omega arith
none_more true false = omega arith
none_more false true = omega arith
none_more false false = omega arith

one_less : (a b : Bool) → a ≡ true → b ≡ false → suc (cond (a || b) 0 1) ≤ cond b 0 1
one_less true true e f = cc
one_less true false e f = omega arith
one_less false b e f = cc

-- with one more seen fewer are left
fewer : (n : ℕ) (s : ℕ → Bool) (u : ℕ) → 1 ≤ u → u ≤ n → s u ≡ false → suc (sum_below n (unseen (with_one s u))) ≤ sum_below n (unseen s)
fewer n s u low high f =
    let b = node_before u low in
    let at : (suc b.0 == u) ≡ true = eq-eqb (suc b.0) u (sym b.1) in
    let off : s (suc b.0) ≡ false = subst (λ x. s x ≡ false) b.1 f in
    sum_less n b.0 (unseen (with_one s u)) (unseen s) (omega (arith, high, b.1)) (λ i lt. none_more (suc i == u) (s (suc i)))
    (one_less (suc b.0 == u) (s (suc b.0)) at off)

module _ (g : Shape) (ok : IsGraph g) (l r : ℕ) where
  -- u is so deep below the top r
  abbrev DeepAt : ℕ → ℕ → Type 0
  DeepAt u zero = u ≡ r
  DeepAt u (suc d) = (k : Key) × IsUp (Taken g.keys l) r u k × DeepAt (far_end u k) d

  top_up : (u : ℕ) (k : Key) → IsTop g.keys l u r → IsUp (Taken g.keys l) r u k → IsTop g.keys l (far_end u k) r
  top_up u k top up =
      top_at g.keys l u (far_end u k) r (over k up.link (ends_from k u (taken_ordered g ok l k up.link) up.ends)) top

  not_top : (u : ℕ) (k : Key) → IsTop g.keys l u r → IsUp (Taken g.keys l) r u k → u ≡ r → ⊥
  not_top u k top up e = tops_have_no_way_up g ok l u r top k (subst (λ x. IsUp (Taken g.keys l) r x k) e up)

  -- each node is so in one way
  deep_one : (u d d' : ℕ) → IsTop g.keys l u r → DeepAt u d → DeepAt u d' → d ≡ d'
  deep_one u zero zero top a b = refl
  deep_one u zero (suc d') top a b = absurd (not_top u b.0 top b.1 a)
  deep_one u (suc d) zero top a b = absurd (not_top u a.0 top a.1 b)
  deep_one u (suc d) (suc d') top a b =
      let one = others_have_one_way_up g ok l u r top (not_top u a.0 top a.1) in
      let same : b.0 ≡ a.0 = one.2 b.0 b.1 ∙ sym (one.2 a.0 a.1) in
      ap suc (deep_one (far_end u a.0) d d' (top_up u a.0 top a.1) a.2 (subst (λ (k : Key). DeepAt (far_end u k) d') same b.2))

  deep_of : {u v : ℕ} → IsBelow (Taken g.keys l) r u v → v ≡ r → (d : ℕ) × DeepAt u d
  deep_of Here e = (0, e)
  deep_of (Up k up rest) e = let x = deep_of rest e in (suc x.0, (k, up, x.1))

  -- Where each node of P has a child in P, P is empty.
  module _ (P : ℕ → Type 0) (within : (u : ℕ) → P u → (1 ≤ u) × (u ≤ g.nodes)) (tops : (u : ℕ) → P u → IsTop g.keys l u r)
      (down : (y : ℕ) → P y → (u : ℕ) × (k : Key) × IsUp (Taken g.keys l) r u k × (far_end u k ≡ y) × P u) where
    -- who was seen is at most so deep
    abbrev Above : (ℕ → Bool) → ℕ → Type 0
    Above s d = (z : ℕ) → s z ≡ true → (e : ℕ) × (e ≤ d) × DeepAt z e

    not_seen : (s : ℕ → Bool) (u d : ℕ) → P u → Above s d → DeepAt u (suc d) → s u ≡ false
    not_seen s u d p above deep = false_from_ne_true (s u)
        (λ t. let x = above u t in let e : x.0 ≡ suc d = deep_one u x.0 (suc d) (tops u p) x.2 deep in omega (arith, e, x.1))

    seen_more : (s : ℕ → Bool) (u d : ℕ) → Above s d → DeepAt u (suc d) → Above (with_one s u) (suc d)
    seen_more s u d above deep z t = ⊎_elim
        (λ e. (suc d, omega arith, subst (λ x. DeepAt x (suc d)) (sym (eqb-true z u e)) deep))
        (λ old. let x = above z old in (x.0, omega (arith, x.1), x.2))
        (or_cases (z == u) (s z) t)

    goes_down : (fuel : ℕ) (s : ℕ → Bool) (y d : ℕ) → P y → DeepAt y d → Above s d → sum_below g.nodes (unseen s) ≤ fuel → ⊥
    goes_down zero s y d p deep above le =
        let c = down y p in
        let deeper : DeepAt c.0 (suc d) = (c.1, c.2, subst (λ x. DeepAt x d) (sym c.3) deep) in
        let i = within c.0 c.4 in
        let less = fewer g.nodes s c.0 i.0 i.1 (not_seen s c.0 d c.4 above deeper) in
        omega (arith, le, less)
    goes_down (suc fuel) s y d p deep above le =
        let c = down y p in
        let deeper : DeepAt c.0 (suc d) = (c.1, c.2, subst (λ x. DeepAt x d) (sym c.3) deep) in
        let i = within c.0 c.4 in
        let less = fewer g.nodes s c.0 i.0 i.1 (not_seen s c.0 d c.4 above deeper) in
        goes_down fuel (with_one s c.0) c.0 (suc d) c.4 deeper (seen_more s c.0 d above deeper) (omega (arith, le, less))

    pub none_goes_down : (y : ℕ) → P y → ⊥
    none_goes_down y p =
        let deep = deep_of (ways_up_lead_to_top g ok l y r (tops y p)) refl in
        goes_down (sum_below g.nodes (unseen (λ z. false))) (λ z. false) y deep.0 p deep.1 (λ z t. false_is_true t) (omega arith)
