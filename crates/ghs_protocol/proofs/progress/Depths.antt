-- How far a node is from its fragment's root, and induction from the leaves to the root.
use Rattle.std.proofs.Common.{◌≡◌, ◌≢◌, ℕ, zero, suc, ◌+◌, ◌≤◌, Some, List, [], ◌∷◌, length, true, false, refl, sym, ◌∙◌, ap, subst, ⊎_elim, arith}
use Rattle.std.proofs.lemmas.Option.{same_Some}
use Rattle.peer_network.specs.Network.{Network, At, far, far_port, InNetwork}
use Rattle.std.specs.List.{All, AllPairs}
use Rattle.std.proofs.lemmas.List.Elements.{All-nil, All-cons, All-weaker}
use Rattle.std.proofs.lemmas.List.Kept.{AllPairs-cons}
use Rattle.ghs_protocol.proofs.clauses.Scene.{Forest}
use Rattle.ghs_protocol.proofs.clauses.Fragments.{IsJoinedIn, Root, Goes_out, Both_ways, Reach, At_root, By_step}
use Rattle.ghs_protocol.proofs.tests.Links.{probe_is}
use Rattle.ghs_protocol.proofs.acts.Many.{few_apart, one_apart, Differ}

-- v is so many steps away from its root link
pub data Depth (g : Network) (s : Forest) : ℕ → ℕ → Type 0 where
  At_the_root : {v : ℕ} (p : ℕ) → At g v p → s.up v ≡ Some p → Root g s v p → Depth g s v zero
  Below : {v n : ℕ} (p : ℕ) →
      At g v p →
      s.up v ≡ Some p →
      IsJoinedIn g s v p →
      s.up (far g v p) ≢ Some (far_port g v p) →
      Depth g s (far g v p) n →
      Depth g s v (suc n)

-- z is a child of v
pub record IsChild (g : Network) (s : Forest) (z v : ℕ) : Type 0 where
  pub port : ℕ
  pub at : At g z port
  pub up : s.up z ≡ Some port
  pub joined : IsJoinedIn g s z port
  pub down : s.up (far g z port) ≢ Some (far_port g z port)
  pub to : far g z port ≡ v

module _ (g : Network) (s : Forest) where
  -- a root link is no way from a child to its parent
  not_both : (v p : ℕ) → Root g s v p → IsJoinedIn g s v p → s.up (far g v p) ≢ Some (far_port g v p) → ⊥
  not_both v p (Goes_out here away) j down = let z : true ≡ false = sym j.there ∙ away in cc
  not_both v p (Both_ways j' here beyond) j down = down beyond

  pub depth_is : {v n m : ℕ} → Depth g s v n → Depth g s v m → n ≡ m
  depth_is (At_the_root p at up r) (At_the_root p' at' up' r') = refl
  depth_is {v} (At_the_root p at up r) (Below p' at' up' j' d' e') =
      absurd (let same : p ≡ p' = same_Some p p' (sym up ∙ up') in not_both v p' (subst (λ q. Root g s v q) same r) j' d')
  depth_is {v} (Below p at up j d e) (At_the_root p' at' up' r') =
      absurd (let same : p' ≡ p = same_Some p' p (sym up' ∙ up) in not_both v p (subst (λ q. Root g s v q) same r') j d)
  depth_is {v} (Below {n = n} p at up j d e) (Below {n = m} p' at' up' j' d' e') =
      let same : p' ≡ p = same_Some p' p (sym up' ∙ up) in
      ap suc (depth_is e (subst (λ q. Depth g s (far g v q) m) same e'))

  pub depth_of : {v : ℕ} → Reach g s v → (n : ℕ) × Depth g s v n
  depth_of (At_root p at up r) = (zero, At_the_root p at up r)
  depth_of {v} (By_step p at up j r) =
      ⊎_elim (λ h. (zero, At_the_root p at up (Both_ways j up h))) (λ ne. let d = depth_of r in (suc d.0, Below p at up j ne d.1))
      (probe_is (s.up (far g v p)) (far_port g v p))

  -- a node no deeper than n
  abbrev pub NoDeeper : ℕ → ℕ → Type 0
  NoDeeper n x = InNetwork g x × ((k : ℕ) × Depth g s x k × (k ≤ n))

  -- the nodes on the way to the root
  pub record Way (v n : ℕ) : Type 0 where
    pub nodes : List ℕ
    pub once : AllPairs Differ nodes
    pub each : All (NoDeeper n) nodes
    pub long : length nodes ≡ suc n

  further : {v n : ℕ} (p : ℕ) → At g v p → Depth g s v (suc n) → Way (far g v p) n → Way v (suc n)
  further {v} {n} p at mine rest = record {
    nodes = v ∷ rest.nodes;
    once = AllPairs-cons Differ v rest.nodes (All-weaker (NoDeeper n) (Differ v) other rest.nodes rest.each) rest.once;
    each =
        All-cons (NoDeeper (suc n)) v rest.nodes (record { some = at.some; node = at.node }, (suc n, mine, omega arith))
        (All-weaker (NoDeeper n) (NoDeeper (suc n))
        (λ x z. (z.0, let t = z.1 in (t.0, t.1, let le = t.2 in omega (arith, le)))) rest.nodes rest.each);
    long = ap suc rest.long;
  }
    where
      other : (y : ℕ) → NoDeeper n y → v ≢ y
      other y on_way same =
          let z = on_way.1 in
          let k = depth_is mine (subst (λ x. Depth g s x z.0) (sym same) z.1) in absurd (let le = z.2 in omega (arith, k, le))

  alone : {v : ℕ} (p : ℕ) → At g v p → Depth g s v 0 → Way v 0
  alone {v} p at d = record {
    nodes = v ∷ [];
    once = one_apart v;
    each = All-cons (NoDeeper 0) v [] (record { some = at.some; node = at.node }, (0, d, omega arith)) (All-nil (NoDeeper 0));
    long = refl;
  }

  pub way : {v n : ℕ} → Depth g s v n → Way v n
  way (At_the_root p at up r) = alone p at (At_the_root p at up r)
  way (Below p at up j d e) = further p at (Below p at up j d e) (way e)

  pub bounded : {v n : ℕ} → Depth g s v n → suc n ≤ g.count
  bounded {v} {n} d = let y = way d in let l = y.long in let z = few_apart g.count y.nodes y.once (within y) in omega (arith, z, l)
    where
      within : (y : Way v n) → All (λ x. (1 ≤ x) × (x ≤ g.count)) y.nodes
      within y = All-weaker (NoDeeper n) (λ x. (1 ≤ x) × (x ≤ g.count)) (λ x z. (z.0.some, z.0.node)) y.nodes y.each

  -- from the leaves to the root
  module _ (Q : ℕ → Type 0) (step : (v : ℕ) → ((z : ℕ) → IsChild g s z v → Q z) → Q v) where
    upwards_in : (k v n : ℕ) → g.count ≤ n + k → Depth g s v n → Q v
    upwards_in zero v n le d = absurd (let b = bounded d in omega (arith, b, le))
    upwards_in (suc k) v n le d =
        step v (λ z c. upwards_in k z (suc n) (omega (arith, le)) (Below c.port c.at c.up c.joined c.down (subst (λ y. Depth g s y n) (sym c.to) d)))

    pub upwards : (v : ℕ) → Reach g s v → Q v
    upwards v r = let d = depth_of r in upwards_in g.count v d.0 (omega arith) d.1
