-- What uniting two fragments leaves of each node.
use Rattle.std.proofs.Common.{◌≡◌, ◌≢◌, ℕ, min, true, false, Option, inl, inr, ◌⊎◌, refl, sym, ◌∙◌, ⊎_elim, eq-eqb, arith}
use Rattle.std.proofs.lemmas.Bool.{cases_eq, ne_eqb, or_left, or_right, or_from}
use Rattle.ghs_graph.specs.declared.key.Key.{Key}
use Rattle.ghs_protocol.specs.Merging.{Fragments, is_either, united}

-- f is one of a and b, or neither
abbrev pub Either : ℕ → ℕ → ℕ → Type 0
Either a b f = (f ≡ a) ⊎ (f ≡ b)

pub either_cases : (a b f : ℕ) → Either a b f ⊎ ((f ≢ a) × (f ≢ b))
either_cases a b f =
    ⊎_elim (λ e. inl (inl e)) (λ ne. ⊎_elim (λ e. inl (inr e)) (λ ne'. inr (ne, ne')) (cases_eq f b)) (cases_eq f a)

is_either_so : (a b f : ℕ) → Either a b f → is_either a b f ≡ true
is_either_so a b f h = ⊎_elim (λ e. or_left _ _ (eq-eqb f a e)) (λ e. or_right _ _ (eq-eqb f b e)) h

is_neither : (a b f : ℕ) → f ≢ a → f ≢ b → is_either a b f ≡ false
is_neither a b f x y = or_from _ _ (ne_eqb f a x) (ne_eqb f b y)

pub min_either : (a b : ℕ) → Either a b (min a b)
min_either a b = ⊎_elim (λ e. inl e) (λ ne. inr (omega arith)) (cases_eq (min a b) a)

pub record Inside (m n : Fragments) (u v l : ℕ) (c : Option Key) (w : ℕ) : Type 0 where
  pub fragment : n.fragment w ≡ min (m.fragment u) (m.fragment v)
  pub level : n.level w ≡ l
  pub core : n.core w ≡ c

pub record Outside (m n : Fragments) (w : ℕ) : Type 0 where
  pub fragment : n.fragment w ≡ m.fragment w
  pub level : n.level w ≡ m.level w
  pub core : n.core w ≡ m.core w

module _ (m : Fragments) (u v l : ℕ) (c : Option Key) where
  abbrev one : Fragments
  one = united u v l c m

  pub inside : (w : ℕ) → Either (m.fragment u) (m.fragment v) (m.fragment w) → Inside m (united u v l c m) u v l c w
  inside w h =
      let e = is_either_so (m.fragment u) (m.fragment v) (m.fragment w) h in record { fragment = rw e refl; level = rw e refl; core = rw e refl }

  pub outside : (w : ℕ) → m.fragment w ≢ m.fragment u → m.fragment w ≢ m.fragment v → Outside m (united u v l c m) w
  outside w x y =
      let e = is_neither (m.fragment u) (m.fragment v) (m.fragment w) x y in record { fragment = rw e refl; level = rw e refl; core = rw e refl }

  -- who lay in one fragment still does
  pub still_one : (x y : ℕ) → m.fragment x ≡ m.fragment y → (united u v l c m).fragment x ≡ (united u v l c m).fragment y
  still_one x y e =
      ⊎_elim (λ h. (inside x h).fragment ∙ sym (inside y (⊎_elim (λ z. inl (sym e ∙ z)) (λ z. inr (sym e ∙ z)) h)).fragment)
      (λ h. (outside x h.0 h.1).fragment ∙ e ∙ sym (outside y (λ z. h.0 (e ∙ z)) (λ z. h.1 (e ∙ z))).fragment)
      (either_cases (m.fragment u) (m.fragment v) (m.fragment x))

  -- and who does so now did, or lies in what was united
  pub was_one : (x y : ℕ) →
      (united u v l c m).fragment x ≡ (united u v l c m).fragment y →
      (m.fragment x ≡ m.fragment y) ⊎ (Either (m.fragment u) (m.fragment v) (m.fragment x) × Either (m.fragment u) (m.fragment v) (m.fragment y))
  was_one x y e = ⊎_elim here away (either_cases (m.fragment u) (m.fragment v) (m.fragment x))
    where
      not_min : (z : ℕ) → m.fragment z ≢ m.fragment u → m.fragment z ≢ m.fragment v → m.fragment z ≢ min (m.fragment u) (m.fragment v)
      not_min z p q r = ⊎_elim (λ s. p (r ∙ s)) (λ s. q (r ∙ s)) (min_either (m.fragment u) (m.fragment v))

      here : Either (m.fragment u) (m.fragment v) (m.fragment x) →
          (m.fragment x ≡ m.fragment y) ⊎ (Either (m.fragment u) (m.fragment v) (m.fragment x) × Either (m.fragment u) (m.fragment v) (m.fragment y))
      here h =
          ⊎_elim (λ k. inr (h, k))
          (λ k. absurd (not_min y k.0 k.1 (sym (outside y k.0 k.1).fragment ∙ sym e ∙ (inside x h).fragment)))
          (either_cases (m.fragment u) (m.fragment v) (m.fragment y))

      away : (m.fragment x ≢ m.fragment u) × (m.fragment x ≢ m.fragment v) →
          (m.fragment x ≡ m.fragment y) ⊎ (Either (m.fragment u) (m.fragment v) (m.fragment x) × Either (m.fragment u) (m.fragment v) (m.fragment y))
      away h =
          ⊎_elim (λ k. absurd (not_min x h.0 h.1 (sym (outside x h.0 h.1).fragment ∙ e ∙ (inside y k).fragment)))
          (λ k. inl (sym (outside x h.0 h.1).fragment ∙ e ∙ (outside y k.0 k.1).fragment))
          (either_cases (m.fragment u) (m.fragment v) (m.fragment y))

-- level and core are a fragment's
abbrev pub IsEven : Fragments → Type 0
IsEven m = (x y : ℕ) → m.fragment x ≡ m.fragment y → (m.level x ≡ m.level y) × (m.core x ≡ m.core y)

pub united_even : (m : Fragments) (u v l : ℕ) (c : Option Key) → IsEven m → IsEven (united u v l c m)
united_even m u v l c even x y e = ⊎_elim same both (was_one m u v l c x y e)
  where
    same : m.fragment x ≡ m.fragment y →
        ((united u v l c m).level x ≡ (united u v l c m).level y) × ((united u v l c m).core x ≡ (united u v l c m).core y)
    same h =
        ⊎_elim
        (λ k.
        let i = inside m u v l c x k in
        let j = inside m u v l c y (⊎_elim (λ z. inl (sym h ∙ z)) (λ z. inr (sym h ∙ z)) k) in (i.level ∙ sym j.level, i.core ∙ sym j.core))
        (λ k.
        let i = outside m u v l c x k.0 k.1 in
        let j = outside m u v l c y (λ z. k.0 (h ∙ z)) (λ z. k.1 (h ∙ z)) in
        let s = even x y h in (i.level ∙ s.0 ∙ sym j.level, i.core ∙ s.1 ∙ sym j.core))
        (either_cases (m.fragment u) (m.fragment v) (m.fragment x))

    both : Either (m.fragment u) (m.fragment v) (m.fragment x) × Either (m.fragment u) (m.fragment v) (m.fragment y) →
        ((united u v l c m).level x ≡ (united u v l c m).level y) × ((united u v l c m).core x ≡ (united u v l c m).core y)
    both h =
        let i = inside m u v l c x h.0 in let j = inside m u v l c y h.1 in (i.level ∙ sym j.level, i.core ∙ sym j.core)
