-- Any two steps commute.
use Rattle.std.proofs.Common.{◌≡◌, ◌≢◌, ℕ, suc, ◌<◌, ◌≤◌, ◌+◌, Option, Some, List, inl, inr, ◌⊎◌, refl, sym, ◌∙◌, ap, ap₂, subst, ⊎_elim, arith}
use Rattle.std.proofs.lemmas.Bool.{cases_eq}
use Rattle.ghs_graph.specs.declared.key.Key.{Key}
use Rattle.ghs_protocol.specs.Merging.{Fragments, united, IsLeastOut, Unites, Merge, Absorb}
use Rattle.ghs_protocol.proofs.merging.United.{Either, either_cases, inside, outside, IsEven}
use Rattle.ghs_protocol.proofs.merging.Least.{least_is_one, least_stays, same_ends}
use Rattle.ghs_protocol.proofs.merging.Commute.{united_turned, apart_commute, share_commute}

-- a step over k from u to v: level and core of what it makes, and what is paid
pub data Way (ks : List Key) (pay : Option Key → ℕ → ℕ) (m : Fragments) (u v : ℕ) (k : Key) : ℕ → Option Key → ℕ → Type 0 where
  By_merge : IsLeastOut ks m v u k → m.level u ≡ m.level v → Way ks pay m u v k (suc (m.level u)) (Some k) (pay (m.core u) u + pay (m.core v) v)
  By_absorb : m.level u < m.level v → Way ks pay m u v k (m.level v) (m.core v) (pay (m.core u) u)

-- the same as a step
pub goes : (ks : List Key) (pay : Option Key → ℕ → ℕ) (m : Fragments) (u v l : ℕ) (c : Option Key) (i : ℕ) (k : Key) →
    IsLeastOut ks m u v k →
    Way ks pay m u v k l c i →
    Unites ks pay m k i (united u v l c m)
goes ks pay m u v _ _ _ k p (By_merge q e) = Merge k u v p q e
goes ks pay m u v _ _ _ k p (By_absorb lt) = Absorb k u v p lt

-- two steps from one state lead to one state, or each can be made after the other and both orders lead to one
pub data Closes (ks : List Key) (pay : Option Key → ℕ → ℕ) (n p : Fragments) (e f : Key) (i j : ℕ) : Type 0 where
  Same : n ≡ p → i ≡ j → Closes ks pay n p e f i j
  Square : (q : Fragments) → Unites ks pay n f j q → Unites ks pay p e i q → Closes ks pay n p e f i j

pub turn : {ks : List Key} {pay : Option Key → ℕ → ℕ} {n p : Fragments} {e f : Key} {i j : ℕ} → Closes ks pay n p e f i j → Closes ks pay p n f e j i
turn (Same e c) = Same (sym e) (sym c)
turn (Square q a b) = Square q b a

module _ (ks : List Key) (pay : Option Key → ℕ → ℕ) (m : Fragments) (even : IsEven m) where
  -- no step of f is undone by one of e: the level of the fragment of x stays
  level_stays : (u v x y l : ℕ) (c : Option Key) (e f : Key) {i : ℕ} →
      Way ks pay m u v e l c i →
      IsLeastOut ks m x y f →
      e ≢ f →
      m.fragment x ≢ m.fragment u →
      (united u v l c m).level x ≡ m.level x
  level_stays u v x y _ _ e f (By_merge p s) q ne away =
      (outside m u v (suc (m.level u)) (Some e) x away (λ h. ne (least_is_one ks m v u x y e f p q (sym h)))).level
  level_stays u v x y _ _ e f (By_absorb lt) q ne away =
      ⊎_elim (λ h. (inside m u v (m.level v) (m.core v) x (inr h)).level ∙ (even v x (sym h)).0)
      (λ h. (outside m u v (m.level v) (m.core v) x away h).level) (cases_eq (m.fragment x) (m.fragment v))

  -- so does its core
  core_stays : (u v x y l : ℕ) (c : Option Key) (e f : Key) {i : ℕ} →
      Way ks pay m u v e l c i →
      IsLeastOut ks m x y f →
      e ≢ f →
      m.fragment x ≢ m.fragment u →
      (united u v l c m).core x ≡ m.core x
  core_stays u v x y _ _ e f (By_merge p s) q ne away =
      (outside m u v (suc (m.level u)) (Some e) x away (λ h. ne (least_is_one ks m v u x y e f p q (sym h)))).core
  core_stays u v x y _ _ e f (By_absorb lt) q ne away =
      ⊎_elim (λ h. (inside m u v (m.level v) (m.core v) x (inr h)).core ∙ (even v x (sym h)).1)
      (λ h. (outside m u v (m.level v) (m.core v) x away h).core) (cases_eq (m.fragment x) (m.fragment v))

  -- no level falls
  level_grows : (u v l : ℕ) (c : Option Key) (e : Key) {i : ℕ} → Way ks pay m u v e l c i → (y : ℕ) → m.level y ≤ (united u v l c m).level y
  level_grows u v l c e a y =
      ⊎_elim (λ h. let i = (inside m u v l c y h).level in let b = up a h in omega (arith, i, b))
      (λ h. let o = (outside m u v l c y h.0 h.1).level in omega (arith, o)) (either_cases (m.fragment u) (m.fragment v) (m.fragment y))
    where
      up : {l : ℕ} {c : Option Key} {i : ℕ} → Way ks pay m u v e l c i → Either (m.fragment u) (m.fragment v) (m.fragment y) → m.level y ≤ l
      up (By_merge q s) h =
          ⊎_elim (λ z. let b = (even y u z).0 in omega (arith, b)) (λ z. let b = (even y v z).0 in omega (arith, b, s)) h
      up (By_absorb lt) h =
          ⊎_elim (λ z. let b = (even y u z).0 in omega (arith, b, lt)) (λ z. let b = (even y v z).0 in omega (arith, b)) h

  -- two steps over different links, from u to v and from x to y
  module _ (u v x y : ℕ) (e f : Key) (p : IsLeastOut ks m u v e) (q : IsLeastOut ks m x y f) (ne : e ≢ f) where
    other : m.fragment x ≢ m.fragment u
    other h = ne (least_is_one ks m u v x y e f p q (sym h))

    -- they don't lead into each other
    clash : {l k : ℕ} {c d : Option Key} {i j : ℕ} →
        Way ks pay m u v e l c i →
        Way ks pay m x y f k d j →
        m.fragment x ≡ m.fragment v →
        m.fragment y ≡ m.fragment u →
        ⊥
    clash (By_merge r s) b h j = ne (least_is_one ks m v u x y e f r q (sym h))
    clash (By_absorb lt) (By_merge r s) h j = ne (least_is_one ks m u v y x e f p r (sym j))
    clash (By_absorb lt) (By_absorb lt') h j = let a = (even x v h).0 in let b = (even y u j).0 in omega (arith, a, b, lt, lt')

    -- what both orders make is the same, if what each gives to a fragment that both change is
    module _ (l k : ℕ) (c d : Option Key) {i j : ℕ} (a : Way ks pay m u v e l c i) (b : Way ks pay m x y f k d j) (l' k' : ℕ) (c' d' : Option Key)
        (at_xv : m.fragment x ≡ m.fragment v → (k' ≡ l') × (d' ≡ c'))
        (at_yu : m.fragment y ≡ m.fragment u → (k' ≡ l') × (d' ≡ c'))
        (at_yv : m.fragment y ≡ m.fragment v → (k' ≡ l') × (d' ≡ c'))
        (aside : m.fragment x ≢ m.fragment v → m.fragment y ≢ m.fragment u → m.fragment y ≢ m.fragment v →
        ((k' ≡ k) × (d' ≡ d)) × ((l' ≡ l) × (c' ≡ c))) where
      abbrev Agree : Type 0
      Agree = united x y k' d' (united u v l c m) ≡ united u v l' c' (united x y k d m)

      same_given : (k' ≡ l') × (d' ≡ c') → united x y k' d' (united u v l c m) ≡ united x y l' c' (united u v l c m)
      same_given s = λ i. united x y (s.0 i) (s.1 i) (united u v l c m)

      by_xv : m.fragment x ≡ m.fragment v → Agree
      by_xv h =
          same_given (at_xv h) ∙
          share_commute m u v x y l' l k c' c d h (λ z. p.out (sym z)) (λ z. q.out (z ∙ sym h)) (λ z. clash a b h z)

      by_yu : m.fragment x ≢ m.fragment v → m.fragment y ≡ m.fragment u → Agree
      by_yu xv h =
          same_given (at_yu h) ∙
          united_turned (united u v l c m) x y l' c' ∙
          ap (united y x l' c') (united_turned m u v l c) ∙
          share_commute m v u y x l' l k c' c d h p.out (λ z. other z) xv ∙
          united_turned (united y x k d m) v u l' c' ∙
          ap (united u v l' c') (united_turned m y x k d)

      by_yv : m.fragment x ≢ m.fragment v → m.fragment y ≡ m.fragment v → Agree
      by_yv xv h =
          same_given (at_yv h) ∙
          united_turned (united u v l c m) x y l' c' ∙
          share_commute m u v y x l' l k c' c d h (λ z. p.out (sym z)) xv other ∙
          ap (united u v l' c') (united_turned m y x k d)

      by_none : m.fragment x ≢ m.fragment v → m.fragment y ≢ m.fragment u → m.fragment y ≢ m.fragment v → Agree
      by_none xv yu yv =
          let s = aside xv yu yv in
          (λ i. united x y (s.0.0 i) (s.0.1 i) (united u v l c m)) ∙
          apart_commute m u v x y l k c d other xv yu yv ∙
          sym (λ i. united u v (s.1.0 i) (s.1.1 i) (united x y k d m))

      agree : united x y k' d' (united u v l c m) ≡ united u v l' c' (united x y k d m)
      agree =
          ⊎_elim by_xv
          (λ xv.
          ⊎_elim (by_yu xv) (λ yu. ⊎_elim (by_yv xv) (by_none xv yu) (cases_eq (m.fragment y) (m.fragment v)))
          (cases_eq (m.fragment y) (m.fragment u)))
          (cases_eq (m.fragment x) (m.fragment v))

  module _ (u v x y : ℕ) (e f : Key) (p : IsLeastOut ks m u v e) (q : IsLeastOut ks m x y f) (ne : e ≢ f) where
    -- both steps can still be made
    f_later : (l k : ℕ) (c d : Option Key) {i j : ℕ} → Way ks pay m u v e l c i → Way ks pay m x y f k d j → IsLeastOut ks (united u v l c m) x y f
    f_later l k c d a b = least_stays ks m u v x y l c e f p q (other u v x y e f p q ne) (λ h j. clash u v x y e f p q ne a b h j)

    e_later : (l k : ℕ) (c d : Option Key) {i j : ℕ} → Way ks pay m u v e l c i → Way ks pay m x y f k d j → IsLeastOut ks (united x y k d m) u v e
    e_later l k c d a b =
        least_stays ks m x y u v k d f e q p (λ h. other u v x y e f p q ne (sym h)) (λ h j. clash u v x y e f p q ne a b (sym j) (sym h))

  -- after a step over e, one over f that absorbs
  absorbs_later : (u v x y l : ℕ) (c : Option Key) (e f : Key) {i : ℕ} →
      IsLeastOut ks m u v e →
      IsLeastOut ks m x y f →
      e ≢ f →
      Way ks pay m u v e l c i →
      m.level x < m.level y →
      Way ks pay (united u v l c m) x y f ((united u v l c m).level y) ((united u v l c m).core y) (pay (m.core x) x)
  absorbs_later u v x y l c e f p q ne a lt =
      let i = level_stays u v x y l c e f a q ne (other u v x y e f p q ne) in
      let j = level_grows u v l c e a y in
      subst (Way ks pay (united u v l c m) x y f ((united u v l c m).level y) ((united u v l c m).core y))
      (ap (λ o. pay o x) (core_stays u v x y l c e f a q ne (other u v x y e f p q ne))) (By_absorb (omega (arith, i, j, lt)))

  -- and one that merges
  merges_later : (u v x y l : ℕ) (c : Option Key) (e f : Key) {i : ℕ} →
      IsLeastOut ks m u v e →
      IsLeastOut ks m x y f →
      IsLeastOut ks m y x f →
      e ≢ f →
      Way ks pay m u v e l c i →
      m.level x ≡ m.level y →
      Way ks pay (united u v l c m) x y f (suc ((united u v l c m).level x)) (Some f) (pay (m.core x) x + pay (m.core y) y)
  merges_later u v x y l c e f p q r ne a s =
      subst (Way ks pay (united u v l c m) x y f (suc ((united u v l c m).level x)) (Some f))
      (ap₂ (λ o b. pay o x + pay b y) (core_stays u v x y l c e f a q ne (other u v x y e f p q ne))
      (core_stays u v y x l c e f a r ne (other u v y x e f p r ne)))
      (By_merge (least_stays ks m u v y x l c e f p r (other u v y x e f p r ne) (λ h. other u v x y e f p q ne))
      (level_stays u v x y l c e f a q ne (other u v x y e f p q ne) ∙ s ∙ sym (level_stays u v y x l c e f a r ne (other u v y x e f p r ne))))

  square : (u v x y : ℕ) (e f : Key) → e ≢ f → (l k : ℕ) (c d : Option Key) {i j : ℕ} →
      (p : IsLeastOut ks m u v e) (q : IsLeastOut ks m x y f) (a : Way ks pay m u v e l c i) (b : Way ks pay m x y f k d j) →
      (l' k' : ℕ) (c' d' : Option Key) →
      Way ks pay (united u v l c m) x y f k' d' j →
      Way ks pay (united x y k d m) u v e l' c' i →
      united x y k' d' (united u v l c m) ≡ united u v l' c' (united x y k d m) →
      Closes ks pay (united u v l c m) (united x y k d m) e f i j
  square u v x y e f ne l k c d {i} {j} p q a b l' k' c' d' fa eb s =
      Square (united x y k' d' (united u v l c m)) (goes ks pay (united u v l c m) x y k' d' j f (f_later u v x y e f p q ne l k c d a b) fa)
      (subst (Unites ks pay (united x y k d m) e i) (sym s)
      (goes ks pay (united x y k d m) u v l' c' i e (e_later u v x y e f p q ne l k c d a b) eb))

  two_merges : (u v x y : ℕ) (e f : Key) → e ≢ f →
      IsLeastOut ks m u v e → IsLeastOut ks m v u e → m.level u ≡ m.level v →
      IsLeastOut ks m x y f → IsLeastOut ks m y x f → m.level x ≡ m.level y →
      Closes ks pay (united u v (suc (m.level u)) (Some e) m) (united x y (suc (m.level x)) (Some f) m) e f (pay (m.core u) u + pay (m.core v) v)
      (pay (m.core x) x + pay (m.core y) y)
  two_merges u v x y e f ne p p' s q q' t =
      square u v x y e f ne _ _ _ _ p q (By_merge p' s) (By_merge q' t) _ _ _ _
      (merges_later u v x y _ _ e f p q q' ne (By_merge p' s) t) (merges_later x y u v _ _ f e q p p' (λ z. ne (sym z)) (By_merge q' t) s)
      (agree u v x y e f p q ne _ _ _ _ (By_merge p' s) (By_merge q' t) _ _ _ _ (λ h. absurd (ne (least_is_one ks m v u x y e f p' q (sym h))))
      (λ h. absurd (ne (least_is_one ks m u v y x e f p q' (sym h)))) (λ h. absurd (ne (least_is_one ks m v u y x e f p' q' (sym h))))
      (λ xv yu yv. (
        (ap suc (level_stays u v x y _ _ e f (By_merge p' s) q ne (other u v x y e f p q ne)), refl),
        (ap suc (level_stays x y u v _ _ f e (By_merge q' t) p (λ z. ne (sym z)) (λ z. other u v x y e f p q ne (sym z))), refl),
      )))

  merge_absorb : (u v x y : ℕ) (e f : Key) → e ≢ f →
      IsLeastOut ks m u v e → IsLeastOut ks m v u e → m.level u ≡ m.level v →
      IsLeastOut ks m x y f → m.level x < m.level y →
      Closes ks pay (united u v (suc (m.level u)) (Some e) m) (united x y (m.level y) (m.core y) m) e f (pay (m.core u) u + pay (m.core v) v)
      (pay (m.core x) x)
  merge_absorb u v x y e f ne p p' s q lt =
      square u v x y e f ne _ _ _ _ p q (By_merge p' s) (By_absorb lt) _ _ _ _ (absorbs_later u v x y _ _ e f p q ne (By_merge p' s) lt)
      (merges_later x y u v _ _ f e q p p' (λ z. ne (sym z)) (By_absorb lt) s)
      (agree u v x y e f p q ne _ _ _ _ (By_merge p' s) (By_absorb lt) _ _ _ _ (λ h. absurd (ne (least_is_one ks m v u x y e f p' q (sym h))))
      (λ h. in_it (inl h)) (λ h. in_it (inr h))
      (λ xv yu yv. let o = outside m u v (suc (m.level u)) (Some e) y yu yv in ((o.level, o.core), (ap suc stays, refl))))
    where
      stays : (united x y (m.level y) (m.core y) m).level u ≡ m.level u
      stays = level_stays x y u v _ _ f e (By_absorb lt) p (λ z. ne (sym z)) (λ z. other u v x y e f p q ne (sym z))

      in_it : Either (m.fragment u) (m.fragment v) (m.fragment y) →
          ((united u v (suc (m.level u)) (Some e) m).level y ≡ suc ((united x y (m.level y) (m.core y) m).level u)) ×
          ((united u v (suc (m.level u)) (Some e) m).core y ≡ Some e)
      in_it h = let i = inside m u v (suc (m.level u)) (Some e) y h in (i.level ∙ ap suc (sym stays), i.core)

  module _ (u v x y : ℕ) (e f : Key) (ne : e ≢ f) (p : IsLeastOut ks m u v e) (lt : m.level u < m.level v)
      (q : IsLeastOut ks m x y f) (lt' : m.level x < m.level y) where
    abbrev n : Fragments
    n = united u v (m.level v) (m.core v) m

    abbrev r : Fragments
    r = united x y (m.level y) (m.core y) m

    abbrev Meet : Type 0
    Meet = ((united u v (m.level v) (m.core v) m).level y ≡ (united x y (m.level y) (m.core y) m).level v) ×
        ((united u v (m.level v) (m.core v) m).core y ≡ (united x y (m.level y) (m.core y) m).core v)

    no_clash : m.fragment x ≡ m.fragment v → m.fragment y ≡ m.fragment u → ⊥
    no_clash = clash u v x y e f p q ne (By_absorb lt) (By_absorb lt')

    at_xv : m.fragment x ≡ m.fragment v → Meet
    at_xv h =
        let o = outside m u v (m.level v) (m.core v) y (no_clash h) (λ z. q.out (z ∙ sym h)) in
        let i = inside m x y (m.level y) (m.core y) v (inl (sym h)) in (o.level ∙ sym i.level, o.core ∙ sym i.core)

    at_yu : m.fragment y ≡ m.fragment u → Meet
    at_yu h =
        let i = inside m u v (m.level v) (m.core v) y (inl h) in
        let o = outside m x y (m.level y) (m.core y) v (λ z. no_clash (sym z) h) (λ z. p.out (z ∙ h)) in (i.level ∙ sym o.level, i.core ∙ sym o.core)

    at_yv : m.fragment y ≡ m.fragment v → Meet
    at_yv h =
        let i = inside m u v (m.level v) (m.core v) y (inr h) in
        let j = inside m x y (m.level y) (m.core y) v (inr (sym h)) in
        let s = even v y (sym h) in (i.level ∙ s.0 ∙ sym j.level, i.core ∙ s.1 ∙ sym j.core)

    aside : m.fragment x ≢ m.fragment v → m.fragment y ≢ m.fragment u → m.fragment y ≢ m.fragment v →
        (((united u v (m.level v) (m.core v) m).level y ≡ m.level y) × ((united u v (m.level v) (m.core v) m).core y ≡ m.core y)) ×
        (((united x y (m.level y) (m.core y) m).level v ≡ m.level v) × ((united x y (m.level y) (m.core y) m).core v ≡ m.core v))
    aside xv yu yv =
        let o = outside m u v (m.level v) (m.core v) y yu yv in
        let a = outside m x y (m.level y) (m.core y) v (λ z. xv (sym z)) (λ z. yv (sym z)) in ((o.level, o.core), (a.level, a.core))

    two_absorbs : Closes ks pay (united u v (m.level v) (m.core v) m) (united x y (m.level y) (m.core y) m) e f (pay (m.core u) u) (pay (m.core x) x)
    two_absorbs =
        square u v x y e f ne _ _ _ _ p q (By_absorb lt) (By_absorb lt') _ _ _ _ (absorbs_later u v x y _ _ e f p q ne (By_absorb lt) lt')
        (absorbs_later x y u v _ _ f e q p (λ z. ne (sym z)) (By_absorb lt') lt)
        (agree u v x y e f p q ne _ _ _ _ (By_absorb lt) (By_absorb lt') _ _ _ _ at_xv at_yu at_yv aside)

  swap : (a b : ℕ) → a + b ≡ b + a
  swap a b = omega arith

  -- over one link there is one step
  one_step : (k : Key) (i j : ℕ) (n p : Fragments) → Unites ks pay m k i n → Unites ks pay m k j p → (n ≡ p) × (i ≡ j)
  one_step k _ _ _ _ (Merge _ u v a a' s) (Merge _ x y b b' t) =
      ⊎_elim (λ h. (
        sym (λ i. united (h.0 i) (h.1 i) (suc (m.level (h.0 i))) (Some k) m),
        sym (λ i. pay (m.core (h.0 i)) (h.0 i) + pay (m.core (h.1 i)) (h.1 i)),
      ))
      (λ h. (
        (λ i. united u v (suc (s i)) (Some k) m) ∙ united_turned m u v (suc (m.level v)) (Some k) ∙
            sym (λ i. united (h.0 i) (h.1 i) (suc (m.level (h.0 i))) (Some k) m),
        swap (pay (m.core u) u) (pay (m.core v) v) ∙ sym (λ i. pay (m.core (h.0 i)) (h.0 i) + pay (m.core (h.1 i)) (h.1 i)),
      ))
      (same_ends k u v x y a.ends b.ends)
  one_step k _ _ _ _ (Merge _ u v a a' s) (Absorb _ x y b lt) =
      ⊎_elim (λ h. absurd (let i = ap m.level h.0 in let j = ap m.level h.1 in omega (arith, i, j, s, lt)))
      (λ h. absurd (let i = ap m.level h.0 in let j = ap m.level h.1 in omega (arith, i, j, s, lt))) (same_ends k u v x y a.ends b.ends)
  one_step k _ _ _ _ (Absorb _ u v a lt) (Merge _ x y b b' t) =
      ⊎_elim (λ h. absurd (let i = ap m.level h.0 in let j = ap m.level h.1 in omega (arith, i, j, t, lt)))
      (λ h. absurd (let i = ap m.level h.0 in let j = ap m.level h.1 in omega (arith, i, j, t, lt))) (same_ends k u v x y a.ends b.ends)
  one_step k _ _ _ _ (Absorb _ u v a lt) (Absorb _ x y b lt') =
      ⊎_elim (λ h. (sym (λ i. united (h.0 i) (h.1 i) (m.level (h.1 i)) (m.core (h.1 i)) m), sym (λ i. pay (m.core (h.0 i)) (h.0 i))))
      (λ h. absurd (let i = ap m.level h.0 in let j = ap m.level h.1 in omega (arith, i, j, lt, lt'))) (same_ends k u v x y a.ends b.ends)

  apart_links : (e f : Key) (i j : ℕ) (n p : Fragments) → e ≢ f → Unites ks pay m e i n → Unites ks pay m f j p → Closes ks pay n p e f i j
  apart_links e f _ _ _ _ ne (Merge _ u v a a' s) (Merge _ x y b b' t) = two_merges u v x y e f ne a a' s b b' t
  apart_links e f _ _ _ _ ne (Merge _ u v a a' s) (Absorb _ x y b lt) = merge_absorb u v x y e f ne a a' s b lt
  apart_links e f _ _ _ _ ne (Absorb _ u v a lt) (Merge _ x y b b' t) = turn (merge_absorb x y u v f e (λ z. ne (sym z)) b b' t a lt)
  apart_links e f _ _ _ _ ne (Absorb _ u v a lt) (Absorb _ x y b lt') = two_absorbs u v x y e f ne a lt b lt'

-- two links are one or two
pub cases_key : (e f : Key) → (e ≡ f) ⊎ (e ≢ f)
cases_key e f =
    ⊎_elim
    (λ w. ⊎_elim
    (λ a. ⊎_elim (λ b. inl (λ i. record { weight = w i; a = a i; b = b i })) (λ ne. inr (λ z. ne (ap (λ (k : Key). k.b) z))) (cases_eq e.b f.b))
    (λ ne. inr (λ z. ne (ap (λ (k : Key). k.a) z))) (cases_eq e.a f.a))
    (λ ne. inr (λ z. ne (ap (λ (k : Key). k.weight) z))) (cases_eq e.weight f.weight)

pub diamond : (ks : List Key) (pay : Option Key → ℕ → ℕ) (m : Fragments) → IsEven m → (e f : Key) (i j : ℕ) (n p : Fragments) →
    Unites ks pay m e i n → Unites ks pay m f j p → Closes ks pay n p e f i j
diamond ks pay m even e f i j n p a b =
    ⊎_elim (λ s. let z = one_step ks pay m even f i j n p (subst (λ k. Unites ks pay m k i n) s a) b in Same z.0 z.1)
    (λ ne. apart_links ks pay m even e f i j n p ne a b) (cases_key e f)
