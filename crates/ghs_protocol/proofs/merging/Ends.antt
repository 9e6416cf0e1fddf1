-- Where a link leads out of a fragment two can unite: the least of those that lead out of a fragment of the least level.
use Rattle.std.proofs.Common.{◌≡◌, ◌≢◌, ℕ, suc, ◌+◌, ◌<◌, ◌≤◌, min, Option, Some, false, List, [], ◌∷◌, inl, inr, ◌⊎◌, refl, sym, ◌∙◌, ap, subst, ⊎_elim, arith}
use Rattle.std.specs.List.{Contains}
use Rattle.std.proofs.lemmas.Bool.{cases_eq, cases_lt, cases_order, cases_Bool}
use Rattle.std.proofs.lemmas.List.Elements.{Contains-append_cases, Contains-append_right, Contains-append_left, Contains-push, Contains-push_cases}
use Rattle.ghs_graph.specs.declared.key.Key.{Key}
use Rattle.ghs_graph.specs.Key.{key_lt}
use Rattle.ghs_graph.proofs.lemmas.Keys.{lt_irreflexive, lt_asymmetric}
use Rattle.ghs_protocol.specs.Merging.{Fragments, united, Between, IsLeastOut, Unites, Merge, Absorb, IsWhole, IsEnd}
use Rattle.ghs_protocol.proofs.merging.United.{IsEven}
use Rattle.ghs_protocol.proofs.merging.Least.{turned, not_below}

module _ (m : Fragments) where
  -- the link leads out of a fragment
  abbrev Leaves : Key → Type 0
  Leaves k = m.fragment k.a ≢ m.fragment k.b

  -- the lower of the levels at its ends
  abbrev low : Key → ℕ
  low k = min (m.level k.a) (m.level k.b)

  -- k comes before j: by level, then by key
  abbrev Before : Key → Key → Type 0
  Before k j = (low k < low j) ⊎ ((low k ≡ low j) × (key_lt j k ≡ false))

  before_self : (k : Key) → Before k k
  before_self k = inr (refl, lt_irreflexive k)

  before_on : (i j k : Key) → Before i j → Before j k → Before i k
  before_on i j k (inl a) (inl b) = inl (omega (arith, a, b))
  before_on i j k (inl a) (inr b) = inl (let c = b.0 in omega (arith, a, c))
  before_on i j k (inr a) (inl b) = inl (let c = a.0 in omega (arith, b, c))
  before_on i j k (inr a) (inr b) = inr (a.0 ∙ b.0, not_below k j i b.1 a.1)

  before_cases : (j k : Key) → Before j k ⊎ Before k j
  before_cases j k =
      ⊎_elim
      (λ e.
      ⊎_elim (λ lt. inl (inr (e, lt_asymmetric j k lt))) (λ ge. inr (inr (sym e, ge))) (cases_Bool (key_lt j k)))
      (λ ne. ⊎_elim (λ lt. inl (inl lt)) (λ gt. inr (inl gt)) ne) (cases_order (low j) (low k))

  -- the first of those of a list that lead out
  pub record First (ks : List Key) : Type 0 where
    pub link : Key
    pub has : Contains ks link
    pub leaves : m.fragment link.a ≢ m.fragment link.b
    pub first : (j : Key) → Contains ks j → m.fragment j.a ≢ m.fragment j.b → Before link j

  one_of : (k j : Key) (ks : List Key) → Contains (k ∷ ks) j → (k ≡ j) ⊎ Contains ks j
  one_of k j ks h =
      ⊎_elim (λ a. ⊎_elim (λ b. absurd (let lt = b.1 in omega (arith, lt))) (λ b. inl b) (Contains-push_cases [] k j a)) (λ a. inr a)
      (Contains-append_cases (k ∷ []) ks j h)

  pub first_out : (ks : List Key) → First ks ⊎ ((j : Key) → Contains ks j → m.fragment j.a ≡ m.fragment j.b)
  first_out [] = inr (λ j h. absurd (let lt = h.1 in omega (arith, lt)))
  first_out (k ∷ ks) = go (first_out ks) (cases_eq (m.fragment k.a) (m.fragment k.b))
    where
      here : Contains (k ∷ ks) k
      here = Contains-append_left (k ∷ []) ks k (Contains-push [] k)

      there : (j : Key) → Contains ks j → Contains (k ∷ ks) j
      there j h = Contains-append_right (k ∷ []) ks j h

      chosen : (l : Key) → Contains (k ∷ ks) l → m.fragment l.a ≢ m.fragment l.b →
          (m.fragment k.a ≢ m.fragment k.b → Before l k) →
          ((j : Key) → Contains ks j → m.fragment j.a ≢ m.fragment j.b → Before l j) →
          First (k ∷ ks)
      chosen l has out at_k at_rest = record {
        link = l;
        has = has;
        leaves = out;
        first = λ j h leaves.
            ⊎_elim (λ e. subst (λ x. m.fragment x.a ≢ m.fragment x.b → Before l x) e at_k leaves) (λ r. at_rest j r leaves) (one_of k j ks h);
      }

      go :
          First ks ⊎ ((j : Key) → Contains ks j → m.fragment j.a ≡ m.fragment j.b) →
          (m.fragment k.a ≡ m.fragment k.b) ⊎ (m.fragment k.a ≢ m.fragment k.b) →
          First (k ∷ ks) ⊎ ((j : Key) → Contains (k ∷ ks) j → m.fragment j.a ≡ m.fragment j.b)
      go (inl f) (inl e) = inl (chosen f.link (there f.link f.has) f.leaves (λ ne. absurd (ne e)) f.first)
      go (inl f) (inr ne) =
          ⊎_elim (λ b. inl (chosen f.link (there f.link f.has) f.leaves (λ z. b) f.first))
          (λ b. inl (chosen k here ne (λ z. before_self k) (λ j h out. before_on k f.link j b (f.first j h out)))) (before_cases f.link k)
      go (inr none) (inl e) = inr (λ j h. ⊎_elim (λ s. subst (λ x. m.fragment x.a ≡ m.fragment x.b) s e) (λ r. none j r) (one_of k j ks h))
      go (inr none) (inr ne) = inl (chosen k here ne (λ z. before_self k) (λ j h out. absurd (out (none j h))))

-- a step that can be made
pub record Step (ks : List Key) (pay : Option Key → ℕ → ℕ) (m : Fragments) : Type 0 where
  pub link : Key
  pub cost : ℕ
  pub next : Fragments
  pub unites : Unites ks pay m link cost next

module _ (ks : List Key) (pay : Option Key → ℕ → ℕ) (m : Fragments) (even : IsEven m) where
  -- the first is the least that leads out at the end of the lower level
  least_at : (f : First m ks) (u v : ℕ) →
      Between f.link u v →
      m.level u ≤ m.level v →
      IsLeastOut ks m u v f.link
  least_at f u v ends le = record { link = f.has; ends = ends; out = out ends; least = least }
    where
      out : Between f.link u v → m.fragment v ≢ m.fragment u
      out h e =
          ⊎_elim (λ z. f.leaves (ap m.fragment z.0 ∙ sym e ∙ sym (ap m.fragment z.1)))
          (λ z. f.leaves (ap m.fragment z.0 ∙ e ∙ sym (ap m.fragment z.1))) h

      is_low : Between f.link u v → min (m.level f.link.a) (m.level f.link.b) ≡ m.level u
      is_low h =
          ⊎_elim (λ z. let a = ap m.level z.0 in let b = ap m.level z.1 in omega (arith, a, b, le))
          (λ z. let a = ap m.level z.0 in let b = ap m.level z.1 in omega (arith, a, b, le)) h

      least : (j : Key) (s t : ℕ) → Contains ks j → Between j s t → m.fragment s ≡ m.fragment u → m.fragment t ≢ m.fragment u →
          key_lt j f.link ≡ false
      least j s t has h same away =
          ⊎_elim (λ lt. absurd (let a = is_low ends in let b = low_j h in omega (arith, a, b, lt))) (λ z. z.1) (f.first j has (leaves h))
        where
          level : m.level s ≡ m.level u
          level = (even s u same).0

          leaves : Between j s t → m.fragment j.a ≢ m.fragment j.b
          leaves k e =
              ⊎_elim (λ z. away (sym (ap m.fragment z.1) ∙ sym e ∙ ap m.fragment z.0 ∙ same))
              (λ z. away (sym (ap m.fragment z.0) ∙ e ∙ ap m.fragment z.1 ∙ same)) k

          low_j : Between j s t → min (m.level j.a) (m.level j.b) ≤ m.level u
          low_j k =
              ⊎_elim (λ z. let a = ap m.level z.0 in omega (arith, a, level)) (λ z. let a = ap m.level z.1 in omega (arith, a, level)) k

  -- so a step can be made
  step_at : (f : First m ks) (u v : ℕ) → Between f.link u v → m.level u ≤ m.level v → Step ks pay m
  step_at f u v ends le =
      ⊎_elim
      (λ e. record {
        link = f.link;
        cost = pay (m.core u) u + pay (m.core v) v;
        next = united u v (suc (m.level u)) (Some f.link) m;
        unites =
            Merge f.link u v (least_at f u v ends le) (least_at f v u (turned f.link u v ends) (omega (arith, e))) e;
      })
      (λ ne. record {
        link = f.link;
        cost = pay (m.core u) u;
        next = united u v (m.level v) (m.core v) m;
        unites = Absorb f.link u v (least_at f u v ends le) (omega (arith, ne, le));
      })
      (cases_eq (m.level u) (m.level v))

  pub step_from : First m ks → Step ks pay m
  step_from f =
      ⊎_elim (λ lt. step_at f f.link.b f.link.a (inr (refl, refl)) (omega (arith, lt)))
      (λ le. step_at f f.link.a f.link.b (inl (refl, refl)) le)
      (cases_lt (m.level f.link.b) (m.level f.link.a))

  -- where none can, no link leads out of any fragment
  whole_of_none : ((j : Key) → Contains ks j → m.fragment j.a ≡ m.fragment j.b) → (v : ℕ) → IsWhole ks m v
  whole_of_none none v j s t has ends e =
      ⊎_elim (λ z. sym (ap m.fragment z.1) ∙ sym (none j has) ∙ ap m.fragment z.0 ∙ e)
      (λ z. sym (ap m.fragment z.0) ∙ none j has ∙ ap m.fragment z.1 ∙ e) ends

  pub end_whole : IsEnd ks m → (v : ℕ) → IsWhole ks m v
  end_whole no_more =
      ⊎_elim (λ f. absurd (let t = step_from f in no_more pay t.link t.cost t.next t.unites)) (λ none. whole_of_none none) (first_out m ks)

-- and where no link leads out none can
none_out : (ks : List Key) (m : Fragments) → ((j : Key) → Contains ks j → m.fragment j.a ≡ m.fragment j.b) → (u v : ℕ) (k : Key) →
    IsLeastOut ks m u v k →
    ⊥
none_out ks m none u v k p =
    ⊎_elim (λ z. p.out (sym (ap m.fragment z.1) ∙ sym (none k p.link) ∙ ap m.fragment z.0))
    (λ z. p.out (sym (ap m.fragment z.0) ∙ none k p.link ∙ ap m.fragment z.1)) p.ends

pub end_of_none : (ks : List Key) (m : Fragments) → ((j : Key) → Contains ks j → m.fragment j.a ≡ m.fragment j.b) → IsEnd ks m
end_of_none ks m none _ _ _ _ (Merge k u v p q e) = none_out ks m none u v k p
end_of_none ks m none _ _ _ _ (Absorb k u v p lt) = none_out ks m none u v k p
