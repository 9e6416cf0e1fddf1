-- The least link that leads out of a fragment: there is one at most, and a step over another link leaves it so.
use Rattle.std.proofs.Common.{◌≡◌, ◌≢◌, ℕ, false, Option, List, inl, inr, ◌⊎◌, sym, ◌∙◌, ⊎_elim, arith}
use Rattle.std.proofs.lemmas.Bool.Decides.{nat_tests}
use Rattle.std.specs.List.{Contains}
use Rattle.ghs_graph.specs.declared.key.Key.{Key}
use Rattle.ghs_graph.specs.Key.{key_lt}
use Rattle.ghs_protocol.specs.Merging.{Fragments, united, Between, IsLeastOut}
use Rattle.ghs_protocol.proofs.merging.United.{Either, still_one, was_one}
use Rattle.peer_network.proofs.lemmas.Graphs.{same_key}

-- the order of keys
pub not_below : (i j k : Key) → key_lt i j ≡ false → key_lt j k ≡ false → key_lt i k ≡ false
not_below i j k h l = grind (arith, nat_tests)

-- the ends of a link
pub turned : (k : Key) (u v : ℕ) → Between k u v → Between k v u
turned k u v h = ⊎_elim (λ e. inr e) (λ e. inl e) h

pub same_ends : (k : Key) (u v x y : ℕ) → Between k u v → Between k x y → ((x ≡ u) × (y ≡ v)) ⊎ ((x ≡ v) × (y ≡ u))
same_ends k u v x y h l =
    ⊎_elim (λ e. ⊎_elim (λ f. inl (sym f.0 ∙ e.0, sym f.1 ∙ e.1)) (λ f. inr (sym f.1 ∙ e.1, sym f.0 ∙ e.0)) l)
    (λ e. ⊎_elim (λ f. inr (sym f.0 ∙ e.0, sym f.1 ∙ e.1)) (λ f. inl (sym f.1 ∙ e.1, sym f.0 ∙ e.0)) l) h

module _ (ks : List Key) (m : Fragments) where
  -- one link at most is the least that leads out
  pub least_is_one : (u v x y : ℕ) (e f : Key) → IsLeastOut ks m u v e → IsLeastOut ks m x y f → m.fragment u ≡ m.fragment x → e ≡ f
  least_is_one u v x y e f p q s =
      same_key e f (q.least e u v p.link p.ends s (λ z. p.out (z ∙ sym s))) (p.least f x y q.link q.ends (sym s) (λ z. q.out (z ∙ s)))

  -- f, the least out of the fragment of x, is so still when those of u and v are one
  module _ (u v x y l : ℕ) (c : Option Key) (e f : Key) (p : IsLeastOut ks m u v e) (q : IsLeastOut ks m x y f)
      (other : m.fragment x ≢ m.fragment u) (away : m.fragment x ≡ m.fragment v → m.fragment y ≢ m.fragment u) where
    -- where x lies in what was united, it lies with v
    with_v : Either (m.fragment u) (m.fragment v) (m.fragment x) → m.fragment x ≡ m.fragment v
    with_v h = ⊎_elim (λ z. absurd (other z)) (λ z. z) h

    still_out : (united u v l c m).fragment y ≢ (united u v l c m).fragment x
    still_out e =
        ⊎_elim (λ z. q.out z)
        (λ h. ⊎_elim (λ z. away (with_v h.1) z) (λ z. q.out (z ∙ sym (with_v h.1))) h.0) (was_one m u v l c y x e)

    still_least : (j : Key) (s t : ℕ) →
        Contains ks j →
        Between j s t →
        (united u v l c m).fragment s ≡ (united u v l c m).fragment x →
        (united u v l c m).fragment t ≢ (united u v l c m).fragment x →
        key_lt j f ≡ false
    still_least j s t has ends in_it out =
        ⊎_elim own (λ h. ⊎_elim (λ z. by_u (with_v h.1) z) (λ z. own (z ∙ sym (with_v h.1))) h.0) (was_one m u v l c s x in_it)
      where
        own : m.fragment s ≡ m.fragment x → key_lt j f ≡ false
        own z = q.least j s t has ends z (λ k. out (still_one m u v l c t x k))

        by_u : m.fragment x ≡ m.fragment v → m.fragment s ≡ m.fragment u → key_lt j f ≡ false
        by_u h z =
            not_below j e f (p.least j s t has ends z (λ k. out (still_one m u v l c t s (k ∙ sym z) ∙ in_it)))
            (q.least e v u p.link (turned e u v p.ends) (sym h) (λ k. other (sym k)))

    pub least_stays : IsLeastOut ks (united u v l c m) x y f
    least_stays = record { link = q.link; ends = q.ends; out = still_out; least = still_least }
