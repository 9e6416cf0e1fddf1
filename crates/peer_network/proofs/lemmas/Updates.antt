-- Functions with one value put in.
use Rattle.std.proofs.Common.{◌≡◌, ◌≢◌, ℕ, ◌+◌, ◌==◌, cond, add-zero, ◌⊎◌, inl, inr, ⊎_elim, refl, sym, ◌∙◌, ap, eq-eqb, ne_eqb}
use Rattle.std.proofs.lemmas.Bool.{cases_eq}
use Rattle.std.proofs.Math.Path.{fun_ext}
use Rattle.peer_network.specs.Updates.{put, put_at}

pub put_same : {A : Type 0} (f : ℕ → A) (i : ℕ) (x : A) → put f i x i ≡ x
put_same f i x = rw (eq-eqb i i refl)

pub put_other : {A : Type 0} (f : ℕ → A) (i j : ℕ) (x : A) → j ≢ i → put f i x j ≡ f j
put_other f i j x ne = rw (ne_eqb j i ne)

pub put_put : {A : Type 0} (f : ℕ → A) (i : ℕ) (x y : A) → put (put f i x) i y ≡ put f i y
put_put f i x y = fun_ext at
  where
    at : (j : ℕ) → put (put f i x) i y j ≡ put f i y j
    at j =
        ⊎_elim (λ (e : j ≡ i). rw e (put_same (put f i x) i y ∙ sym (put_same f i y)))
        (λ ne. put_other (put f i x) i j y ne ∙ put_other f i j x ne ∙ sym (put_other f i j y ne)) (cases_eq j i)

-- two places are the same, or they aren't
pub one_place : (v p a b : ℕ) → ((a ≡ v) × (b ≡ p)) ⊎ ((a ≡ v) × (b ≡ p) → ⊥)
one_place v p a b =
    ⊎_elim (λ (e : a ≡ v). ⊎_elim (λ (h : b ≡ p). inl (e, h)) (λ h. inr (λ z. h z.1)) (cases_eq b p)) (λ e. inr (λ z. e z.0)) (cases_eq a v)

pub put_at_same : {A : Type 0} (f : ℕ → ℕ → A) (v p : ℕ) (x : A) → put_at f v p x v p ≡ x
put_at_same f v p x = rw (eq-eqb v v refl, eq-eqb p p refl)

pub put_at_node : {A : Type 0} (f : ℕ → ℕ → A) (v p a b : ℕ) (x : A) → a ≢ v → put_at f v p x a b ≡ f a b
put_at_node f v p a b x ne = rw (ne_eqb a v ne)

pub put_at_port : {A : Type 0} (f : ℕ → ℕ → A) (v p b : ℕ) (x : A) → b ≢ p → put_at f v p x v b ≡ f v b
put_at_port f v p b x ne = rw (eq-eqb v v refl, ne_eqb b p ne)

pub put_at_miss : {A : Type 0} (f : ℕ → ℕ → A) (v p a b : ℕ) (x : A) → ((a ≡ v) × (b ≡ p) → ⊥) → put_at f v p x a b ≡ f a b
put_at_miss f v p a b x ne = ⊎_elim (λ (e : a ≡ v). rw e (put_at_port f v p b x (λ h. ne (e, h)))) (λ e. put_at_node f v p a b x e) (cases_eq a v)

pub put_at_hit : {A : Type 0} (f : ℕ → ℕ → A) (v p a b : ℕ) (x : A) → a ≡ v → b ≡ p → put_at f v p x a b ≡ x
put_at_hit f v p a b x e h = rw (e, h) (put_at_same f v p x)

-- two places that change in turn, in either order
pub put_at_swap : {A : Type 0} (f : ℕ → ℕ → A) (v p a b : ℕ) (x : A) (h : A → A) → a ≢ v → (c d : ℕ) →
    put_at (put_at f v p x) a b (h (put_at f v p x a b)) c d ≡ put_at (put_at f a b (h (f a b))) v p x c d
put_at_swap f v p a b x h ne c d = ⊎_elim at_a off_a (one_place a b c d)
  where
    at_a : (c ≡ a) × (d ≡ b) → put_at (put_at f v p x) a b (h (put_at f v p x a b)) c d ≡ put_at (put_at f a b (h (f a b))) v p x c d
    at_a e =
        put_at_hit (put_at f v p x) a b c d _ e.0 e.1 ∙ ap h (put_at_miss f v p a b x (λ z. ne z.0)) ∙
        sym (put_at_miss (put_at f a b (h (f a b))) v p c d x (λ z. ne (sym e.0 ∙ z.0)) ∙ put_at_hit f a b c d _ e.0 e.1)

    off_a : ((c ≡ a) × (d ≡ b) → ⊥) → put_at (put_at f v p x) a b (h (put_at f v p x a b)) c d ≡ put_at (put_at f a b (h (f a b))) v p x c d
    off_a no_a = put_at_miss (put_at f v p x) a b c d _ no_a ∙ ⊎_elim
        (λ e. put_at_hit f v p c d x e.0 e.1 ∙ sym (put_at_hit (put_at f a b (h (f a b))) v p c d x e.0 e.1))
        (λ no_v. put_at_miss f v p c d x no_v ∙ sym (put_at_miss (put_at f a b (h (f a b))) v p c d x no_v ∙ put_at_miss f a b c d _ no_a))
        (one_place v p c d)

pub put_alike : {A B : Type 0} (k : A → B) (f : ℕ → A) (u : ℕ) (x : A) → k x ≡ k (f u) → (v : ℕ) → k (put f u x v) ≡ k (f v)
put_alike k f u x e v = ⊎_elim (λ (h : v ≡ u). rw h (ap k (put_same f u x) ∙ e)) (λ ne. ap k (put_other f u v x ne)) (cases_eq v u)

-- a count that rises by c at i
pub put_count : (f : ℕ → ℕ) (i c x k : ℕ) → x ≡ f i + c → put f i x k ≡ f k + cond (i == k) c 0
put_count f i c x k q =
    ⊎_elim (λ (e : k ≡ i). rw (e, eq-eqb i i refl) q) (λ ne. rw (ne_eqb k i ne, ne_eqb i k (λ z. ne (sym z)), add-zero)) (cases_eq k i)
