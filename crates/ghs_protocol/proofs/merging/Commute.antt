-- Uniting twice: in either order the same.
use Rattle.std.proofs.Common.{◌≡◌, ◌≢◌, ℕ, min, Option, inl, inr, sym, ◌∙◌, ap, ⊎_elim, arith}
use Rattle.std.proofs.Math.Path.{fun_ext}
use Rattle.std.proofs.lemmas.Bool.{cases_eq}
use Rattle.ghs_graph.specs.declared.key.Key.{Key}
use Rattle.ghs_protocol.specs.Merging.{Fragments, united}
use Rattle.ghs_protocol.proofs.merging.United.{Either, either_cases, Inside, Outside, inside, outside, min_either}

-- the same at a node, and so everywhere
pub record AlikeAt (m n : Fragments) (w : ℕ) : Type 0 where
  pub fragment : m.fragment w ≡ n.fragment w
  pub level : m.level w ≡ n.level w
  pub core : m.core w ≡ n.core w

pub alike : (m n : Fragments) → ((w : ℕ) → AlikeAt m n w) → m ≡ n
alike m n h = λ i. record {
  fragment = fun_ext (λ w. (h w).fragment) i;
  level = fun_ext (λ w. (h w).level) i;
  core = fun_ext (λ w. (h w).core) i;
}

min_comm : (a b : ℕ) → min a b ≡ min b a
min_comm a b = omega arith

min_three : (a b d : ℕ) → min (min a b) d ≡ min a (min b d)
min_three a b d = omega arith

-- which of two is named first doesn't matter
pub united_turned : (m : Fragments) (u v l : ℕ) (c : Option Key) → united u v l c m ≡ united v u l c m
united_turned m u v l c = alike _ _ at
  where
    at : (w : ℕ) → AlikeAt (united u v l c m) (united v u l c m) w
    at w =
        ⊎_elim
        (λ h.
        let i = inside m u v l c w h in
        let j = inside m v u l c w (⊎_elim (λ z. inr z) (λ z. inl z) h) in
        record {
          fragment = i.fragment ∙ min_comm (m.fragment u) (m.fragment v) ∙ sym j.fragment;
          level = i.level ∙ sym j.level;
          core = i.core ∙ sym j.core;
        })
        (λ h.
        let i = outside m u v l c w h.0 h.1 in
        let j = outside m v u l c w h.1 h.0 in
        record { fragment = i.fragment ∙ sym j.fragment; level = i.level ∙ sym j.level; core = i.core ∙ sym j.core })
        (either_cases (m.fragment u) (m.fragment v) (m.fragment w))

-- four fragments unite, two and two
module _ (m : Fragments) (u v x y l k : ℕ) (c d : Option Key)
    (xu : m.fragment x ≢ m.fragment u) (xv : m.fragment x ≢ m.fragment v) (yu : m.fragment y ≢ m.fragment u) (yv : m.fragment y ≢ m.fragment v) where
  abbrev first : Fragments
  first = united u v l c m

  abbrev other : Fragments
  other = united x y k d m

  x_first : Outside m (united u v l c m) x
  x_first = outside m u v l c x xu xv

  y_first : Outside m (united u v l c m) y
  y_first = outside m u v l c y yu yv

  u_other : Outside m (united x y k d m) u
  u_other = outside m x y k d u (λ e. xu (sym e)) (λ e. yu (sym e))

  v_other : Outside m (united x y k d m) v
  v_other = outside m x y k d v (λ e. xv (sym e)) (λ e. yv (sym e))

  not_min : (a b z : ℕ) → z ≢ a → z ≢ b → min a b ≢ z
  not_min a b z p q e = ⊎_elim (λ h. p (sym e ∙ h)) (λ h. q (sym e ∙ h)) (min_either a b)

  apart_at : (w : ℕ) → AlikeAt (united x y k d (united u v l c m)) (united u v l c (united x y k d m)) w
  apart_at w = ⊎_elim by_uv (λ h. ⊎_elim (by_xy h) (neither h) (either_cases (m.fragment x) (m.fragment y) (m.fragment w)))
      (either_cases (m.fragment u) (m.fragment v) (m.fragment w))
    where
      by_uv : Either (m.fragment u) (m.fragment v) (m.fragment w) → AlikeAt (united x y k d (united u v l c m)) (united u v l c (united x y k d m)) w
      by_uv h =
          let i = inside m u v l c w h in
          let j = outside (united u v l c m) x y k d w
          (λ e. not_min (m.fragment u) (m.fragment v) (m.fragment x) xu xv (sym i.fragment ∙ e ∙ x_first.fragment))
          (λ e. not_min (m.fragment u) (m.fragment v) (m.fragment y) yu yv (sym i.fragment ∙ e ∙ y_first.fragment)) in
          let o = outside m x y k d w (⊎_elim (λ z e. xu (sym e ∙ z)) (λ z e. xv (sym e ∙ z)) h)
          (⊎_elim (λ z e. yu (sym e ∙ z)) (λ z e. yv (sym e ∙ z)) h) in
          let n = inside (united x y k d m) u v l c w
          (⊎_elim (λ z. inl (o.fragment ∙ z ∙ sym u_other.fragment)) (λ z. inr (o.fragment ∙ z ∙ sym v_other.fragment)) h) in
          record {
            fragment = j.fragment ∙ i.fragment ∙ ap (λ a. min a (m.fragment v)) (sym u_other.fragment) ∙
                ap (λ a. min ((united x y k d m).fragment u) a) (sym v_other.fragment) ∙ sym n.fragment;
            level = j.level ∙ i.level ∙ sym n.level;
            core = j.core ∙ i.core ∙ sym n.core;
          }

      by_xy : (m.fragment w ≢ m.fragment u) × (m.fragment w ≢ m.fragment v) →
          Either (m.fragment x) (m.fragment y) (m.fragment w) → AlikeAt (united x y k d (united u v l c m)) (united u v l c (united x y k d m)) w
      by_xy a h =
          let i = outside m u v l c w a.0 a.1 in
          let j = inside (united u v l c m) x y k d w
          (⊎_elim (λ z. inl (i.fragment ∙ z ∙ sym x_first.fragment)) (λ z. inr (i.fragment ∙ z ∙ sym y_first.fragment)) h) in
          let o = inside m x y k d w h in
          let n = outside (united x y k d m) u v l c w
          (λ e. not_min (m.fragment x) (m.fragment y) (m.fragment u) (λ z. xu (sym z)) (λ z. yu (sym z)) (sym o.fragment ∙ e ∙ u_other.fragment))
          (λ e. not_min (m.fragment x) (m.fragment y) (m.fragment v) (λ z. xv (sym z)) (λ z. yv (sym z)) (sym o.fragment ∙ e ∙ v_other.fragment)) in
          record {
            fragment = j.fragment ∙ ap (λ a. min a ((united u v l c m).fragment y)) x_first.fragment ∙
                ap (λ a. min (m.fragment x) a) y_first.fragment ∙ sym o.fragment ∙ sym n.fragment;
            level = j.level ∙ sym o.level ∙ sym n.level;
            core = j.core ∙ sym o.core ∙ sym n.core;
          }

      neither : (m.fragment w ≢ m.fragment u) × (m.fragment w ≢ m.fragment v) →
          (m.fragment w ≢ m.fragment x) × (m.fragment w ≢ m.fragment y) →
          AlikeAt (united x y k d (united u v l c m)) (united u v l c (united x y k d m)) w
      neither a b =
          let i = outside m u v l c w a.0 a.1 in
          let j = outside (united u v l c m) x y k d w (λ e. b.0 (sym i.fragment ∙ e ∙ x_first.fragment))
          (λ e. b.1 (sym i.fragment ∙ e ∙ y_first.fragment)) in
          let o = outside m x y k d w b.0 b.1 in
          let n = outside (united x y k d m) u v l c w (λ e. a.0 (sym o.fragment ∙ e ∙ u_other.fragment))
          (λ e. a.1 (sym o.fragment ∙ e ∙ v_other.fragment)) in
          record {
            fragment = j.fragment ∙ i.fragment ∙ sym o.fragment ∙ sym n.fragment;
            level = j.level ∙ i.level ∙ sym o.level ∙ sym n.level;
            core = j.core ∙ i.core ∙ sym o.core ∙ sym n.core;
          }

  pub apart_commute : united x y k d (united u v l c m) ≡ united u v l c (united x y k d m)
  apart_commute = alike _ _ apart_at

-- three fragments unite, x lying with v: what level and core the first two are given doesn't matter
module _ (m : Fragments) (u v x y l l1 l2 : ℕ) (c c1 c2 : Option Key) (xv : m.fragment x ≡ m.fragment v)
    (uv : m.fragment u ≢ m.fragment v) (yv : m.fragment y ≢ m.fragment v) (yu : m.fragment y ≢ m.fragment u) where
  x_in : Inside m (united u v l1 c1 m) u v l1 c1 x
  x_in = inside m u v l1 c1 x (inr xv)

  y_out : Outside m (united u v l1 c1 m) y
  y_out = outside m u v l1 c1 y yu yv

  v_in : Inside m (united x y l2 c2 m) x y l2 c2 v
  v_in = inside m x y l2 c2 v (inl (sym xv))

  u_out : Outside m (united x y l2 c2 m) u
  u_out = outside m x y l2 c2 u (λ e. uv (e ∙ xv)) (λ e. yu (sym e))

  abbrev left : Fragments
  left = united x y l c (united u v l1 c1 m)

  abbrev right : Fragments
  right = united u v l c (united x y l2 c2 m)

  same_name : min ((united u v l1 c1 m).fragment x) ((united u v l1 c1 m).fragment y) ≡ min ((united x y l2 c2 m).fragment u)
      ((united x y l2 c2 m).fragment v)
  same_name = let a = x_in.fragment in let b = y_out.fragment in let p = v_in.fragment in let q = u_out.fragment in omega (arith, a, b, p, q, xv)

  both_in : (w : ℕ) → Either ((united u v l1 c1 m).fragment x) ((united u v l1 c1 m).fragment y) ((united u v l1 c1 m).fragment w) →
      Either ((united x y l2 c2 m).fragment u) ((united x y l2 c2 m).fragment v) ((united x y l2 c2 m).fragment w) → AlikeAt left right w
  both_in w h k =
      let i = inside (united u v l1 c1 m) x y l c w h in
      let j = inside (united x y l2 c2 m) u v l c w k in
      record { fragment = i.fragment ∙ same_name ∙ sym j.fragment; level = i.level ∙ sym j.level; core = i.core ∙ sym j.core }

  share_at : (w : ℕ) → AlikeAt left right w
  share_at w =
      ⊎_elim (λ h. ⊎_elim (at_u h) at_v h) (λ h. ⊎_elim (at_y h) (nowhere h) (cases_eq (m.fragment w) (m.fragment y)))
      (either_cases (m.fragment u) (m.fragment v) (m.fragment w))
    where
      at_u : Either (m.fragment u) (m.fragment v) (m.fragment w) → m.fragment w ≡ m.fragment u → AlikeAt left right w
      at_u h z =
          let i = inside m u v l1 c1 w h in
          let o = outside m x y l2 c2 w (λ e. uv (sym z ∙ e ∙ xv)) (λ e. yu (sym e ∙ z)) in
          both_in w (inl (i.fragment ∙ sym x_in.fragment)) (inl (o.fragment ∙ z ∙ sym u_out.fragment))

      at_v : m.fragment w ≡ m.fragment v → AlikeAt left right w
      at_v z =
          let i = inside m u v l1 c1 w (inr z) in
          let o = inside m x y l2 c2 w (inl (z ∙ sym xv)) in
          both_in w (inl (i.fragment ∙ sym x_in.fragment)) (inr (o.fragment ∙ sym v_in.fragment))

      at_y : (m.fragment w ≢ m.fragment u) × (m.fragment w ≢ m.fragment v) → m.fragment w ≡ m.fragment y → AlikeAt left right w
      at_y h z =
          let i = outside m u v l1 c1 w h.0 h.1 in
          let o = inside m x y l2 c2 w (inr z) in
          both_in w (inr (i.fragment ∙ z ∙ sym y_out.fragment)) (inr (o.fragment ∙ sym v_in.fragment))

      nowhere : (m.fragment w ≢ m.fragment u) × (m.fragment w ≢ m.fragment v) → m.fragment w ≢ m.fragment y → AlikeAt left right w
      nowhere h z =
          let i = outside m u v l1 c1 w h.0 h.1 in
          let o = outside m x y l2 c2 w (λ e. h.1 (e ∙ xv)) z in
          let a = x_in.fragment in
          let b = min_either (m.fragment u) (m.fragment v) in
          let p = v_in.fragment in
          let q = min_either (m.fragment x) (m.fragment y) in
          let j = outside (united u v l1 c1 m) x y l c w
          (λ e. ⊎_elim (λ r. h.0 (sym i.fragment ∙ e ∙ a ∙ r)) (λ r. h.1 (sym i.fragment ∙ e ∙ a ∙ r)) b)
          (λ e. z (sym i.fragment ∙ e ∙ y_out.fragment)) in
          let k = outside (united x y l2 c2 m) u v l c w (λ e. h.0 (sym o.fragment ∙ e ∙ u_out.fragment))
          (λ e. ⊎_elim (λ r. h.1 (sym o.fragment ∙ e ∙ p ∙ r ∙ xv)) (λ r. z (sym o.fragment ∙ e ∙ p ∙ r)) q) in
          record {
            fragment = j.fragment ∙ i.fragment ∙ sym o.fragment ∙ sym k.fragment;
            level = j.level ∙ i.level ∙ sym o.level ∙ sym k.level;
            core = j.core ∙ i.core ∙ sym o.core ∙ sym k.core;
          }

  pub share_commute : united x y l c (united u v l1 c1 m) ≡ united u v l c (united x y l2 c2 m)
  share_commute = alike _ _ share_at
