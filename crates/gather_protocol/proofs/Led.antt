-- Which waves nodes have joined, over which ports, and when: of each node, and across links.
use Rattle.std.proofs.Common.{◌≡◌, ◌≢◌, ℕ, suc, ◌<◌, ◌≤◌, ◌⊎◌, Bool, true, false, Option, Some, None, refl, sym, ◌∙◌, subst, ⊎_elim, arith}
use Rattle.std.proofs.lemmas.Bool.{cases_eq, both_ways}
use Rattle.std.proofs.lemmas.Option.{same_Some}
use Rattle.peer_network.specs.Network.{Network, InNetwork, At, far, far_port}
use Rattle.peer_network.proofs.lemmas.Updates.{one_place}
use Rattle.peer_network.proofs.lemmas.Wired.{IsWired}

-- a node's parent in a wave: it had joined before, by another way
pub record IsParent (g : Network) (joined : ℕ → ℕ → Bool) (parent : ℕ → ℕ → Option ℕ) (v x p : ℕ) : Type 0 where
  pub at : At g v p
  pub up : joined (far g v p) x ≡ true
  pub other : parent (far g v p) x ≡ Some (far_port g v p) → ⊥

pub record Led (g : Network) (joined : ℕ → ℕ → Bool) (parent : ℕ → ℕ → Option ℕ) (rank : ℕ → ℕ → ℕ) (clock : ℕ) : Type 0 where
  pub inside : (v x : ℕ) → joined v x ≡ true → InNetwork g v
  pub early : (v x : ℕ) → joined v x ≡ true → rank v x < clock
  pub root : (v x : ℕ) → joined v x ≡ true → joined x x ≡ true
  pub first : (v x : ℕ) → joined v x ≡ true → parent v x ≡ None → v ≡ x
  pub own : (x : ℕ) → joined x x ≡ true → parent x x ≡ None
  pub woke : (v x : ℕ) → joined v v ≡ true → joined v x ≡ true → x ≤ v
  pub ups : (v x p : ℕ) → joined v x ≡ true → parent v x ≡ Some p → IsParent g joined parent v x p
  pub later : (v x p : ℕ) → joined v x ≡ true → parent v x ≡ Some p → rank (far g v p) x < rank v x

-- how a node comes to join a wave: it wakes, or another one has asked it
abbrev pub Woken : (ℕ → ℕ → Bool) → Option ℕ → ℕ → ℕ → Type 0
Woken joined par v x = (par ≡ None) × (v ≡ x) × ((y : ℕ) → joined v y ≡ false)

abbrev pub Called : Network → (ℕ → ℕ → Bool) → (ℕ → ℕ → Option ℕ) → Option ℕ → ℕ → ℕ → Type 0
Called g joined parent par v x = (p : ℕ) × (par ≡ Some p) × IsParent g joined parent v x p

pub record Entry (g : Network) (joined : ℕ → ℕ → Bool) (parent : ℕ → ℕ → Option ℕ) (par : Option ℕ) (v x : ℕ) : Type 0 where
  pub node : InNetwork g v
  pub below : (y : ℕ) → joined v y ≡ true → x < y
  pub how : Woken joined par v x ⊎ Called g joined parent par v x

module _ (g : Network) (wired : IsWired g) (joined : ℕ → ℕ → Bool) (parent : ℕ → ℕ → Option ℕ) (rank : ℕ → ℕ → ℕ) (clock : ℕ)
    (l : Led g joined parent rank clock) (par : Option ℕ) (v x : ℕ) (e : Entry g joined parent par v x) where
  pub fresh : joined v x ≡ true → ⊥
  fresh h = let z = e.below x h in omega (arith, z)

  -- who is called wasn't the first
  called_other : Called g joined parent par v x → v ≢ x
  called_other c q = fresh (subst (λ y. joined y x ≡ true) (sym q) (l.root (far g v c.0) x c.2.up))

  module _ (joined' : ℕ → ℕ → Bool) (parent' : ℕ → ℕ → Option ℕ) (rank' : ℕ → ℕ → ℕ)
      (now : joined' v x ≡ true) (by : parent' v x ≡ par) (at : rank' v x ≡ clock)
      (was : (u y : ℕ) → ((u ≡ v) × (y ≡ x) → ⊥) → joined' u y ≡ joined u y)
      (over : (u y : ℕ) → ((u ≡ v) × (y ≡ x) → ⊥) → parent' u y ≡ parent u y)
      (when : (u y : ℕ) → ((u ≡ v) × (y ≡ x) → ⊥) → rank' u y ≡ rank u y) where
    -- who had joined is another, and has joined still
    other : (u y : ℕ) → joined u y ≡ true → (u ≡ v) × (y ≡ x) → ⊥
    other u y h z = fresh (subst (λ a. joined v a ≡ true) z.1 (subst (λ a. joined a y ≡ true) z.0 h))

    still : (u y : ℕ) → joined u y ≡ true → joined' u y ≡ true
    still u y h = was u y (other u y h) ∙ h

    at_here : (P : ℕ → ℕ → Type 0) (u y : ℕ) → (u ≡ v) × (y ≡ x) → P v x → P u y
    at_here P u y z p = subst (λ a. P a y) (sym z.0) (subst (λ a. P v a) (sym z.1) p)

    -- the new parent
    parent_here : (p : ℕ) → par ≡ Some p → IsParent g joined' parent' v x p
    parent_here p q = ⊎_elim
        (λ (h : Woken joined par v x). let z : ◌≡◌ {A = Option ℕ} None (Some p) = sym h.0 ∙ q in cc)
        (λ (c : Called g joined parent par v x).
        let same : c.0 ≡ p = same_Some _ _ (sym c.1 ∙ q) in
        let k : IsParent g joined parent v x p = subst (IsParent g joined parent v x) same c.2 in
        record {
          at = k.at;
          up = still (far g v p) x k.up;
          other = λ z. k.other (sym (over (far g v p) x (other (far g v p) x k.up)) ∙ z);
        }) e.how

    parent_there : (u y p : ℕ) → IsParent g joined parent u y p → IsParent g joined' parent' u y p
    parent_there u y p k = record {
      at = k.at;
      up = still (far g u p) y k.up;
      other = λ z. k.other (sym (over (far g u p) y (other (far g u p) y k.up)) ∙ z);
    }

    woke_here : (u y : ℕ) → joined' u u ≡ true → joined' u y ≡ true → Woken joined par v x → y ≤ u
    woke_here u y a b h = ⊎_elim
        (λ (q : u ≡ v). ⊎_elim
        (λ (z : y ≡ x). let s = h.1 in omega (arith, q, z, s))
        (λ ne. absurd (both_ways (joined v y) (h.2 y) (subst (λ w. joined w y ≡ true) q (sym (was u y (λ z. ne z.1)) ∙ b))))
        (cases_eq y x))
        (λ ne. l.woke u y (sym (was u u (λ z. ne z.0)) ∙ a) (sym (was u y (λ z. ne z.0)) ∙ b)) (cases_eq u v)

    woke_there : (u y : ℕ) → joined' u u ≡ true → joined' u y ≡ true → v ≢ x → y ≤ u
    woke_there u y a b away = ⊎_elim
        (λ (q : u ≡ v).
        let old : joined v v ≡ true =
        subst (λ w. joined w w ≡ true) q (sym (was u u (λ z. away (sym z.0 ∙ z.1))) ∙ a) in
        ⊎_elim
        (λ (z : y ≡ x). let s = e.below v old in omega (arith, q, z, s))
        (λ ne. let s = l.woke v y old (subst (λ w. joined w y ≡ true) q (sym (was u y (λ z. ne z.1)) ∙ b)) in omega (arith, q, s))
        (cases_eq y x))
        (λ ne. l.woke u y (sym (was u u (λ z. ne z.0)) ∙ a) (sym (was u y (λ z. ne z.0)) ∙ b)) (cases_eq u v)

    root_here : joined' x x ≡ true
    root_here = ⊎_elim
        (λ (h : Woken joined par v x). subst (λ u. joined' u x ≡ true) h.1 now)
        (λ (c : Called g joined parent par v x). still x x (l.root (far g v c.0) x c.2.up)) e.how

    later_here : (p : ℕ) → par ≡ Some p → rank' (far g v p) x < rank' v x
    later_here p q = ⊎_elim
        (λ (h : Woken joined par v x). let z : ◌≡◌ {A = Option ℕ} None (Some p) = sym h.0 ∙ q in cc)
        (λ (c : Called g joined parent par v x).
        let same : c.0 ≡ p = same_Some _ _ (sym c.1 ∙ q) in
        let up : joined (far g v p) x ≡ true = subst (λ i. joined (far g v i) x ≡ true) same c.2.up in
        let a = l.early (far g v p) x up in
        let b = when (far g v p) x (other (far g v p) x up) in
        omega (arith, a, b, at)) e.how

    pub led_joins : Led g joined' parent' rank' (suc clock)
    led_joins = record {
      inside = λ u y h. ⊎_elim (λ z. at_here (λ a b. InNetwork g a) u y z e.node) (λ ne. l.inside u y (sym (was u y ne) ∙ h)) (one_place v x u y);
      early = λ u y h. ⊎_elim
          (λ z. at_here (λ a b. rank' a b < suc clock) u y z (omega (arith, at)))
          (λ ne. let a = l.early u y (sym (was u y ne) ∙ h) in let b = when u y ne in omega (arith, a, b)) (one_place v x u y);
      root = λ u y h. ⊎_elim
          (λ z. at_here (λ a b. joined' b b ≡ true) u y z root_here)
          (λ ne. still y y (l.root u y (sym (was u y ne) ∙ h))) (one_place v x u y);
      first = λ u y h q. ⊎_elim
          (λ z. ⊎_elim
          (λ (k : Woken joined par v x). z.0 ∙ k.1 ∙ sym z.1)
          (λ (c : Called g joined parent par v x).
          let n : ◌≡◌ {A = Option ℕ} None (Some c.0) = sym q ∙ at_here (λ a b. parent' a b ≡ par) u y z by ∙ c.1 in cc)
          e.how)
          (λ ne. l.first u y (sym (was u y ne) ∙ h) (sym (over u y ne) ∙ q)) (one_place v x u y);
      own = λ y h. ⊎_elim
          (λ z. at_here (λ a b. parent' a b ≡ None) y y z
          (by ∙ ⊎_elim (λ (k : Woken joined par v x). k.0)
          (λ (c : Called g joined parent par v x). absurd (called_other c (sym z.0 ∙ z.1))) e.how))
          (λ ne. over y y ne ∙ l.own y (sym (was y y ne) ∙ h)) (one_place v x y y);
      woke = λ u y a b. ⊎_elim
          (λ (k : Woken joined par v x). woke_here u y a b k)
          (λ (c : Called g joined parent par v x). woke_there u y a b (called_other c)) e.how;
      ups = λ u y p h q. ⊎_elim
          (λ z. at_here (λ a b. IsParent g joined' parent' a b p) u y z
          (parent_here p (sym by ∙ sym (at_here (λ a b. parent' a b ≡ parent' v x) u y z refl) ∙ q)))
          (λ ne. parent_there u y p (l.ups u y p (sym (was u y ne) ∙ h) (sym (over u y ne) ∙ q))) (one_place v x u y);
      later = λ u y p h q. ⊎_elim
          (λ z. at_here (λ a b. rank' (far g a p) b < rank' a b) u y z
          (later_here p (sym by ∙ sym (at_here (λ a b. parent' a b ≡ parent' v x) u y z refl) ∙ q)))
          (λ ne.
          let old = sym (was u y ne) ∙ h in
          let oldp = sym (over u y ne) ∙ q in
          let a = l.later u y p old oldp in
          let b = when u y ne in
          let up = (l.ups u y p old oldp).up in
          let d = when (far g u p) y (other (far g u p) y up) in
          omega (arith, a, b, d)) (one_place v x u y);
    }
