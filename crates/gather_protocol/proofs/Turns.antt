-- Reactions, by what came in.
use Rattle.std.proofs.Common.{◌≡◌, ◌≢◌, ℕ, ◌<◌, ◌≤◌, ◌==◌, Bool, true, false, nat_lt, Option, Some, None, List, [], cond, refl, sym, ◌∙◌, ap, subst, ⊎_elim, arith, ltb-true}
use Rattle.std.specs.Prelude.{is_none}
use Rattle.std.proofs.lemmas.Bool.Decides.{eqb_tells, nat_tests}
use Rattle.std.proofs.lemmas.Option.{same_Some}
use Rattle.ghs_graph.specs.declared.key.Key.{Key}
use Rattle.peer_machine.specs.declared.work.Work.TheVariants.{Wake, Deliver}
use Rattle.peer_machine.specs.Rules.{Outcome}
use Rattle.gather_node.specs.declared.message.Message.{Message}
use Rattle.gather_node.specs.declared.message.Message.TheVariants.{Explore, Back, Tree}
use Rattle.gather_node.specs.State.{State, degree, is_that, would_join}
use Rattle.gather_node.specs.Reaction.{brings, delivered, hears, joins_wave, outcome, reaction, told}

-- what a node does with a message at port p
pub data Turn (n : State) (p : ℕ) : Message → Outcome State Message → Type 0 where
  Joins : (x : ℕ) → ((y : ℕ) → n.head.wave ≡ Some y → x < y) → Turn n p (Explore x) (joins_wave n x (Some p))
  Answers : (x : ℕ) → n.head.wave ≡ Some x → Turn n p (Explore x) (hears n x n.head.awaits)
  Ignores : (x y : ℕ) → n.head.wave ≡ Some y → y < x → Turn n p (Explore x) (outcome n [])
  Brings : (x : ℕ) (ks : List Key) → n.head.wave ≡ Some x → Turn n p (Back x ks) (hears (brings n p ks) x n.head.awaits)
  Stale : (x : ℕ) (ks : List Key) → (n.head.wave ≡ Some x → ⊥) → Turn n p (Back x ks) (outcome n [])
  Learns : (ks : List Key) → Turn n p (Tree ks) (told n ks [])

nat_lt_false : (x y : ℕ) → nat_lt x y ≡ false → y ≤ x
nat_lt_false x y h = grind (arith, nat_tests)

module _ (n : State) (p : ℕ) where
  explore_turn : (x : ℕ) (w : Option ℕ) → n.head.wave ≡ w →
      Turn n p (Explore x) (cond (would_join w x) (joins_wave n x (Some p)) (cond (is_that w x) (hears n x n.head.awaits) (outcome n [])))
  explore_turn x None e = Joins x (λ y z. let a : ◌≡◌ {A = Option ℕ} None (Some y) = sym e ∙ z in cc)
  explore_turn x (Some y) e = go (nat_lt x y) refl
    where
      same : (b : Bool) → nat_lt x y ≡ false → ((b ≡ true) × (y ≡ x)) → Turn n p (Explore x) (cond b (hears n x n.head.awaits) (outcome n []))
      same b l h = subst (λ c. Turn n p (Explore x) (cond c (hears n x n.head.awaits) (outcome n []))) (sym h.0) (Answers x (e ∙ ap Some h.1))

      other : (b : Bool) → nat_lt x y ≡ false → ((b ≡ false) × (y ≢ x)) → Turn n p (Explore x) (cond b (hears n x n.head.awaits) (outcome n []))
      other b l h =
          let le = nat_lt_false x y l in
          let ne = h.1 in
          subst (λ c. Turn n p (Explore x) (cond c (hears n x n.head.awaits) (outcome n []))) (sym h.0) (Ignores x y e (omega (arith, le, ne)))

      go : (b : Bool) → nat_lt x y ≡ b →
          Turn n p (Explore x) (cond b (joins_wave n x (Some p)) (cond (y == x) (hears n x n.head.awaits) (outcome n [])))
      go true l = Joins x (λ z h. let q : y ≡ z = same_Some _ _ (sym e ∙ h) in subst (λ k. x < k) q (ltb-true x y l))
      go false l = ⊎_elim (same (y == x) l) (other (y == x) l) (eqb_tells y x)

  back_turn : (x : ℕ) (ks : List Key) (w : Option ℕ) → n.head.wave ≡ w →
      Turn n p (Back x ks) (cond (is_that w x) (hears (brings n p ks) x n.head.awaits) (outcome n []))
  back_turn x ks None e = Stale x ks (λ z. let a : ◌≡◌ {A = Option ℕ} None (Some x) = sym e ∙ z in cc)
  back_turn x ks (Some y) e = ⊎_elim same other (eqb_tells y x)
    where
      same : ((y == x) ≡ true) × (y ≡ x) → Turn n p (Back x ks) (cond (y == x) (hears (brings n p ks) x n.head.awaits) (outcome n []))
      same h =
          subst (λ c. Turn n p (Back x ks) (cond c (hears (brings n p ks) x n.head.awaits) (outcome n []))) (sym h.0)
          (Brings x ks (e ∙ ap Some h.1))

      other : ((y == x) ≡ false) × (y ≢ x) → Turn n p (Back x ks) (cond (y == x) (hears (brings n p ks) x n.head.awaits) (outcome n []))
      other h =
          subst (λ c. Turn n p (Back x ks) (cond c (hears (brings n p ks) x n.head.awaits) (outcome n []))) (sym h.0)
          (Stale x ks (λ z. h.1 (same_Some _ _ (sym e ∙ z))))

  pub turn : (m : Message) → Turn n p m (delivered n p m)
  turn (Explore x) = explore_turn x n.head.wave refl
  turn (Back x ks) = back_turn x ks n.head.wave refl
  turn (Tree ks) = Learns ks

  pub told_as : (m : Message) (o : Outcome State Message) → reaction n (Deliver p m) ≡ Some o → Turn n p m o
  told_as m o h = on (nat_lt p (degree n)) h
    where
      on : (b : Bool) → cond b (Some (delivered n p m)) None ≡ Some o → Turn n p m o
      on true z = subst (Turn n p m) (same_Some _ _ z) (turn m)
      on false z = cc

pub woke_as : (n : State) (o : Outcome State Message) → reaction n Wake ≡ Some o → (n.head.wave ≡ None) × (joins_wave n n.number None ≡ o)
woke_as n o h = go n.head.wave refl h
  where
    go : (w : Option ℕ) → n.head.wave ≡ w → cond (is_none w) (Some (joins_wave n n.number None)) None ≡ Some o →
        (n.head.wave ≡ None) × (joins_wave n n.number None ≡ o)
    go None e z = (e, same_Some _ _ z)
    go (Some y) e z = cc

-- by cases
pub by_turn : (P : Type 0) (n : State) (p : ℕ) (m : Message) (o : Outcome State Message) →
    ((x : ℕ) → Explore x ≡ m → ((y : ℕ) → n.head.wave ≡ Some y → x < y) → joins_wave n x (Some p) ≡ o → P) →
    ((x : ℕ) → Explore x ≡ m → n.head.wave ≡ Some x → hears n x n.head.awaits ≡ o → P) →
    ((x y : ℕ) → Explore x ≡ m → n.head.wave ≡ Some y → y < x → outcome n [] ≡ o → P) →
    ((x : ℕ) (ks : List Key) → Back x ks ≡ m → n.head.wave ≡ Some x → hears (brings n p ks) x n.head.awaits ≡ o → P) →
    ((x : ℕ) (ks : List Key) → Back x ks ≡ m → (n.head.wave ≡ Some x → ⊥) → outcome n [] ≡ o → P) →
    ((ks : List Key) → Tree ks ≡ m → told n ks [] ≡ o → P) → Turn n p m o → P
by_turn P n p _ _ a b c d e f (Joins x k) = a x refl k refl
by_turn P n p _ _ a b c d e f (Answers x k) = b x refl k refl
by_turn P n p _ _ a b c d e f (Ignores x y k l) = c x y refl k l refl
by_turn P n p _ _ a b c d e f (Brings x ks k) = d x ks refl k refl
by_turn P n p _ _ a b c d e f (Stale x ks k) = e x ks refl k refl
by_turn P n p _ _ a b c d e f (Learns ks) = f ks refl refl
