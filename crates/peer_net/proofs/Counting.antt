-- Counts of messages, one more.
use Rattle.std.proofs.Common.{◌≡◌, ◌≢◌, ℕ, ◌+◌, ◌<◌, ◌≤◌, ◌==◌, Bool, true, false, List, [], ◌∷◌, ◌++◌, length, get_or, set, refl, sym, cond, ap, ◌∙◌, ⊎_elim, arith, eq-eqb, ne_eqb}
use Rattle.std.proofs.lemmas.Bool.{cases_eq}
use Rattle.std.proofs.lemmas.List.{length-set, get_or-set_same, get_or-set_other, get_or_default}
use Rattle.peer_machine.specs.Rules.{Rules, Outgoing, messages}
use Rattle.peer_machine.specs.Ledger.{of_kind}
use Rattle.peer_net.specs.declared.counts.Counts.{Counts}
use Rattle.peer_net.specs.Counts.{CountsSends}

one_at_most : (b : Bool) → cond b 1 0 ≤ 1
one_at_most true = omega arith
one_at_most false = omega arith

module _ {S M : Type 0} (r : Rules S M) where
  pub kind_few : (k : ℕ) (ss : Outgoing M) → of_kind r k (messages ss) ≤ length ss
  kind_few k [] = omega arith
  kind_few k (s ∷ ss) = omega (arith, kind_few k ss, one_at_most (r.kind_of s.1 == k))

  pub kind_more : (k : ℕ) (ss : Outgoing M) (s : ℕ × M) →
      of_kind r k (messages (ss ++ s ∷ [])) ≡ of_kind r k (messages ss) + cond (r.kind_of s.1 == k) 1 0
  kind_more k [] s = omega arith
  kind_more k (x ∷ ss) s = omega (arith, kind_more k ss s)

  -- a message more is counted
  pub counted_one : (old mid new : Counts) (ss : Outgoing M) (s : ℕ × M) (x : ℕ) → length old.sent.items ≡ r.kinds → CountsSends r ss old mid →
      r.kind_of s.1 < r.kinds → x ≡ get_or mid.sent.items (r.kind_of s.1) x → new.sent.items ≡ set mid.sent.items (r.kind_of s.1) (x + 1) →
      new.consumed.items ≡ mid.consumed.items → new.deferred ≡ mid.deferred → CountsSends r (ss ++ s ∷ []) old new
  counted_one old mid new ss s x kinds c lt is sent consumed deferred = record {
    kinds = ap (λ (l : List ℕ). length l) sent ∙ length-set mid.sent.items (r.kind_of s.1) (x + 1) ∙ c.kinds;
    sent = λ k l. ⊎_elim (here k l) (there k l) (cases_eq k (r.kind_of s.1));
    consumed = consumed ∙ c.consumed;
    deferred = deferred ∙ c.deferred;
  }
    where
      inside : r.kind_of s.1 < length mid.sent.items
      inside = let a = c.kinds in omega (arith, a, kinds, lt)

      here : (k : ℕ) → k < r.kinds → k ≡ r.kind_of s.1 →
          get_or new.sent.items k 0 ≡ get_or old.sent.items k 0 + of_kind r k (messages (ss ++ s ∷ []))
      here k l e =
          let now : get_or new.sent.items k 0 ≡ x + 1 =
          ap (λ (y : List ℕ). get_or y k 0) sent ∙ rw e (get_or-set_same mid.sent.items (r.kind_of s.1) (x + 1) 0 inside) in
          let was : x ≡ get_or mid.sent.items k 0 =
          is ∙ get_or_default mid.sent.items (r.kind_of s.1) x 0 inside ∙ ap (λ y. get_or mid.sent.items y 0) (sym e) in
          let so = c.sent k l in
          let one : ◌≡◌ {A = ℕ} (cond (r.kind_of s.1 == k) 1 0) 1 = rw (eq-eqb (r.kind_of s.1) k (sym e)) refl in
          omega (arith, now, was, so, one, kind_more k ss s)

      there : (k : ℕ) → k < r.kinds → k ≢ r.kind_of s.1 →
          get_or new.sent.items k 0 ≡ get_or old.sent.items k 0 + of_kind r k (messages (ss ++ s ∷ []))
      there k l ne =
          let now : get_or new.sent.items k 0 ≡ get_or mid.sent.items k 0 =
          ap (λ (y : List ℕ). get_or y k 0) sent ∙ get_or-set_other mid.sent.items (r.kind_of s.1) k (x + 1) 0 ne in
          let so = c.sent k l in
          let none : ◌≡◌ {A = ℕ} (cond (r.kind_of s.1 == k) 1 0) 0 = rw (ne_eqb (r.kind_of s.1) k (λ z. ne (sym z))) refl in
          omega (arith, now, so, none, kind_more k ss s)
