-- Counts, event by event: what a take and what a reaction's sends count, and that no count falls.
use Rattle.std.proofs.Common.{◌≡◌, ℕ, suc, ◌+◌, ◌≤◌, ◌==◌, Bool, true, false, List, [], ◌∷◌, length, refl, sym, ◌∙◌, ap, cond, arith, Some, add-zero}
use Rattle.std.proofs.lemmas.List.{length-map}
use Rattle.std.proofs.lemmas.Option.{same_Some}
use Rattle.peer_network.specs.declared.event.Event.{Event}
use Rattle.peer_network.specs.Network.{Network}
use Rattle.peer_network.specs.Events.{takes_in}
use Rattle.peer_network.proofs.lemmas.Updates.{put_count}
use Rattle.peer_network.proofs.lemmas.Sums.{sum_same, sum_add, sum_none}
use Rattle.peer_machine.specs.declared.work.Work.TheVariants.{Deliver}
use Rattle.peer_machine.specs.Rules.{Rules, Outcome, HasKinds, NeverDefers, messages}
use Rattle.peer_machine.specs.Net.{Net, opening, happens, reacted, take_first}
use Rattle.peer_machine.specs.Run.{run, IsAfter}
use Rattle.peer_machine.specs.Ledger.{in_all, of_kind}
use Rattle.peer_machine.specs.Steps.{Happens, Woke, Took}
use Rattle.peer_machine.proofs.lemmas.Events.{happening}
use Rattle.peer_machine.proofs.lemmas.Runs.{both_some, run_keeps}
use Rattle.peer_machine.proofs.lemmas.Sends.{taken_if, sent_now, consumed_now, deferred_now}
use Rattle.peer_machine.proofs.lemmas.Balance.{one_kind, kinds_in_all}

pub either_once : (later : Bool) → cond later 0 1 + cond later 1 0 ≡ 1
either_once true = refl
either_once false = refl

module _ {S M : Type 0} (r : Rules S M) (g : Network) where
  -- what a take counts
  counts_if : (later : Bool) (v p : ℕ) (m : M) (ms : List M) (w : Net S M) (k : ℕ) →
      (taken_if r later v p m ms w).consumed k ≡ w.consumed k + cond later 0 (cond (r.kind_of m == k) 1 0)
  counts_if true v p m ms w k = sym (add-zero _)
  counts_if false v p m ms w k = put_count w.consumed (r.kind_of m) 1 (suc (w.consumed (r.kind_of m))) k (omega arith)

  pub take_counts : (v p : ℕ) (m : M) (ms : List M) (w : Net S M) (k : ℕ) →
      (take_first r g v p m ms w).consumed k ≡ w.consumed k + cond (r.defers (w.node v) (Deliver p m)) 0 (cond (r.kind_of m == k) 1 0)
  take_counts v p m ms w k = counts_if (r.defers (w.node v) (Deliver p m)) v p m ms w k

  defers_if : (later : Bool) (v p : ℕ) (m : M) (ms : List M) (w : Net S M) → (taken_if r later v p m ms w).deferred ≡ w.deferred + cond later 1 0
  defers_if true v p m ms w = omega arith
  defers_if false v p m ms w = omega arith

  pub take_defers : (v p : ℕ) (m : M) (ms : List M) (w : Net S M) →
      (take_first r g v p m ms w).deferred ≡ w.deferred + cond (r.defers (w.node v) (Deliver p m)) 1 0
  take_defers v p m ms w = defers_if (r.defers (w.node v) (Deliver p m)) v p m ms w

  -- no count falls
  abbrev AreUp : Net S M → Net S M → Type 0
  AreUp w w' = (k : ℕ) → (w.sent k ≤ w'.sent k) × (w.consumed k ≤ w'.consumed k) × (w.deferred ≤ w'.deferred)

  event_rises : (x w w' : Net S M) (e : Event) → AreUp x w → Happens r g w e w' → AreUp x w'
  event_rises x w _ _ i (Woke v o lo hi s e t) k =
      let b = i k in (
        omega (arith, b.0, sent_now r g v o w k),
        omega (arith, b.1, ap (λ (f : ℕ → ℕ). f k) (consumed_now r g v o w)),
        omega (arith, b.2, deferred_now r g v o w),
      )
  event_rises x w _ _ i (Took v p m ms o at q e t) k =
      let b = i k in
      let y = take_first r g v p m ms w in (
        omega (arith, b.0, sent_now r g v o y k),
        omega (arith, b.1, ap (λ (f : ℕ → ℕ). f k) (consumed_now r g v o y), take_counts v p m ms w k),
        omega (arith, b.2, deferred_now r g v o y, take_defers v p m ms w),
      )

  pub run_rises : (es : List Event) (w w' : Net S M) → run r g es w ≡ Some w' → AreUp w w'
  run_rises es w w' h = run_keeps r g (AreUp w) (event_rises w) es w w' (λ k. (omega arith, omega arith, omega arith)) h

  -- where none is ever deferred, none is counted as deferred
  module _ (never : NeverDefers r) where
    event_never : (w w' : Net S M) (e : Event) → ◌≡◌ {A = ℕ} w.deferred 0 → Happens r g w e w' → ◌≡◌ {A = ℕ} w'.deferred 0
    event_never w _ _ i (Woke v o lo hi s e t) = deferred_now r g v o w ∙ i
    event_never w _ _ i (Took v p m ms o at q e t) =
        let none : ◌≡◌ {A = ℕ} (cond (r.defers (w.node v) (Deliver p m)) 1 0) 0 = rw (never (w.node v) (Deliver p m)) refl in
        omega (arith, i, none, deferred_now r g v o (take_first r g v p m ms w), take_defers v p m ms w)

    pub never_deferred : (es : List Event) (w : Net S M) → IsAfter r g es w → ◌≡◌ {A = ℕ} w.deferred 0
    never_deferred es w h = run_keeps r g (λ (y : Net S M). ◌≡◌ {A = ℕ} y.deferred 0) event_never es (opening r g) w refl h

  module _ (kinds : HasKinds r) where
    -- a reaction's sends, over all kinds
    pub sent_in_all : (v : ℕ) (o : Outcome S M) (w : Net S M) → in_all r (reacted r g v o w).sent ≡ in_all r w.sent + length o.sends
    sent_in_all v o w =
        sum_same r.kinds _ _ (λ k lt. sent_now r g v o w k) ∙ sum_add r.kinds w.sent (λ k. of_kind r k (messages o.sends))
        ∙ ap (λ x. in_all r w.sent + x) (kinds_in_all r kinds (messages o.sends) ∙ length-map o.sends _)

    -- a take that isn't deferred is counted once
    in_all_if : (later : Bool) (v p : ℕ) (m : M) (ms : List M) (w : Net S M) →
        in_all r (taken_if r later v p m ms w).consumed ≡ in_all r w.consumed + cond later 0 1
    in_all_if true v p m ms w = sym (add-zero _)
    in_all_if false v p m ms w =
        sum_same r.kinds _ _ (λ k lt. counts_if false v p m ms w k) ∙ sum_add r.kinds w.consumed (λ k. cond (r.kind_of m == k) 1 0)
        ∙ ap (λ x. in_all r w.consumed + x) (one_kind r kinds m)

    pub taken_in_all : (v p : ℕ) (m : M) (ms : List M) (w : Net S M) →
        in_all r (take_first r g v p m ms w).consumed ≡ in_all r w.consumed + cond (r.defers (w.node v) (Deliver p m)) 0 1
    taken_in_all v p m ms w = in_all_if (r.defers (w.node v) (Deliver p m)) v p m ms w

    event_counts : (w w' : Net S M) (e : Event) (es : List Event) → Happens r g w e w' →
        in_all r w'.consumed + w'.deferred + takes_in es ≡ in_all r w.consumed + w.deferred + takes_in (e ∷ es)
    event_counts w _ _ es (Woke v o lo hi s e t) = rw (consumed_now r g v o w, deferred_now r g v o w) refl
    event_counts w _ _ es (Took v p m ms o at q e t) =
        let x = take_first r g v p m ms w in
        omega (
          arith,
          taken_in_all v p m ms w,
          take_defers v p m ms w,
          either_once (r.defers (w.node v) (Deliver p m)),
          ap (λ (f : ℕ → ℕ). in_all r f) (consumed_now r g v o x),
          deferred_now r g v o x,
        )

    run_counts : (es : List Event) (w w' : Net S M) → run r g es w ≡ Some w' →
        in_all r w'.consumed + w'.deferred ≡ in_all r w.consumed + w.deferred + takes_in es
    run_counts [] w w' h = ap (λ (x : Net S M). in_all r x.consumed + x.deferred) (sym (same_Some _ _ h)) ∙ sym (add-zero _)
    run_counts (e ∷ es) w w' h =
        both_some r (happens r g w e) (λ x. run r g es x) w' h (λ x a b. run_counts es x w' b ∙ event_counts w x e es (happening r g w x e a))

    -- a message that is taken is counted once, as consumed or as deferred
    pub after_counts : (es : List Event) (w : Net S M) → IsAfter r g es w → in_all r w.consumed + w.deferred ≡ takes_in es
    after_counts es w h = omega (arith, run_counts es (opening r g) w h, sum_none r.kinds (λ k. 0) (λ k lt. refl))
