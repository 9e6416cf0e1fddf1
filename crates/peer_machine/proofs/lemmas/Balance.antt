-- In every net of a run what was sent was consumed or waits.
use Rattle.std.proofs.Common.{◌≡◌, ℕ, zero, suc, ◌+◌, ◌<◌, ◌≤◌, ◌==◌, Bool, true, false, List, [], ◌∷◌, ◌++◌, length, refl, sym, ◌∙◌, ap, cond, arith, ltb-true, eq-eqb, ne_eqb}
use Rattle.std.proofs.lemmas.Bool.{and_parts}
use Rattle.peer_network.specs.declared.event.Event.{Event}
use Rattle.peer_network.specs.Network.{Network, far, far_port, At}
use Rattle.peer_network.specs.Sums.{sum_below, sum_over_ports}
use Rattle.peer_network.proofs.lemmas.Wired.{IsWired}
use Rattle.peer_network.proofs.lemmas.Updates.{put_at_same, put_at_miss, put_count}
use Rattle.peer_network.proofs.lemmas.Sums.{sum_same, sum_add, sum_none, sum_one, ports_one, ports_none, ports_same, ports_add}
use Rattle.peer_machine.specs.declared.work.Work.TheVariants.{Deliver}
use Rattle.peer_machine.specs.Rules.{Rules, Outgoing, HasKinds}
use Rattle.peer_machine.specs.Net.{Net, opening, put_at, send, send_all, take_first, are_on_ports}
use Rattle.peer_machine.specs.Run.{IsAfter}
use Rattle.peer_machine.specs.Ledger.{of_kind, waiting_of, waiting, IsBalanced, in_all, IsBalancedInAll}
use Rattle.peer_machine.specs.Steps.{Happens, Woke, Took}
use Rattle.peer_machine.proofs.lemmas.Runs.{run_keeps}
use Rattle.peer_machine.proofs.lemmas.Sends.{taken_if}

-- of numbers that are 1 at one place and 0 elsewhere
one_term : (n j : ℕ) → j < n → sum_below n (λ k. cond (j == k) 1 0) ≡ 1
one_term n j lt =
    let z = sum_none n (λ k. 0) (λ k l. refl) in
    let o = sum_one n j (λ k. 0) (λ k. cond (j == k) 1 0) lt (λ k ne. sym (rw (ne_eqb j k (λ e. ne (sym e))) refl)) in
    let h : ◌≡◌ {A = ℕ} (cond (j == j) 1 0) 1 = rw (eq-eqb j j refl) refl in
    omega (arith, z, o, h)

module _ {S M : Type 0} (r : Rules S M) where
  pub of_kind_append : (k : ℕ) (a b : List M) → of_kind r k (a ++ b) ≡ of_kind r k a + of_kind r k b
  of_kind_append k [] b = omega arith
  of_kind_append k (m ∷ a) b = omega (arith, of_kind_append k a b)

  module _ (g : Network) where
    -- one queue changes
    waiting_put : (w w' : Net S M) (v p k : ℕ) (x : List M) → At g v p → w'.queue ≡ put_at w.queue v p x →
        waiting_of r g w' k + of_kind r k (w.queue v p) ≡ waiting_of r g w k + of_kind r k x
    waiting_put w w' v p k x at e =
        rw e
        (omega (
          arith,
          ports_one g (λ a b. of_kind r k (w.queue a b)) (λ a b. of_kind r k (put_at w.queue v p x a b)) v p at
              (λ a b ne. ap (of_kind r k) (sym (put_at_miss w.queue v p a b x ne))),
          ap (of_kind r k) (put_at_same w.queue v p x),
        ))

    balanced_send : (w : Net S M) (v : ℕ) (s : ℕ × M) → At g (far g v s.0) (far_port g v s.0) → IsBalanced r g w → IsBalanced r g (send r g v w s)
    balanced_send w v s at b k =
        let q = w.queue (far g v s.0) (far_port g v s.0) in
        omega (
          arith,
          put_count w.sent (r.kind_of s.1) 1 (suc (w.sent (r.kind_of s.1))) k (omega arith),
          waiting_put w (send r g v w s) (far g v s.0) (far_port g v s.0) k (q ++ s.1 ∷ []) at refl,
          of_kind_append k q (s.1 ∷ []),
          b k,
        )

    balanced_if : (later : Bool) (v p : ℕ) (m : M) (ms : List M) (w : Net S M) → At g v p → w.queue v p ≡ m ∷ ms → IsBalanced r g w →
        IsBalanced r g (taken_if r later v p m ms w)
    balanced_if true v p m ms w at q b k =
        omega (
          arith,
          waiting_put w (taken_if r true v p m ms w) v p k (ms ++ m ∷ []) at refl,
          of_kind_append k ms (m ∷ []),
          ap (of_kind r k) q,
          b k,
        )
    balanced_if false v p m ms w at q b k =
        omega (
          arith,
          put_count w.consumed (r.kind_of m) 1 (suc (w.consumed (r.kind_of m))) k (omega arith),
          waiting_put w (taken_if r false v p m ms w) v p k ms at refl,
          ap (of_kind r k) q,
          b k,
        )

    balanced_take : (v p : ℕ) (m : M) (ms : List M) (w : Net S M) → At g v p → w.queue v p ≡ m ∷ ms → IsBalanced r g w →
        IsBalanced r g (take_first r g v p m ms w)
    balanced_take v p m ms w at q b = balanced_if (r.defers (w.node v) (Deliver p m)) v p m ms w at q b

    opening_balanced : IsBalanced r g (opening r g)
    opening_balanced k = omega (arith, ports_none g (λ v p. 0) (λ v p. refl))

    module _ (wired : IsWired g) where
      balanced_sends : (v : ℕ) (ss : Outgoing M) (w : Net S M) → 1 ≤ v → v ≤ g.count → are_on_ports r g v ss ≡ true →
          IsBalanced r g w → IsBalanced r g (send_all r g v ss w)
      balanced_sends v [] w lo hi t b = b
      balanced_sends v (s ∷ ss) w lo hi t b =
          let h = and_parts _ _ t in
          let at : At g v s.0 = record { some = lo; node = hi; port = ltb-true s.0 _ h.0 } in
          balanced_sends v ss (send r g v w s) lo hi h.1 (balanced_send w v s (wired.there v s.0 at) b)

      pub event_balanced : (w w' : Net S M) (e : Event) → IsBalanced r g w → Happens r g w e w' → IsBalanced r g w'
      event_balanced w _ _ b (Woke v o lo hi s e t) = balanced_sends v o.sends _ lo hi t b
      event_balanced w _ _ b (Took v p m ms o at q e t) =
          balanced_sends v o.sends _ at.some at.node t (balanced_take v p m ms w at q b)

      pub after_balanced : (es : List Event) (w : Net S M) → IsAfter r g es w → IsBalanced r g w
      after_balanced es w h = run_keeps r g (IsBalanced r g) event_balanced es (opening r g) w opening_balanced h

    -- what waits, kind by kind or port by port
    by_kind : (w : Net S M) (n : ℕ) →
        sum_below n (waiting_of r g w) ≡ sum_over_ports g (λ v p. sum_below n (λ k. of_kind r k (w.queue v p)))
    by_kind w zero = sym (ports_none g (λ v p. 0) (λ v p. refl))
    by_kind w (suc n) =
        omega (arith, by_kind w n, ports_add g (λ v p. sum_below n (λ k. of_kind r k (w.queue v p))) (λ v p. of_kind r n (w.queue v p)))

  module _ (kinds : HasKinds r) where
    -- a message has one kind
    pub one_kind : (m : M) → in_all r (λ k. cond (r.kind_of m == k) 1 0) ≡ 1
    one_kind m = one_term r.kinds (r.kind_of m) (kinds m)

    pub kinds_in_all : (ms : List M) → in_all r (λ k. of_kind r k ms) ≡ length ms
    kinds_in_all [] = sum_none r.kinds (λ k. 0) (λ k lt. refl)
    kinds_in_all (m ∷ ms) = omega (arith, sum_add r.kinds (λ k. cond (r.kind_of m == k) 1 0) (λ k. of_kind r k ms), one_kind m, kinds_in_all ms)

    -- what balances of each kind, balances in all
    pub balanced_in_all : (g : Network) (w : Net S M) → IsBalanced r g w → IsBalancedInAll r g w
    balanced_in_all g w b =
        let all : in_all r (waiting_of r g w) ≡ waiting g w =
        by_kind g w r.kinds ∙ ports_same g _ _ (λ v p at. kinds_in_all (w.queue v p)) in
        let each : in_all r w.sent ≡ in_all r (λ k. w.consumed k + waiting_of r g w k) = sum_same r.kinds _ _ (λ k lt. b k) in
        let both : in_all r (λ k. w.consumed k + waiting_of r g w k) ≡ in_all r w.consumed + in_all r (waiting_of r g w) =
        sum_add r.kinds w.consumed (waiting_of r g w) in
        omega (arith, all, each, both)
