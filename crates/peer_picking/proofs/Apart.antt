-- No two ports have one number, and each port at which a message waits has one.
use Rattle.std.proofs.Common.{◌≡◌, ℕ, suc, ◌<◌, ◌≤◌, true, nat_lt, length, Option, Some, None, List, [], ◌∷◌, ◌++◌, refl, sym, ◌∙◌, ap, subst, ⊎_elim, arith, lt-ltb}
use Rattle.std.specs.Prelude.{option_and_then}
use Rattle.std.proofs.lemmas.Option.{same_Some}
use Rattle.peer_network.specs.declared.event.Event.{Event}
use Rattle.peer_network.specs.declared.event.Event.TheVariants as events
use Rattle.peer_network.specs.Network.{Network, far, far_port}
use Rattle.peer_network.proofs.lemmas.Updates.{one_place, put_at_hit, put_at_miss}
use Rattle.peer_machine.specs.declared.work.Work.TheVariants.{Deliver}
use Rattle.peer_machine.specs.Rules.{Rules, Outcome, Outgoing}
use Rattle.peer_machine.specs.Net.{Net, left_of, put, happens, opening, reacted, send, send_all, take_first}
use Rattle.peer_machine.specs.Run.{run}
use Rattle.peer_machine.specs.Steps.{Happens, Took, Woke}
use Rattle.peer_machine.proofs.lemmas.Events.{happening}
use Rattle.peer_net.specs.NetState.{delivery, work_at}
use Rattle.peer_picking.specs.Newest.{Newest, answered, if_then, newest_after, newest_of, newest_then, none_sent, numbered, sent, sent_on}

pub record AreApart (n : Newest) : Type 0 where
  pub within : (v p : ℕ) → n.last v p ≤ n.count
  pub apart : (v u p q : ℕ) → 0 < n.last v p → n.last v p ≡ n.last u q → (v ≡ u) × (p ≡ q)

numbered_apart : (v p : ℕ) (n : Newest) → AreApart n → AreApart (numbered v p n)
numbered_apart v p n h = record { within = within; apart = apart }
  where
    hit : (a b : ℕ) → (a ≡ v) × (b ≡ p) → (numbered v p n).last a b ≡ suc n.count
    hit a b z = put_at_hit n.last v p a b (suc n.count) z.0 z.1

    miss : (a b : ℕ) → ((a ≡ v) × (b ≡ p) → ⊥) → (numbered v p n).last a b ≡ n.last a b
    miss a b ne = put_at_miss n.last v p a b (suc n.count) ne

    within : (a b : ℕ) → (numbered v p n).last a b ≤ suc n.count
    within a b = ⊎_elim
        (λ z. let is = hit a b z in omega (arith, is))
        (λ ne. let is = miss a b ne in let le = h.within a b in omega (arith, is, le))
        (one_place v p a b)

    apart : (a u b q : ℕ) → 0 < (numbered v p n).last a b → (numbered v p n).last a b ≡ (numbered v p n).last u q → (a ≡ u) × (b ≡ q)
    apart a u b q lt e = ⊎_elim
        (λ z. ⊎_elim
        (λ y. (z.0 ∙ sym y.0, z.1 ∙ sym y.1))
        (λ ne. let one = hit a b z in let other = miss u q ne in let le = h.within u q in absurd (omega (arith, one, other, le, e)))
        (one_place v p u q))
        (λ ne. ⊎_elim
        (λ y. let one = miss a b ne in let other = hit u q y in let le = h.within a b in absurd (omega (arith, one, other, le, e)))
        (λ ne'. h.apart a u b q (subst (λ k. 0 < k) (miss a b ne) lt) (sym (miss a b ne) ∙ e ∙ miss u q ne'))
        (one_place v p u q))
        (one_place v p a b)

module _ {S M : Type 0} (r : Rules S M) (g : Network) where
  pub record AreOf (w : Net S M) (n : Newest) : Type 0 where
    pub numbers : AreApart n
    pub some : (v p : ℕ) → nat_lt 0 (length (w.queue v p)) ≡ true → 0 < n.last v p

  send_of : (v : ℕ) (w : Net S M) (n : Newest) (s : ℕ × M) → AreOf w n → AreOf (send r g v w s) (sent_on g v s.0 n)
  send_of v w n s h = record { numbers = numbered_apart (far g v s.0) (far_port g v s.0) n h.numbers; some = some }
    where
      some : (u q : ℕ) → nat_lt 0 (length ((send r g v w s).queue u q)) ≡ true → 0 < (sent_on g v s.0 n).last u q
      some u q t = ⊎_elim
          (λ z. let is = put_at_hit n.last (far g v s.0) (far_port g v s.0) u q (suc n.count) z.0 z.1 in omega (arith, is))
          (λ ne.
          let same = put_at_miss w.queue (far g v s.0) (far_port g v s.0) u q (w.queue (far g v s.0) (far_port g v s.0) ++ s.1 ∷ []) ne in
          let is = put_at_miss n.last (far g v s.0) (far_port g v s.0) u q (suc n.count) ne in
          let lt = h.some u q (ap (λ (l : List M). nat_lt 0 (length l)) (sym same) ∙ t) in
          omega (arith, is, lt))
          (one_place (far g v s.0) (far_port g v s.0) u q)

  sends_of : (v : ℕ) (ss : Outgoing M) (w : Net S M) (n : Newest) → AreOf w n → AreOf (send_all r g v ss w) (sent g v ss n)
  sends_of v [] w n h = h
  sends_of v (s ∷ ss) w n h = sends_of v ss (send r g v w s) (sent_on g v s.0 n) (send_of v w n s h)

  take_of : (v p : ℕ) (m : M) (ms : List M) (w : Net S M) (n : Newest) → w.queue v p ≡ m ∷ ms → AreOf w n → AreOf (take_first r g v p m ms w) n
  take_of v p m ms w n is h = record { numbers = h.numbers; some = some }
    where
      some : (u q : ℕ) → nat_lt 0 (length ((take_first r g v p m ms w).queue u q)) ≡ true → 0 < n.last u q
      some u q t = ⊎_elim
          (λ (z : (u ≡ v) × (q ≡ p)).
          let lt = h.some v p (ap (λ (l : List M). nat_lt 0 (length l)) is ∙ lt-ltb 0 (length (m ∷ ms)) (omega arith)) in
          rw (z.0, z.1) lt)
          (λ ne.
          h.some u q
          (ap (λ (l : List M). nat_lt 0 (length l))
          (sym (put_at_miss w.queue v p u q (left_of (r.defers (w.node v) (Deliver p m)) m ms) ne)) ∙ t))
          (one_place v p u q)

  react_of : (v : ℕ) (o : Outcome S M) (w : Net S M) (n : Newest) → AreOf w n → AreOf (reacted r g v o w) (sent g v o.sends n)
  react_of v o w n h =
      sends_of v o.sends (record w { node = put w.node v o.state }) n (record { numbers = h.numbers; some = λ a b t. h.some a b t })

  happens_of : (w x : Net S M) (e : Event) (n : Newest) → Happens r g w e x → AreOf w n → AreOf x (newest_then r g w e n)
  happens_of w _ _ n (Woke v o lo hi s k t) h =
      let same : newest_then r g w (events.Wake v) n ≡ sent g v o.sends n = ap (λ (z : Option (Outcome S M)). answered g (events.Wake v) z n) k in
      subst (λ (y : Newest). AreOf (reacted r g v o w) y) (sym same) (react_of v o w n h)
  happens_of w _ _ n (Took v p m ms o at q k t) h =
      let rule : r.reaction (w.node v) (work_at w (events.Take v p)) ≡ Some o =
      ap (λ (l : List M). r.reaction (w.node v) (delivery p l)) q ∙ k in
      let same : newest_then r g w (events.Take v p) n ≡ sent g v o.sends n =
      ap (λ (z : Option (Outcome S M)). answered g (events.Take v p) z n) rule in
      subst (λ (y : Newest). AreOf (reacted r g v o (take_first r g v p m ms w)) y) (sym same)
      (react_of v o (take_first r g v p m ms w) n (take_of v p m ms w n q h))

  after_of : (es : List Event) (w x : Net S M) (n : Newest) → AreOf w n → run r g es w ≡ Some x → AreOf x (newest_after r g es w n)
  after_of [] w x n i k = subst (λ (z : Net S M). AreOf z n) (same_Some w x k) i
  after_of (e ∷ es) w x n i k =
      go (λ y h. after_of es y x (newest_then r g w e n) (happens_of w y e n (happening r g w y e h) i)) (happens r g w e) refl k
    where
      go : ((y : Net S M) → happens r g w e ≡ Some y → run r g es y ≡ Some x → AreOf x (newest_after r g es y (newest_then r g w e n))) →
          (o : Option (Net S M)) → happens r g w e ≡ o → option_and_then (λ y. run r g es y) o ≡ Some x →
          AreOf x (if_then o (λ y. newest_after r g es y (newest_then r g w e n)) n)
      go rest None h j = cc
      go rest (Some y) h j = rest y h j

  opening_of : AreOf (opening r g) none_sent
  opening_of = record {
    numbers = record { within = λ v p. omega arith; apart = λ v u p q lt e. absurd (omega (arith, lt)) };
    some = λ v p t. cc t;
  }

  pub of_run : (es : List Event) (w : Net S M) → run r g es (opening r g) ≡ Some w → AreOf w (newest_of r g es)
  unfolding newest_of
  of_run es w k = after_of es (opening r g) w none_sent opening_of k
