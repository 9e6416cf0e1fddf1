-- As many numbers wait at a port as messages, and no more than were sent.
use Rattle.std.proofs.Common.{◌≡◌, ℕ, suc, ◌+◌, ◌≤◌, Bool, false, Option, Some, None, List, [], ◌∷◌, ◌++◌, length, refl, sym, ◌∙◌, ap, subst, ⊎_elim, arith, length-append}
use Rattle.std.specs.Prelude.{option_and_then}
use Rattle.std.proofs.lemmas.Option.{same_Some}
use Rattle.peer_network.specs.declared.event.Event.{Event}
use Rattle.peer_network.specs.declared.event.Event.TheVariants as events
use Rattle.peer_network.specs.Network.{Network, far, far_port}
use Rattle.peer_network.proofs.lemmas.Updates.{one_place, put_at_hit, put_at_miss}
use Rattle.peer_chains.specs.Chains.{Chains, no_chains, sent, sent_on, taken}
use Rattle.peer_machine.specs.declared.work.Work.TheVariants.{Deliver}
use Rattle.peer_machine.specs.Ledger.{in_all}
use Rattle.peer_machine.specs.Rules.{Rules, Outcome, Outgoing, HasKinds, NeverDefers}
use Rattle.peer_machine.specs.Net.{Net, happens, left_of, opening, put, put_at, send, send_all, take_first}
use Rattle.peer_machine.specs.Run.{IsAfter, run}
use Rattle.peer_machine.specs.Steps.{Happens, Took, Woke}
use Rattle.peer_machine.proofs.lemmas.Counts.{sent_in_all}
use Rattle.peer_machine.proofs.lemmas.Events.{happening}
use Rattle.peer_machine.proofs.lemmas.Runs.{run_keeps}
use Rattle.peer_net.specs.NetState.{delivery, is_deferred, work_at}
use Rattle.peer_lengths.specs.Chain.{numbers_of, numbers_then}
use Rattle.peer_lengths.specs.Sends.{followed, if_net, sends_at, sends_of}

abbrev pub AreLined : {S M : Type 0} → Chains → Net S M → Type 0
AreLined c w = (v p : ℕ) → length (c.queue v p) ≡ length (w.queue v p)

module _ {S M : Type 0} (r : Rules S M) (g : Network) where
  out_lined : (v : ℕ) (s : ℕ × M) (c : Chains) (w : Net S M) → AreLined c w → AreLined (sent_on g v s.0 c) (send r g v w s)
  out_lined v s c w h u q =
      let x = far g v s.0 in
      let i = far_port g v s.0 in
      let numbers = c.queue x i ++ suc (c.node v) ∷ [] in
      let letters = w.queue x i ++ s.1 ∷ [] in
      ⊎_elim
      (λ (z : (u ≡ x) × (q ≡ i)).
      let one : length (put_at c.queue x i numbers u q) ≡ length numbers = ap length (put_at_hit c.queue x i u q numbers z.0 z.1) in
      let two : length (put_at w.queue x i letters u q) ≡ length letters = ap length (put_at_hit w.queue x i u q letters z.0 z.1) in
      let more = length-append (c.queue x i) (suc (c.node v) ∷ []) in
      let most = length-append (w.queue x i) (s.1 ∷ []) in
      let before = h x i in
      omega (arith, one, two, more, most, before))
      (λ ne.
      let one : length (put_at c.queue x i numbers u q) ≡ length (c.queue u q) = ap length (put_at_miss c.queue x i u q numbers ne) in
      let two : length (put_at w.queue x i letters u q) ≡ length (w.queue u q) = ap length (put_at_miss w.queue x i u q letters ne) in
      one ∙ h u q ∙ sym two)
      (one_place x i u q)

  all_lined : (v : ℕ) (ss : Outgoing M) (c : Chains) (w : Net S M) → AreLined c w → AreLined (sent g v ss c) (send_all r g v ss w)
  all_lined v [] c w h = h
  all_lined v (s ∷ ss) c w h = all_lined v ss (sent_on g v s.0 c) (send r g v w s) (out_lined v s c w h)

  module _ (never : NeverDefers r) where
    -- the first message is gone, and its number
    taken_lined : (v p : ℕ) (asleep deferred : Bool) (m : M) (ms : List M) (l : List ℕ) (c : Chains) (w : Net S M) → deferred ≡ false →
        c.queue v p ≡ l → w.queue v p ≡ m ∷ ms → AreLined c w → AreLined (taken v p asleep deferred l c) (take_first r g v p m ms w)
    taken_lined v p asleep deferred m ms [] c w held is q h u i =
        let none : length (c.queue v p) ≡ 0 = ap length is in
        let some : length (w.queue v p) ≡ suc (length ms) = ap length q in
        let same = h v p in
        absurd (omega (arith, none, some, same))
    taken_lined v p asleep deferred m ms (t ∷ ts) c w held is q h u i =
        let none : length (c.queue v p) ≡ suc (length ts) = ap length is in
        let some : length (w.queue v p) ≡ suc (length ms) = ap length q in
        let same = h v p in
        let left = left_of (r.defers (w.node v) (Deliver p m)) m ms in
        let gone : left ≡ ms = ap (λ (b : Bool). left_of b m ms) (never (w.node v) (Deliver p m)) in
        ⊎_elim
        (λ (z : (u ≡ v) × (i ≡ p)).
        let one : length (put_at c.queue v p ts u i) ≡ length ts = ap length (put_at_hit c.queue v p u i ts z.0 z.1) in
        let two : length (put_at w.queue v p left u i) ≡ length ms = ap length (put_at_hit w.queue v p u i left z.0 z.1 ∙ gone) in
        rw held (omega (arith, one, two, none, some, same)))
        (λ ne.
        let one : length (put_at c.queue v p ts u i) ≡ length (c.queue u i) = ap length (put_at_miss c.queue v p u i ts ne) in
        let two : length (put_at w.queue v p left u i) ≡ length (w.queue u i) = ap length (put_at_miss w.queue v p u i left ne) in
        rw held (one ∙ h u i ∙ sym two))
        (one_place v p u i)

    then_lined : (w x : Net S M) (e : Event) (c : Chains) → Happens r g w e x → AreLined c w → AreLined (numbers_then r g w e c) x
    then_lined w _ _ c (Woke v o lo hi s k t) h =
        let out : sends_at r w (events.Wake v) ≡ o.sends = ap (λ (y : Option (Outcome S M)). sends_of y) k in
        rw out (all_lined v o.sends c (record w { node = put w.node v o.state }) h)
    then_lined w _ _ c (Took v p m ms o at q k t) h =
        let rule : r.reaction (w.node v) (work_at w (events.Take v p)) ≡ Some o = ap (λ (l : List M). r.reaction (w.node v)
        (delivery p l)) q ∙ k in
        let out : sends_at r w (events.Take v p) ≡ o.sends = ap (λ (y : Option (Outcome S M)). sends_of y) rule in
        let x = take_first r g v p m ms w in
        rw out
        (all_lined v o.sends
        (taken v p (r.is_asleep (w.node v)) (is_deferred r w (events.Take v p)) (c.queue v p) c)
        (record x { node = put x.node v o.state })
        (taken_lined v p (r.is_asleep (w.node v)) (is_deferred r w (events.Take v p)) m ms (c.queue v p) c w (never (w.node v) _) refl q h))

    after_lined : (es : List Event) (w x : Net S M) (c : Chains) → AreLined c w → run r g es w ≡ Some x →
        AreLined (followed r (numbers_then r g) g es w c) x
    after_lined [] w x c i h = subst (λ (z : Net S M). AreLined c z) (same_Some w x h) i
    after_lined (e ∷ es) w x c i h =
        go (λ y k l. after_lined es y x (numbers_then r g w e c) (then_lined w y e c (happening r g w y e k) i) l) (happens r g w e) refl h
      where
        go :
            ((y : Net S M) → happens r g w e ≡ Some y → run r g es y ≡ Some x →
            AreLined (followed r (numbers_then r g) g es y (numbers_then r g w e c)) x) →
            (o : Option (Net S M)) → happens r g w e ≡ o → option_and_then (λ y. run r g es y) o ≡ Some x →
            AreLined (if_net o (λ y. followed r (numbers_then r g) g es y (numbers_then r g w e c)) c) x
        go rest None k l = cc
        go rest (Some y) k l = rest y k l

    pub run_lined : (es : List Event) (x : Net S M) → IsAfter r g es x → AreLined (numbers_of r g es) x
    unfolding numbers_of
    run_lined es x h = after_lined es (opening r g) x no_chains (λ v p. refl) h

  -- no more wait anywhere than were sent
  abbrev pub AreFew : Net S M → Type 0
  AreFew w = (v p : ℕ) → length (w.queue v p) ≤ in_all r w.sent

  grown : (v : ℕ) (ss : Outgoing M) (w : Net S M) (u q : ℕ) → length ((send_all r g v ss w).queue u q) ≤ length (w.queue u q) + length ss
  grown v [] w u q = omega arith
  grown v (s ∷ ss) w u q =
      let x = far g v s.0 in
      let i = far_port g v s.0 in
      let letters = w.queue x i ++ s.1 ∷ [] in
      let rest = grown v ss (send r g v w s) u q in
      ⊎_elim
      (λ (z : (u ≡ x) × (q ≡ i)).
      let one : length ((send r g v w s).queue u q) ≡ length letters = ap length (put_at_hit w.queue x i u q letters z.0 z.1) in
      let more = length-append (w.queue x i) (s.1 ∷ []) in
      let here : length (w.queue u q) ≡ length (w.queue x i) = rw (z.0, z.1) refl in
      omega (arith, rest, one, more, here))
      (λ ne.
      let one : length ((send r g v w s).queue u q) ≡ length (w.queue u q) = ap length (put_at_miss w.queue x i u q letters ne) in
      omega (arith, rest, one))
      (one_place x i u q)

  module _ (kinds : HasKinds r) where
    event_few : NeverDefers r → (w x : Net S M) (e : Event) → AreFew w → Happens r g w e x → AreFew x
    event_few never w _ _ h (Woke v o lo hi s k t) u q =
        let count = sent_in_all r g kinds v o w in
        let most = grown v o.sends (record w { node = put w.node v o.state }) u q in
        let before = h u q in
        omega (arith, count, most, before)
    event_few never w _ _ h (Took v p m ms o at is k t) u q =
        let x = take_first r g v p m ms w in
        let count = sent_in_all r g kinds v o x in
        let most = grown v o.sends (record x { node = put x.node v o.state }) u q in
        let before = h u q in
        let left = left_of (r.defers (w.node v) (Deliver p m)) m ms in
        let gone : left ≡ ms = ap (λ (b : Bool). left_of b m ms) (never (w.node v) (Deliver p m)) in
        ⊎_elim
        (λ (z : (u ≡ v) × (q ≡ p)).
        let one : length (x.queue u q) ≡ length ms = ap length (put_at_hit w.queue v p u q left z.0 z.1 ∙ gone) in
        let all : length (w.queue u q) ≡ suc (length ms) = rw (z.0, z.1) (ap length is) in
        omega (arith, count, most, before, one, all))
        (λ ne.
        let one : length (x.queue u q) ≡ length (w.queue u q) = ap length (put_at_miss w.queue v p u q left ne) in
        omega (arith, count, most, before, one))
        (one_place v p u q)

    pub run_few : NeverDefers r → (es : List Event) (w : Net S M) → IsAfter r g es w → AreFew w
    run_few never es w after = run_keeps r g AreFew (event_few never) es (opening r g) w (λ v p. omega arith) after
