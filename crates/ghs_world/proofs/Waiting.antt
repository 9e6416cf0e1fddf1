-- What is out waits in the home view.
use Rattle.std.proofs.Common.{◌≡◌, ◌≢◌, ℕ, ◌+◌, ◌≤◌, Bool, true, false, ◌==◌, List, [], ◌∷◌, length, refl, ⊎_elim, arith, cond, ne_eqb, zero-le}
use Rattle.std.proofs.lemmas.Bool.{and_parts, or_parts, both_ways, eq-eqb, cases_eq}
use Rattle.ghs_node.specs.declared.message.Message.{Message}
use Rattle.peer_network.specs.declared.event.Event.{Event}
use Rattle.peer_network.specs.declared.event.Event.TheVariants.{Wake, Take}
use Rattle.peer_network.specs.Network.{Network, At}
use Rattle.ghs_protocol.specs.Net.{Net, is_waiting, is_lawful_under}
use Rattle.ghs_protocol.specs.Ledger.{waiting}
use Rattle.peer_network.specs.Sums.{sum_over_ports}
use Rattle.peer_network.proofs.lemmas.Events.{at_of}
use Rattle.peer_network.proofs.lemmas.Sums.{ports_one}
use Rattle.ghs_core.specs.NetState.{event_node}
use Rattle.ghs_world.specs.Outs.{Outs, is_out, message_of, messages_out, AreApart, AllOut}

-- the same numbers, but none at port p of node v
abbrev none_at : ℕ → ℕ → (ℕ → ℕ → ℕ) → ℕ → ℕ → ℕ
none_at v p f u r = cond (u == v) (cond (r == p) 0 (f u r)) (f u r)

-- a message waits where the event takes one
abbrev Waits : Network → (ℕ → ℕ → ℕ) → Event → Type 0
Waits g f (Wake v) = Unit {0}
Waits g f (Take v p) = At g v p × (1 ≤ f v p)

abbrev AllWait : Network → (ℕ → ℕ → ℕ) → Outs → Type 0
AllWait g f [] = Unit {0}
AllWait g f (o ∷ os) = Waits g f o.1 × AllWait g f os

none_there : (v p : ℕ) (f : ℕ → ℕ → ℕ) → none_at v p f v p ≡ 0
none_there v p f = rw (eq-eqb v v refl, eq-eqb p p refl)

same_beside : (v p : ℕ) (f : ℕ → ℕ → ℕ) (a b : ℕ) → ((a ≡ v) × (b ≡ p) → ⊥) → f a b ≡ none_at v p f a b
same_beside v p f a b apart = ⊎_elim
    (λ (e : a ≡ v). rw (eq-eqb a v e, ne_eqb b p (λ z. apart (e, z))))
    (λ ne. rw (ne_eqb a v ne)) (cases_eq a v)

module _ (g : Network) where
  waits_still : (f : ℕ → ℕ → ℕ) (v p : ℕ) (e : Event) → event_node e ≢ v → Waits g f e → Waits g (none_at v p f) e
  waits_still f v p (Wake u) ne w = tt
  waits_still f v p (Take u r) ne w = (w.0, rw (ne_eqb u v ne) w.1)

  all_still : (f : ℕ → ℕ → ℕ) (v p : ℕ) (os : Outs) → is_out os v ≡ false → AllWait g f os → AllWait g (none_at v p f) os
  all_still f v p [] h w = tt
  all_still f v p (o ∷ os) h w =
      let b = or_parts _ _ h in
      (waits_still f v p o.1 (λ z. both_ways _ b.0 (eq-eqb (event_node o.1) v z)) w.0, all_still f v p os b.1 w.1)

  one_more : (f : ℕ → ℕ → ℕ) (e : Event) (os : Outs) →
      ((h : ℕ → ℕ → ℕ) → AllWait g h os → messages_out os ≤ sum_over_ports g h) →
      is_out os (event_node e) ≡ false →
      Waits g f e →
      AllWait g f os →
      message_of e + messages_out os ≤ sum_over_ports g f
  one_more f (Wake v) os rest none w all = let r = rest f all in omega arith
  one_more f (Take v p) os rest none w all =
      let fewer = rest (none_at v p f) (all_still f v p os none all) in
      let one = ports_one g f (none_at v p f) v p w.0 (same_beside v p f) in
      let zero_there = none_there v p f in
      let some = w.1 in
      omega arith

  -- each of the messages that are out waits at a port of its own
  pub many_wait : (os : Outs) → AreApart os → (f : ℕ → ℕ → ℕ) → AllWait g f os → messages_out os ≤ sum_over_ports g f
  many_wait [] a f w = zero-le
  many_wait (o ∷ os) a f w = one_more f o.1 os (λ h all. many_wait os a.1 h all) a.0 w.0 w.1

  waits_at : (may : ℕ → Bool) (w : Net) (e : Event) → is_lawful_under may g w e ≡ true → Waits g (λ v p. length (w.queue v p)) e
  waits_at may w (Wake v) h = tt
  waits_at may w (Take v p) h = let b = and_parts _ _ h in (at_of g v p b.0, some (w.queue v p) b.1)
    where
      some : (q : List Message) → is_waiting q ≡ true → 1 ≤ length q
      some [] k = cc
      some (m ∷ q) k = omega arith

  all_wait : (may : ℕ → Bool) (w : Net) (os : Outs) → AllOut (is_lawful_under may g w) os → AllWait g (λ v p. length (w.queue v p)) os
  all_wait may w [] a = tt
  all_wait may w (o ∷ os) a = (waits_at may w o.1 a.0, all_wait may w os a.1)

  pub out_waits : (may : ℕ → Bool) (w : Net) (os : Outs) → AreApart os → AllOut (is_lawful_under may g w) os → messages_out os ≤ waiting g w
  out_waits may w os apart a = many_wait os apart (λ v p. length (w.queue v p)) (all_wait may w os a)
