-- What is sent is counted, message by message.
use Rattle.std.proofs.Common.{◌≡◌, ℕ, suc, ◌+◌, ◌^◌, ◌<◌, ◌≤◌, true, [], ◌∷◌, length, drop, drop-cons, get_or, sym, ◌∙◌, ap, subst, ⊎_elim, arith, ltb-true}
use Rattle.std.specs.List.{All}
use Rattle.std.proofs.lemmas.Bool.{and_parts}
use Rattle.std.proofs.lemmas.List.Elements.{All-cons, All-get_or, All-nil}
use Rattle.std.proofs.Math.ListN.{drop_of_length-le}
use Rattle.peer_network.specs.declared.event.Event.{Event}
use Rattle.peer_network.specs.Network.{At, Network}
use Rattle.peer_network.proofs.lemmas.Wired.{IsWired}
use Rattle.peer_index.specs.Places.{HasPlace, far_take}
use Rattle.peer_machine.specs.Rules.{Outgoing, Rules}
use Rattle.peer_machine.specs.Net.{are_on_ports}
use Rattle.peer_picking.specs.Kept.{IsRound, RoundState, count_of, sent_to, with_count}
use Rattle.peer_picking.proofs.Rounding.{count_here, count_there, one_event, round_with}

-- the next of what is left to be sent
next_left : {M : Type 0} (i : ℕ) (ss : Outgoing M) (s : ℕ × M) → i < length ss → s ≡ get_or ss i s → drop i ss ≡ s ∷ drop (i + 1) ss
next_left {M} i ss s lt is =
    let up : suc i ≡ i + 1 = omega arith in
    drop-cons ss i s lt ∙ ap (λ (y : ℕ × M). y ∷ drop (suc i) ss) (sym is) ∙ ap (λ (k : ℕ). s ∷ drop k ss) up

-- each goes out on a port
pub all_at : {S M : Type 0} (r : Rules S M) (g : Network) (v : ℕ) (ss : Outgoing M) → 1 ≤ v → v ≤ g.count → are_on_ports r g v ss ≡ true →
    All (λ (s : ℕ × M). At g v s.0) ss
all_at {S} {M} r g v [] low high on = All-nil (λ (s : ℕ × M). At g v s.0)
all_at {S} {M} r g v (s ∷ ss) low high on =
    let parts = and_parts _ _ on in
    All-cons (λ (m : ℕ × M). At g v m.0) s ss (record { some = low; node = high; port = ltb-true s.0 _ parts.0 })
    (all_at r g v ss low high parts.1)

-- there is room for so many messages more
abbrev pub HasRoom : Network → RoundState → ℕ → Type 0
HasRoom g x n = (f : Event) → HasPlace g f → count_of g x f + n < 2 ^ 64

-- what is left to be sent leads to the end
pub record IsSending {M : Type 0} (g : Network) (v : ℕ) (rest : Outgoing M) (x end : RoundState) : Type 0 where
  pub is : sent_to g v rest x ≡ end
  pub round : IsRound g x
  pub room : HasRoom g x (length rest)

module _ {M : Type 0} (g : Network) (wired : IsWired g) (v : ℕ) (end : RoundState) where
  sending_less : (s : ℕ × M) (rest : Outgoing M) (x : RoundState) → At g v s.0 → IsSending g v (s ∷ rest) x end →
      IsSending g v rest (with_count g (far_take g v s.0) (suc (count_of g x (far_take g v s.0))) x) end
  sending_less s rest x at h = record {
    is = h.is;
    round = round_with g x e (suc (count_of g x e)) h.round there;
    room = λ f has. ⊎_elim
        (λ (same : f ≡ e).
        let one : count_of g (with_count g e (suc (count_of g x e)) x) f ≡ suc (count_of g x e) =
        rw same (count_here g x e (suc (count_of g x e)) h.round there) in
        let before = h.room e there in
        omega (arith, one, before))
        (λ ne.
        let one = count_there g x e f (suc (count_of g x e)) there has ne in
        let before = h.room f has in
        omega (arith, one, before))
        (one_event g e f there has);
  }
    where
      e : Event
      e = far_take g v s.0

      there : HasPlace g e
      there = wired.there v s.0 at

  module _ (ss : Outgoing M) (ports : All (λ (s : ℕ × M). At g v s.0) ss) (i : ℕ) (s : ℕ × M) (x : RoundState) (lt : i < length ss)
      (is : s ≡ get_or ss i s) where
    pub port_of : At g v s.0
    port_of = subst (λ (m : ℕ × M). At g v m.0) (sym is) (All-get_or (λ (m : ℕ × M). At g v m.0) ss i s lt ports)

    module _ (h : IsSending g v (drop i ss) x end) where
      split : IsSending g v (s ∷ drop (i + 1) ss) x end
      split = subst (λ (l : Outgoing M). IsSending g v l x end) (next_left i ss s lt is) h

      pub count_room : count_of g x (far_take g v s.0) + 1 < 2 ^ 64
      count_room = let room = split.room (far_take g v s.0) (wired.there v s.0 port_of) in omega (arith, room)

      pub sending_next : IsSending g v (drop (i + 1) ss) (with_count g (far_take g v s.0) (count_of g x (far_take g v s.0) + 1) x) end
      sending_next =
          let up : suc (count_of g x (far_take g v s.0)) ≡ count_of g x (far_take g v s.0) + 1 = omega arith in
          subst (λ (n : ℕ). IsSending g v (drop (i + 1) ss) (with_count g (far_take g v s.0) n x) end) up
          (sending_less s (drop (i + 1) ss) x port_of split)

  pub sending_ends : (ss : Outgoing M) (i : ℕ) (x : RoundState) → length ss ≤ i → IsSending g v (drop i ss) x end → x ≡ end
  sending_ends ss i x past h =
      (subst (λ (l : Outgoing M). IsSending g v l x end) (drop_of_length-le ss past) h).is
