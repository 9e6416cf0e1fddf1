-- What the events of a run send.
use Rattle.std.proofs.Common.{◌≡◌, ℕ, ◌+◌, Option, Some, None, List, [], ◌∷◌, length, refl, sym, ◌∙◌, ap, arith, length-append}
use Rattle.std.specs.Prelude.{option_and_then}
use Rattle.std.proofs.lemmas.List.{length-map}
use Rattle.std.proofs.lemmas.Option.{same_Some}
use Rattle.peer_network.specs.declared.event.Event.{Event}
use Rattle.peer_network.specs.declared.event.Event.TheVariants as events
use Rattle.peer_network.specs.Network.{Network}
use Rattle.peer_network.proofs.lemmas.Sums.{sum_none}
use Rattle.peer_machine.specs.Rules.{Rules, Outcome, HasKinds, messages}
use Rattle.peer_machine.specs.Net.{Net, opening, happens, take_first}
use Rattle.peer_machine.specs.Run.{run, IsAfter}
use Rattle.peer_machine.specs.Ledger.{in_all}
use Rattle.peer_machine.specs.Steps.{Happens, Woke, Took}
use Rattle.peer_machine.proofs.lemmas.Counts.{sent_in_all}
use Rattle.peer_machine.proofs.lemmas.Events.{happening}
use Rattle.peer_net.specs.NetState.{delivery, work_at}
use Rattle.peer_lengths.specs.Sends.{if_net, sends_of, sends_at, followed, sent_then, all_sent}

module _ {S M : Type 0} (r : Rules S M) (g : Network) (kinds : HasKinds r) where
  -- what an event sends is counted
  pub event_sends : (w x : Net S M) (e : Event) → Happens r g w e x → in_all r x.sent ≡ in_all r w.sent + length (sends_at r w e)
  event_sends w _ _ (Woke v o lo hi s e t) =
      sent_in_all r g kinds v o w ∙ ap (λ (p : Option (Outcome S M)). in_all r w.sent + length (sends_of p)) (sym e)
  event_sends w _ _ (Took v p m ms o at q e t) =
      let rule : r.reaction (w.node v) (work_at w (events.Take v p)) ≡ Some o = ap (λ (l : List M). r.reaction (w.node v) (delivery p l)) q ∙ e in
      sent_in_all r g kinds v o (take_first r g v p m ms w)
      ∙ ap (λ (y : Option (Outcome S M)). in_all r w.sent + length (sends_of y)) (sym rule)

  grown : (w : Net S M) (e : Event) (ms : List M) → length (sent_then r w e ms) ≡ length ms + length (sends_at r w e)
  grown w e ms =
      length-append ms (messages (sends_at r w e)) ∙ ap (λ (n : ℕ). length ms + n) (length-map (sends_at r w e) (λ (s : ℕ × M). s.1))

  counted : (es : List Event) (w x : Net S M) (ms : List M) → run r g es w ≡ Some x →
      length (followed r (sent_then r) g es w ms) + in_all r w.sent ≡ in_all r x.sent + length ms
  counted [] w x ms h =
      let same : in_all r w.sent ≡ in_all r x.sent = ap (λ (z : Net S M). in_all r z.sent) (same_Some w x h) in omega (arith, same)
  counted (e ∷ es) w x ms h = go (λ y l. counted es y x (sent_then r w e ms) l) (happens r g w e) refl h
    where
      go :
          ((y : Net S M) → run r g es y ≡ Some x →
          length (followed r (sent_then r) g es y (sent_then r w e ms)) + in_all r y.sent ≡ in_all r x.sent + length (sent_then r w e ms)) →
          (o : Option (Net S M)) → happens r g w e ≡ o → option_and_then (λ y. run r g es y) o ≡ Some x →
          length (if_net o (λ y. followed r (sent_then r) g es y (sent_then r w e ms)) ms) + in_all r w.sent ≡ in_all r x.sent + length ms
      go rest None is l = cc
      go rest (Some y) is l =
          let one = event_sends w y e (happening r g w y e is) in
          let others = rest y l in
          let both = grown w e ms in
          omega (arith, one, others, both)

  -- the messages of a run are as many as its net has counted
  pub all_counted : (es : List Event) (w : Net S M) → IsAfter r g es w → length (all_sent r g es) ≡ in_all r w.sent
  unfolding all_sent
  all_counted es w h =
      let many = counted es (opening r g) w [] h in
      let none = sum_none r.kinds (λ k. 0) (λ k lt. refl) in
      omega (arith, many, none)
