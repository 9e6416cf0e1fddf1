-- What the events of a run do, one event more.
use Rattle.std.proofs.Common.{◌≡◌, ℕ, ◌+◌, ◌<◌, ◌≤◌, Option, Some, None, List, [], ◌∷◌, ◌++◌, length, refl, sym, ◌∙◌, ap, arith, length-append}
use Rattle.std.specs.List.{sum_by}
use Rattle.std.specs.Prelude.{option_and_then}
use Rattle.std.proofs.lemmas.List.Sums.{sum_by_push}
use Rattle.std.proofs.lemmas.Option.{same_Some}
use Rattle.peer_network.specs.declared.event.Event.{Event}
use Rattle.peer_network.specs.declared.event.Event.TheVariants as events
use Rattle.peer_network.specs.Network.{Network}
use Rattle.peer_machine.specs.Rules.{Rules, Outcome, messages}
use Rattle.peer_machine.specs.Net.{Net, event_node, opening, happens, take_first}
use Rattle.peer_machine.specs.Run.{run, IsAfter}
use Rattle.peer_machine.specs.Ledger.{of_kind}
use Rattle.peer_machine.specs.Steps.{Happens, Woke, Took}
use Rattle.peer_machine.proofs.lemmas.Events.{happening}
use Rattle.peer_machine.proofs.lemmas.Sends.{sent_now}
use Rattle.peer_net.specs.NetState.{delivery, work_at}
use Rattle.peer_words.specs.Words.{Words}
use Rattle.peer_lengths.specs.Sends.{if_net, sends_of, followed}
use Rattle.peer_lengths.proofs.lemmas.Following.{followed_more}
use Rattle.peer_parts.specs.Deeds.{Deed, deed_at, deed_then, deeds, sent_of}
use Rattle.peer_parts.specs.Parts.{node_of}
use Rattle.peer_parts.proofs.lemmas.Summing.{AllWithin, within_more}

module _ {S M : Type 0} (r : Rules S M) (words : Words S M) (g : Network) where
  pub deeds_more : (es : List Event) (e : Event) (x y : Net S M) → IsAfter r g es x → happens r g x e ≡ Some y →
      deeds r words g (es ++ e ∷ []) ≡ deeds r words g es ++ deed_at r words x e ∷ []
  unfolding deeds
  deeds_more es e x y h k = followed_more r (deed_then r words) g es e (opening r g) x y [] h k

  -- what an event sends is counted
  event_sent : (w x : Net S M) (e : Event) (k : ℕ) → Happens r g w e x → x.sent k ≡ w.sent k + sent_of r k (deed_at r words w e)
  event_sent w _ _ k (Woke v o lo hi s e t) =
      sent_now r g v o w k ∙ ap (λ (p : Option (Outcome S M)). w.sent k + of_kind r k (messages (sends_of p))) (sym e)
  event_sent w _ _ k (Took v p m ms o at q e t) =
      let rule : r.reaction (w.node v) (work_at w (events.Take v p)) ≡ Some o = ap (λ (l : List M). r.reaction (w.node v) (delivery p l)) q ∙ e in
      sent_now r g v o (take_first r g v p m ms w) k
      ∙ ap (λ (y : Option (Outcome S M)). w.sent k + of_kind r k (messages (sends_of y))) (sym rule)

  -- its node is one of the network
  pub node_within : (w x : Net S M) (e : Event) → Happens r g w e x → (1 ≤ event_node e) × (event_node e < 1 + g.count)
  node_within w _ _ (Woke v o lo hi s e t) = (lo, omega (arith, hi))
  node_within w _ _ (Took v p m ms o at q e t) = let lo = at.some in let hi = at.node in (lo, omega (arith, hi))

  -- what is counted of some events, from a net on
  pub record HasDone (n k : ℕ) (w x : Net S M) (old new : List (Deed M)) : Type 0 where
    pub sends : sum_by (sent_of r k) new + w.sent k ≡ x.sent k + sum_by (sent_of r k) old
    pub count : length new ≡ length old + n
    pub within : AllWithin node_of 1 g.count old → AllWithin node_of 1 g.count new

  one_done : (n k : ℕ) (w y x : Net S M) (e : Event) (old new : List (Deed M)) → Happens r g w e y →
      HasDone n k y x (deed_then r words w e old) new → HasDone (n + 1) k w x old new
  one_done n k w y x e old new h rest = record {
    sends =
        let a = rest.sends in
        let b = event_sent w y e k h in
        let c = sum_by_push (sent_of r k) old (deed_at r words w e) in
        omega (arith, a, b, c);
    count = let a = rest.count in let b = length-append old (deed_at r words w e ∷ []) in omega (arith, a, b);
    within = λ all. let v = node_within w y e h in rest.within (within_more node_of 1 g.count old (deed_at r words w e) all v.0 v.1);
  }

  all_done : (k : ℕ) (es : List Event) (w x : Net S M) (ds : List (Deed M)) → run r g es w ≡ Some x →
      HasDone (length es) k w x ds (followed r (deed_then r words) g es w ds)
  all_done k [] w x ds h =
      let same : w.sent k ≡ x.sent k = ap (λ (z : Net S M). z.sent k) (same_Some w x h) in
      record { sends = omega (arith, same); count = omega arith; within = λ all. all }
  all_done k (e ∷ es) w x ds h = go (λ y l. all_done k es y x (deed_then r words w e ds) l) (happens r g w e) refl h
    where
      count : length es + 1 ≡ length (e ∷ es)
      count = omega arith

      go :
          ((y : Net S M) → run r g es y ≡ Some x →
          HasDone (length es) k y x (deed_then r words w e ds) (followed r (deed_then r words) g es y (deed_then r words w e ds))) →
          (o : Option (Net S M)) → happens r g w e ≡ o → option_and_then (λ y. run r g es y) o ≡ Some x →
          HasDone (length (e ∷ es)) k w x ds (if_net o (λ y. followed r (deed_then r words) g es y (deed_then r words w e ds)) ds)
      go rest None is l = cc
      go rest (Some y) is l =
          rw (← count)
          (one_done (length es) k w y x e ds (followed r (deed_then r words) g es y (deed_then r words w e ds)) (happening r g w y e is) (rest y l))

  -- of a whole run
  pub run_done : (k : ℕ) (es : List Event) (w : Net S M) → IsAfter r g es w → HasDone (length es) k (opening r g) w [] (deeds r words g es)
  unfolding deeds
  run_done k es w h = all_done k es (opening r g) w [] h
