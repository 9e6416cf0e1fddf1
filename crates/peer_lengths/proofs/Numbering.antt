-- The numbers of nodes and messages: how great they are.
use Rattle.std.proofs.Common.{◌≡◌, suc, ◌+◌, Option, Some, None, List, [], ◌∷◌, length, refl, subst, arith}
use Rattle.std.specs.Prelude.{option_and_then}
use Rattle.std.proofs.lemmas.Option.{same_Some}
use Rattle.peer_network.specs.declared.event.Event.{Event}
use Rattle.peer_network.specs.Network.{Network}
use Rattle.peer_chains.specs.Chains.{Chains, no_chains}
use Rattle.peer_chains.proofs.lemmas.Bounding.{IsWithin, more_within, sends_within, hears_within, most_within, none_within}
use Rattle.peer_machine.specs.Rules.{Rules, HasKinds}
use Rattle.peer_machine.specs.Net.{Net, event_node, happens, opening}
use Rattle.peer_machine.specs.Run.{run, IsAfter}
use Rattle.peer_machine.specs.Ledger.{in_all}
use Rattle.peer_machine.specs.Steps.{Happens}
use Rattle.peer_machine.proofs.lemmas.Events.{happening}
use Rattle.peer_net.specs.NetState.{is_deferred}
use Rattle.peer_lengths.specs.Sends.{if_net, sends_at, followed}
use Rattle.peer_lengths.specs.Chain.{numbers_then, numbers_of}
use Rattle.peer_lengths.specs.Laws.{ChainsAreSent}
use Rattle.peer_lengths.proofs.lemmas.Sending.{event_sends}

module _ {S M : Type 0} (r : Rules S M) (g : Network) (kinds : HasKinds r) where
  then_within : (w x : Net S M) (e : Event) (c : Chains) → Happens r g w e x → IsWithin (in_all r w.sent) (in_all r w.sent) c →
      IsWithin (in_all r x.sent) (in_all r x.sent) (numbers_then r g w e c)
  then_within w x e c h i =
      let count = event_sends r g kinds w x e h in
      more_within (in_all r w.sent + length (sends_at r w e)) (in_all r w.sent + length (sends_at r w e)) _ _ _
      (omega (arith, count)) (omega (arith, count))
      (sends_within g (event_node e) (in_all r w.sent) (sends_at r w e) _
      (hears_within e (in_all r w.sent) (r.is_asleep (w.node (event_node e))) (is_deferred r w e) c i))

  after_within : (es : List Event) (w x : Net S M) (c : Chains) → IsWithin (in_all r w.sent) (in_all r w.sent) c → run r g es w ≡ Some x →
      IsWithin (in_all r x.sent) (in_all r x.sent) (followed r (numbers_then r g) g es w c)
  after_within [] w x c i h = subst (λ (z : Net S M). IsWithin (in_all r z.sent) (in_all r z.sent) c) (same_Some w x h) i
  after_within (e ∷ es) w x c i h =
      go (λ y k l. after_within es y x (numbers_then r g w e c) (then_within w y e c (happening r g w y e k) i) l) (happens r g w e) refl h
    where
      go :
          ((y : Net S M) → happens r g w e ≡ Some y → run r g es y ≡ Some x →
          IsWithin (in_all r x.sent) (in_all r x.sent) (followed r (numbers_then r g) g es y (numbers_then r g w e c))) →
          (o : Option (Net S M)) → happens r g w e ≡ o → option_and_then (λ y. run r g es y) o ≡ Some x →
          IsWithin (in_all r x.sent) (in_all r x.sent) (if_net o (λ y. followed r (numbers_then r g) g es y (numbers_then r g w e c)) c)
      go rest None k l = cc
      go rest (Some y) k l = rest y k l

  -- no number of a run is greater than messages were sent
  pub run_within : (es : List Event) (x : Net S M) → IsAfter r g es x → IsWithin (in_all r x.sent) (in_all r x.sent) (numbers_of r g es)
  unfolding numbers_of
  run_within es x h = after_within es (opening r g) x no_chains (none_within (in_all r (opening r g).sent)) h

pub chains_are_sent : {S M : Type 0} (r : Rules S M) → ChainsAreSent r
chains_are_sent r kinds g es w after = most_within (suc g.count) (in_all r w.sent) _ (run_within r g kinds es w after).node
