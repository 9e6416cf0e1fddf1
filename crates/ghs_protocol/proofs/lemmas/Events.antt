-- An event that happens, by its parts.
use Rattle.std.proofs.Common.{◌≡◌, ℕ, ◌≤◌, true, List, [], ◌∷◌, refl, ◌∙◌, ap, subst, Option, Some, None}
use Rattle.std.proofs.lemmas.Bool.{and_parts}
use Rattle.std.proofs.lemmas.Option.{same_Some}
use Rattle.ghs_node.specs.declared.message.Message.{Message}
use Rattle.ghs_node.specs.declared.message.Phase.TheVariants.{Sleeping}
use Rattle.ghs_node.specs.declared.delta.Delta.{Delta}
use Rattle.ghs_node.specs.declared.work.Work.TheVariants.{Wake, Deliver}
use Rattle.ghs_node.specs.Words.{is_sleeping}
use Rattle.ghs_node.specs.Reaction.{reaction}
use Rattle.ghs_node.proofs.lemmas.{sleeping_is}
use Rattle.peer_network.specs.declared.event.Event.{Event}
use Rattle.peer_network.specs.declared.event.Event.TheVariants as events
use Rattle.peer_network.specs.Network.{Network, At}
use Rattle.ghs_protocol.specs.Net.{Net, is_waiting, is_lawful, after_wake, after_take, takes_from, effect, happens}
use Rattle.ghs_protocol.specs.Steps.{Happens, Woke, Took}
use Rattle.peer_network.proofs.lemmas.Events.{if_some, and_true, node_of, is_node_of, at_of, is_port_of}

module _ (g : Network) (w w' : Net) where
  woke_of : (v : ℕ) → 1 ≤ v → v ≤ g.count → (w.node v).head.phase ≡ Sleeping → (o : Option Delta) → reaction (w.node v) Wake ≡ o →
      after_wake g w v o ≡ Some w' → Happens g w (events.Wake v) w'
  woke_of v lo hi s None r e = cc
  woke_of v lo hi s (Some d) r e = subst (Happens g w (events.Wake v)) (same_Some _ _ e) (Woke v d lo hi s r)

  took_of : (v p : ℕ) → At g v p → (m : Message) (ms : List Message) → w.queue v p ≡ m ∷ ms → (o : Option Delta) →
      reaction (w.node v) (Deliver p m) ≡ o → after_take g w v p m ms o ≡ Some w' → Happens g w (events.Take v p) w'
  took_of v p at m ms q None r e = cc
  took_of v p at m ms q (Some d) r e = subst (Happens g w (events.Take v p)) (same_Some _ _ e) (Took v p m ms d at q r)

  took_from : (v p : ℕ) → At g v p → (q : List Message) → w.queue v p ≡ q → takes_from g w v p q ≡ Some w' → Happens g w (events.Take v p) w'
  took_from v p at [] q e = cc
  took_from v p at (m ∷ ms) q e = took_of v p at m ms q (reaction (w.node v) (Deliver p m)) refl e

  -- what happens, by its parts
  pub happening : (e : Event) → happens g w e ≡ Some w' → Happens g w e w'
  happening (events.Wake v) h =
      if_some (is_lawful g w (events.Wake v)) _ w' h
      (λ t x. let b = and_parts _ _ t in let n = node_of g v b.0 in woke_of v n.0 n.1 (sleeping_is _ b.1) (reaction (w.node v) Wake) refl x)
  happening (events.Take v p) h =
      if_some (is_lawful g w (events.Take v p)) _ w' h
      (λ t x. let b = and_parts _ _ t in took_from v p (at_of g v p b.0) (w.queue v p) refl x)

-- an event that is lawful and has a reaction happens
pub lawful_happens : (g : Network) (w : Net) (e : Event) → is_lawful g w e ≡ true → happens g w e ≡ effect g w e
lawful_happens g w e l = rw l

-- and back
pub happens_so : {g : Network} {w w' : Net} {e : Event} → Happens g w e w' → happens g w e ≡ Some w'
happens_so {g} {w} (Woke v d lo hi s r) =
    lawful_happens g w (events.Wake v) (and_true _ _ (is_node_of g v lo hi) (ap is_sleeping s)) ∙ ap (after_wake g w v) r
happens_so {g} {w} (Took v p m ms d at q r) =
    lawful_happens g w (events.Take v p) (and_true _ _ (is_port_of g v p at) (ap is_waiting q)) ∙ ap (takes_from g w v p) q
    ∙ ap (after_take g w v p m ms) r

pub taken_at : {g : Network} {w : Net} {v p : ℕ} {x : Net} → Happens g w (events.Take v p) x → At g v p
taken_at (Took v p m ms d at q r) = at
