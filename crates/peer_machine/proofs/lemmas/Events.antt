-- An event that happens, by its parts.
use Rattle.std.proofs.Common.{◌≡◌, ℕ, ◌≤◌, true, nat_lt, List, [], ◌∷◌, length, refl, ◌∙◌, ap, subst, Option, Some, None, lt-ltb, arith}
use Rattle.std.proofs.lemmas.Bool.{and_parts, and_from}
use Rattle.std.proofs.lemmas.Option.{same_Some}
use Rattle.peer_network.specs.declared.event.Event.{Event}
use Rattle.peer_network.specs.declared.event.Event.TheVariants as events
use Rattle.peer_network.specs.Network.{Network, At}
use Rattle.peer_network.proofs.lemmas.Events.{if_some, node_of, is_node_of, at_of, is_port_of}
use Rattle.peer_machine.specs.declared.work.Work.TheVariants.{Wake, Deliver}
use Rattle.peer_machine.specs.Rules.{Rules, Outcome}
use Rattle.peer_machine.specs.Net.{Net, is_lawful, are_on_ports, reacted, take_first, if_reacted, takes_from, effect, happens}
use Rattle.peer_machine.specs.Steps.{Happens, Woke, Took}

module _ {S M : Type 0} (r : Rules S M) (g : Network) where
  module _ (w w' : Net S M) where
    woke_of : (v : ℕ) → 1 ≤ v → v ≤ g.count → r.is_asleep (w.node v) ≡ true → (o : Option (Outcome S M)) →
        r.reaction (w.node v) Wake ≡ o → if_reacted r g v o w ≡ Some w' → Happens r g w (events.Wake v) w'
    woke_of v lo hi s None e h = cc
    woke_of v lo hi s (Some o) e h =
        if_some (are_on_ports r g v o.sends) _ w' h
        (λ t x. subst (Happens r g w (events.Wake v)) (same_Some _ _ x) (Woke v o lo hi s e t))

    took_of : (v p : ℕ) → At g v p → (m : M) (ms : List M) → w.queue v p ≡ m ∷ ms → (o : Option (Outcome S M)) →
        r.reaction (w.node v) (Deliver p m) ≡ o → if_reacted r g v o (take_first r g v p m ms w) ≡ Some w' → Happens r g w (events.Take v p) w'
    took_of v p at m ms q None e h = cc
    took_of v p at m ms q (Some o) e h =
        if_some (are_on_ports r g v o.sends) _ w' h
        (λ t x. subst (Happens r g w (events.Take v p)) (same_Some _ _ x) (Took v p m ms o at q e t))

    took_from : (v p : ℕ) → At g v p → (q : List M) → w.queue v p ≡ q → takes_from r g w v p q ≡ Some w' → Happens r g w (events.Take v p) w'
    took_from v p at [] q h = cc
    took_from v p at (m ∷ ms) q h = took_of v p at m ms q (r.reaction (w.node v) (Deliver p m)) refl h

    -- what happens, by its parts
    pub happening : (e : Event) → happens r g w e ≡ Some w' → Happens r g w e w'
    happening (events.Wake v) h =
        if_some (is_lawful r g w (events.Wake v)) _ w' h
        (λ t x. let b = and_parts _ _ t in let n = node_of g v b.0 in woke_of v n.0 n.1 b.1 (r.reaction (w.node v) Wake) refl x)
    happening (events.Take v p) h =
        if_some (is_lawful r g w (events.Take v p)) _ w' h
        (λ t x. let b = and_parts _ _ t in took_from v p (at_of g v p b.0) (w.queue v p) refl x)

  -- an event that is lawful and has a reaction happens
  pub lawful_happens : (w : Net S M) (e : Event) → is_lawful r g w e ≡ true → happens r g w e ≡ effect r g w e
  lawful_happens w e l = rw l

  reacted_so : (v : ℕ) (o : Outcome S M) (w : Net S M) → are_on_ports r g v o.sends ≡ true → if_reacted r g v (Some o) w ≡ Some (reacted r g v o w)
  reacted_so v o w t = rw t

  -- a message waits
  waits : (m : M) (ms : List M) → nat_lt 0 (length (m ∷ ms)) ≡ true
  waits m ms = lt-ltb 0 (length (m ∷ ms)) (omega arith)

  pub woke_lawful : (w : Net S M) (v : ℕ) → 1 ≤ v → v ≤ g.count → r.is_asleep (w.node v) ≡ true → is_lawful r g w (events.Wake v) ≡ true
  woke_lawful w v lo hi s = and_from _ _ (is_node_of g v lo hi) s

  pub took_lawful : (w : Net S M) (v p : ℕ) (m : M) (ms : List M) → At g v p → w.queue v p ≡ m ∷ ms → is_lawful r g w (events.Take v p) ≡ true
  took_lawful w v p m ms at q = and_from _ _ (is_port_of g v p at) (ap (λ (x : List M). nat_lt 0 (length x)) q ∙ waits m ms)

  -- and back
  pub happens_so : {w w' : Net S M} {e : Event} → Happens r g w e w' → happens r g w e ≡ Some w'
  happens_so {w} (Woke v o lo hi s e t) =
      lawful_happens w (events.Wake v) (woke_lawful w v lo hi s) ∙ ap (λ x. if_reacted r g v x w) e ∙ reacted_so v o w t
  happens_so {w} (Took v p m ms o at q e t) =
      lawful_happens w (events.Take v p) (took_lawful w v p m ms at q) ∙ ap (takes_from r g w v p) q
      ∙ ap (λ x. if_reacted r g v x (take_first r g v p m ms w)) e ∙ reacted_so v o (take_first r g v p m ms w) t
