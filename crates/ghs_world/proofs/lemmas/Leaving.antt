-- What an event leaves as it was.
use Rattle.std.proofs.Common.{◌≡◌, ◌≢◌, ℕ, suc, ◌+◌, ◌<◌, ◌≤◌, Bool, true, ◌&&◌, List, [], ◌∷◌, map, length, drop, drop-cons, get_or, Some, refl, sym, ◌∙◌, ap, subst, arith}
use Rattle.std.specs.List.{Contains}
use Rattle.std.proofs.lemmas.Bool.{and_parts}
use Rattle.std.proofs.lemmas.Option.{same_Some}
use Rattle.ghs_graph.specs.Graph.{Shape, IsGraph}
use Rattle.ghs_graph.specs.Ports.{ports_of}
use Rattle.ghs_graph.proofs.lemmas.Members.{first_in, later_in}
use Rattle.ghs_node.specs.declared.message.Message.{Message}
use Rattle.ghs_node.specs.declared.delta.Delta.{Delta}
use Rattle.ghs_node.specs.Words.{Outgoing, is_sleeping}
use Rattle.ghs_node.specs.NodeState.{NodeState}
use Rattle.ghs_node.specs.Reaction.{reaction}
use Rattle.peer_network.specs.declared.event.Event.{Event}
use Rattle.peer_network.specs.declared.event.Event.TheVariants.{Wake, Take}
use Rattle.peer_network.specs.Network.{Network, network_of, far, far_port, is_node, is_port}
use Rattle.ghs_protocol.specs.Net.{Net, send, send_all, change, take_first, left_of, is_waiting, is_lawful_under, happens}
use Rattle.ghs_protocol.specs.Steps.{Happens, Woke, Took}
use Rattle.ghs_protocol.proofs.lemmas.Effects.{taken_there}
use Rattle.ghs_protocol.proofs.lemmas.Events.{happening}
use Rattle.peer_network.proofs.lemmas.Events.{node_of, at_of, is_node_of, is_port_of}
use Rattle.peer_network.proofs.lemmas.Graphs.{graph_wired}
use Rattle.ghs_protocol.proofs.lemmas.Sends.{node_there}
use Rattle.peer_network.proofs.lemmas.Updates.{put_at_miss}
use Rattle.ghs_core.specs.NetState.{NetState, network, event_node, work_at, delivery, IsLawful}
use Rattle.peer_index.specs.Places.{HasPlace, has_place}
use Rattle.ghs_world.specs.Upkeep.{changed}

pub place_there : (g : Network) (e : Event) → has_place g e ≡ true → HasPlace g e
place_there g (Wake v) h = node_of g v h
place_there g (Take v p) h = at_of g v p h

-- the Takes at the far ends
abbrev pub arrivals : Network → ℕ → Outgoing → List Event
arrivals g v ss = map (λ (s : ℕ × Message). Take (far g v s.0) (far_port g v s.0)) ss

-- the next of them
pub next_arrival : (g : Network) (v : ℕ) (ss : Outgoing) (i : ℕ) (s : ℕ × Message) → i < length ss → s ≡ get_or ss i s →
    arrivals g v (drop i ss) ≡ Take (far g v s.0) (far_port g v s.0) ∷ arrivals g v (drop (i + 1) ss)
next_arrival g v ss i s lt e =
    let up : suc i ≡ i + 1 = omega arith in
    ap (arrivals g v) (drop-cons ss i s lt ∙ ap (λ (x : ℕ × Message). x ∷ drop (suc i) ss) (sym e))
    ∙ ap (λ (n : ℕ). Take (far g v s.0) (far_port g v s.0) ∷ arrivals g v (drop n ss)) up

module _ (g : Network) (v : ℕ) where
  -- no message comes in at a port that none is sent to
  unsent : (ss : Outgoing) (w : Net) (u q : ℕ) → (Contains (arrivals g v ss) (Take u q) → ⊥) → (send_all g v ss w).queue u q ≡ w.queue u q
  unsent [] w u q none = refl
  unsent (s ∷ ss) w u q none =
      unsent ss (send g v w s) u q (λ h. none (later_in (Take (far g v s.0) (far_port g v s.0)) (Take u q) _ h))
      ∙ put_at_miss w.queue (far g v s.0) (far_port g v s.0) u q _
      (λ z. none (subst (λ (e : Event). Contains (e ∷ arrivals g v ss) (Take u q)) (ap (λ a. Take a q) z.0 ∙ ap (Take (far g v s.0)) z.1)
      (first_in (Take u q) (arrivals g v ss))))

-- other nodes than an event's are as they were
abbrev pub NodesStay : Net → Net → Event → Type 0
NodesStay w w' e = (u : ℕ) → u ≢ event_node e → w'.node u ≡ w.node u

-- what an event leaves as it was
pub record Leaves (g : Network) (w w' : Net) (e : Event) (d : Delta) : Type 0 where
  pub node : NodesStay w w' e
  pub queue : (u q : ℕ) → (Contains (changed g e d.sends) (Take u q) → ⊥) → w'.queue u q ≡ w.queue u q

module _ (g : Network) where
  past : (a b f : Event) (fs : List Event) → (Contains (a ∷ b ∷ fs) f → ⊥) → (f ≢ a) × (f ≢ b) × (Contains fs f → ⊥)
  past a b f fs none = (
    λ z. none (subst (λ (x : Event). Contains (x ∷ b ∷ fs) f) z (first_in f (b ∷ fs))),
    λ z. none (later_in a f (b ∷ fs) (subst (λ (x : Event). Contains (x ∷ fs) f) z (first_in f fs))),
    λ h. none (later_in a f (b ∷ fs) (later_in b f fs h)),
  )

  woke_leaves : (w : Net) (v : ℕ) (d : Delta) → Leaves g w (send_all g v d.sends (change v d w)) (Wake v) d
  woke_leaves w v d = record {
    node = λ u ne. node_there g v d w u ne;
    queue = λ u q none. unsent g v d.sends (change v d w) u q (past (Wake v) (Wake v) (Take u q) _ none).2;
  }

  took_leaves : (w : Net) (v p : ℕ) (m : Message) (ms : List Message) (d : Delta) →
      Leaves g w (send_all g v d.sends (change v d (take_first d.fate v p m ms w))) (Take v p) d
  took_leaves w v p m ms d = record {
    node = λ u ne. taken_there g v p m ms d w u ne;
    queue = λ u q none.
        let apart = past (Wake v) (Take v p) (Take u q) _ none in
        unsent g v d.sends (change v d (take_first d.fate v p m ms w)) u q apart.2
        ∙ put_at_miss w.queue v p u q (left_of d.fate m ms) (λ z. apart.1 (ap (λ a. Take a q) z.0 ∙ ap (Take v) z.1));
  }

  happens_leaves : (w w' : Net) (e : Event) (d : Delta) → Happens g w e w' → reaction (w.node (event_node e)) (work_at w e) ≡ Some d →
      Leaves g w w' e d
  happens_leaves w _ _ d (Woke v c lo hi s r) answer =
      subst (λ x. Leaves g w (send_all g v c.sends (change v c w)) (Wake v) x) (same_Some c d (sym r ∙ answer)) (woke_leaves w v c)
  happens_leaves w _ _ d (Took v p m ms c at q r) answer =
      subst (λ x. Leaves g w (send_all g v c.sends (change v c (take_first c.fate v p m ms w))) (Take v p) x)
      (same_Some c d (sym r ∙ sym (ap (λ k. reaction (w.node v) (delivery p k)) q) ∙ answer)) (took_leaves w v p m ms c)

  pub leaves : (w w' : Net) (e : Event) (d : Delta) → happens g w e ≡ Some w' → reaction (w.node (event_node e)) (work_at w e) ≡ Some d →
      Leaves g w w' e d
  leaves w w' e d h answer = happens_leaves w w' e d (happening g w w' e h) answer

  -- an event that isn't among the changed ones is as lawful as before
  pub same_else : (may : ℕ → Bool) (w w' : Net) (e : Event) (d : Delta) (f : Event) → Leaves g w w' e d → (Contains (changed g e d.sends) f → ⊥) →
      is_lawful_under may g w' f ≡ is_lawful_under may g w f
  same_else may w w' e d (Wake u) after none =
      ap (λ (n : NodeState). may u && (is_node g u && is_sleeping n.head.phase))
      (after.node u (λ z. (past (Wake (event_node e)) e (Wake u) _ none).0 (ap Wake z)))
  same_else may w w' e d (Take u q) after none = ap (λ (l : List Message). is_port g u q && is_waiting l) (after.queue u q none)

-- a far end is a port
pub far_place : (g : Shape) (v p : ℕ) → IsGraph g → 1 ≤ v → v ≤ g.nodes → p < length (ports_of g.keys v) →
    has_place (network_of g) (Take (far (network_of g) v p) (far_port (network_of g) v p)) ≡ true
far_place g v p graph lo hi lt = is_port_of (network_of g) _ _ ((graph_wired g graph).there v p (record { some = lo; node = hi; port = lt }))

pub node_place : (g : Network) (e : Event) → has_place g e ≡ true →
    (1 ≤ event_node e) × (event_node e ≤ g.count) × (has_place g (Wake (event_node e)) ≡ true)
node_place g (Wake v) h = let n = node_of g v h in (n.0, n.1, h)
node_place g (Take v p) h = let at = at_of g v p h in (at.some, at.node, is_node_of g v at.some at.node)

pub lawful_place : (s : NetState) (e : Event) → IsLawful s e → has_place (network s) e ≡ true
lawful_place s (Wake v) h = (and_parts _ _ h).0
lawful_place s (Take v p) h = (and_parts _ _ h).0
