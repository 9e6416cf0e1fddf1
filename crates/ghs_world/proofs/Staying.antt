-- What an event leaves as it is at other nodes than its own.
use Rattle.std.proofs.Common.{◌≡◌, ◌≢◌, ℕ, Bool, true, ◌&&◌, Some, List, [], ◌∷◌, ◌++◌, append_assoc, map, refl, sym, ◌∙◌, ap, subst, ⊎_elim}
use Rattle.std.specs.List.{Contains}
use Rattle.std.proofs.lemmas.Bool.{and_parts, and_from}
use Rattle.std.proofs.lemmas.Option.{same_Some}
use Rattle.std.proofs.lemmas.List.{append-nil}
use Rattle.ghs_graph.proofs.lemmas.Members.{first_in, later_in}
use Rattle.ghs_node.specs.declared.message.Message.{Message}
use Rattle.ghs_node.specs.declared.delta.Delta.{Delta}
use Rattle.ghs_node.specs.Words.{Outgoing, is_sleeping}
use Rattle.ghs_node.specs.NodeState.{NodeState}
use Rattle.ghs_node.specs.Reaction.{reaction}
use Rattle.peer_network.specs.declared.event.Event.{Event}
use Rattle.peer_network.specs.declared.event.Event.TheVariants.{Wake, Take}
use Rattle.peer_network.specs.Network.{Network, far, far_port, is_node, is_port}
use Rattle.ghs_protocol.specs.Net.{Net, send, send_all, change, take_first, left_of, is_waiting, is_lawful, is_lawful_under, happens}
use Rattle.ghs_protocol.specs.Steps.{Happens, Woke, Took}
use Rattle.ghs_protocol.proofs.lemmas.Effects.{taken_there}
use Rattle.ghs_protocol.proofs.lemmas.Events.{happening}
use Rattle.ghs_protocol.proofs.lemmas.Sends.{node_there}
use Rattle.peer_network.proofs.lemmas.Updates.{put_at_node, put_at_miss, put_at_hit, one_place}
use Rattle.ghs_core.specs.NetState.{event_node, work_at, delivery}
use Rattle.ghs_world.specs.Steps.{touched}
use Rattle.ghs_world.proofs.lemmas.Leaving.{NodesStay}

-- the second list begins with the first
abbrev pub Begins : List Message → List Message → Type 0
Begins q q' = (r : List Message) × (q' ≡ q ++ r)

module _ (g : Network) (v : ℕ) where
  pub one_grows : (s : ℕ × Message) (w : Net) (u p : ℕ) → Begins (w.queue u p) ((send g v w s).queue u p)
  one_grows s w u p = ⊎_elim
      (λ z. (
        s.1 ∷ [],
        put_at_hit w.queue (far g v s.0) (far_port g v s.0) u p _ z.0 z.1 ∙
            ap (λ (q : List Message). q ++ s.1 ∷ []) (ap (λ a. w.queue a (far_port g v s.0)) (sym z.0) ∙ ap (w.queue u) (sym z.1)),
      ))
      (λ miss. ([], put_at_miss w.queue (far g v s.0) (far_port g v s.0) u p _ miss ∙ sym (append-nil _)))
      (one_place (far g v s.0) (far_port g v s.0) u p)

  -- queues only grow while messages are sent
  pub grows : (ss : Outgoing) (w : Net) (u p : ℕ) → Begins (w.queue u p) ((send_all g v ss w).queue u p)
  grows [] w u p = ([], sym (append-nil _))
  grows (s ∷ ss) w u p =
      let one = one_grows s w u p in
      let rest = grows ss (send g v w s) u p in
      (one.0 ++ rest.0, rest.1 ∙ ap (λ (q : List Message). q ++ rest.0) one.1 ∙ append_assoc (w.queue u p) one.0 rest.0)

  -- and not at a node to which nothing is sent
  unsent : (ss : Outgoing) (w : Net) (u p : ℕ) →
      (Contains (map (λ (s : ℕ × Message). far g v s.0) ss) u → ⊥) →
      (send_all g v ss w).queue u p ≡ w.queue u p
  unsent [] w u p none = refl
  unsent (s ∷ ss) w u p none =
      unsent ss (send g v w s) u p (λ h. none (later_in (far g v s.0) u _ h))
      ∙ put_at_node w.queue (far g v s.0) (far_port g v s.0) u p _
      (λ (z : u ≡ far g v s.0). none (subst (λ x. Contains (x ∷ map (λ (m : ℕ × Message). far g v m.0) ss) u) z (first_in u _)))

-- what an event does at other nodes than its own
pub record Beside (g : Network) (w w' : Net) (e : Event) (d : Delta) : Type 0 where
  pub node : NodesStay w w' e
  pub queue : (u p : ℕ) → u ≢ event_node e → Begins (w.queue u p) (w'.queue u p)
  pub unsent : (u p : ℕ) → (Contains (touched g (event_node e) d.sends) u → ⊥) → w'.queue u p ≡ w.queue u p

module _ (g : Network) where
  away : (v u : ℕ) (us : List ℕ) → (Contains (v ∷ us) u → ⊥) → (u ≢ v) × (Contains us u → ⊥)
  away v u us none = (λ z. none (subst (λ x. Contains (x ∷ us) u) z (first_in u us)), λ h. none (later_in v u us h))

  woke_beside : (w : Net) (v : ℕ) (d : Delta) → Beside g w (send_all g v d.sends (change v d w)) (Wake v) d
  woke_beside w v d = record {
    node = λ u ne. node_there g v d w u ne;
    queue = λ u p ne. grows g v d.sends (change v d w) u p;
    unsent = λ u p none. unsent g v d.sends (change v d w) u p (away v u _ none).1;
  }

  took_beside : (w : Net) (v p : ℕ) (m : Message) (ms : List Message) (d : Delta) →
      Beside g w (send_all g v d.sends (change v d (take_first d.fate v p m ms w))) (Take v p) d
  took_beside w v p m ms d = record {
    node = λ u ne. taken_there g v p m ms d w u ne;
    queue = λ u r ne.
        let more = grows g v d.sends (change v d (take_first d.fate v p m ms w)) u r in
        (more.0, more.1 ∙ ap (λ (q : List Message). q ++ more.0) (put_at_node w.queue v p u r (left_of d.fate m ms) ne));
    unsent = λ u r none.
        let apart = away v u _ none in
        unsent g v d.sends (change v d (take_first d.fate v p m ms w)) u r apart.1 ∙ put_at_node w.queue v p u r (left_of d.fate m ms) apart.0;
  }

  happens_beside : (w w' : Net) (e : Event) (d : Delta) →
      Happens g w e w' →
      reaction (w.node (event_node e)) (work_at w e) ≡ Some d →
      Beside g w w' e d
  happens_beside w _ _ d (Woke v c lo hi s r) answer =
      subst (λ x. Beside g w (send_all g v c.sends (change v c w)) (Wake v) x) (same_Some c d (sym r ∙ answer)) (woke_beside w v c)
  happens_beside w _ _ d (Took v p m ms c at q r) answer =
      subst
      (λ x. Beside g w (send_all g v c.sends (change v c (take_first c.fate v p m ms w))) (Take v p) x)
      (same_Some c d (sym r ∙ sym (ap (λ k. reaction (w.node v) (delivery p k)) q) ∙ answer)) (took_beside w v p m ms c)

  pub beside : (w w' : Net) (e : Event) (d : Delta) →
      happens g w e ≡ Some w' →
      reaction (w.node (event_node e)) (work_at w e) ≡ Some d →
      Beside g w w' e d
  beside w w' e d h answer = happens_beside w w' e d (happening g w w' e h) answer

pub waits_still : (q q' : List Message) → Begins q q' → is_waiting q ≡ true → is_waiting q' ≡ true
waits_still [] q' b e = cc
waits_still (m ∷ q) q' b e = ap is_waiting b.1

-- what may happen at another node may still happen
pub still_lawful : (g : Network) (may : ℕ → Bool) (w w' : Net) (e : Event) (d : Delta) (f : Event) →
    Beside g w w' e d →
    event_node f ≢ event_node e →
    is_lawful_under may g w f ≡ true →
    is_lawful_under may g w' f ≡ true
still_lawful g may w w' e d (Wake u) after ne h =
    let a = and_parts _ _ h in
    let b = and_parts _ _ a.1 in
    and_from _ _ a.0 (and_from _ _ b.0 (ap (λ (n : NodeState). is_sleeping n.head.phase) (after.node u ne) ∙ b.1))
still_lawful g may w w' e d (Take u p) after ne h =
    let b = and_parts _ _ h in
    and_from _ _ b.0 (waits_still (w.queue u p) (w'.queue u p) (after.queue u p ne) b.1)

-- at a node that the event doesn't touch, what may happen is the same
pub same_lawful : (g : Network) (may : ℕ → Bool) (w w' : Net) (e : Event) (d : Delta) (f : Event) →
    Beside g w w' e d →
    (Contains (touched g (event_node e) d.sends) (event_node f) → ⊥) →
    is_lawful_under may g w' f ≡ is_lawful_under may g w f
same_lawful g may w w' e d (Wake u) after none =
    ap (λ (n : NodeState). may u && (is_node g u && is_sleeping n.head.phase)) (after.node u (away g (event_node e) u _ none).0)
same_lawful g may w w' e d (Take u p) after none = ap (λ (q : List Message). is_port g u p && is_waiting q) (after.unsent u p none)

-- and a message that is first there stays so
pub same_work : (g : Network) (w w' : Net) (e : Event) (d : Delta) (f : Event) →
    Beside g w w' e d →
    event_node f ≢ event_node e →
    is_lawful g w f ≡ true →
    work_at w' f ≡ work_at w f
same_work g w w' e d (Wake u) after ne h = refl
same_work g w w' e d (Take u p) after ne h = delivers_still (w.queue u p) (w'.queue u p) (after.queue u p ne) (and_parts _ _ h).1
  where
    delivers_still : (q q' : List Message) → Begins q q' → is_waiting q ≡ true → delivery p q' ≡ delivery p q
    delivers_still [] q' b k = cc
    delivers_still (m ∷ q) q' b k = ap (delivery p) b.1
