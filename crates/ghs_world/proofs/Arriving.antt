-- What was sent waits at the far ends.
use Rattle.std.proofs.Common.{◌≡◌, ℕ, ◌+◌, ◌<◌, ◌≤◌, true, Some, List, [], ◌∷◌, ◌++◌, length, drop, get_or, set, refl, sym, ◌∙◌, ap, subst}
use Rattle.std.specs.List.{All}
use Rattle.std.proofs.lemmas.Bool.{and_from}
use Rattle.std.proofs.lemmas.Option.{same_Some}
use Rattle.std.proofs.lemmas.List.Elements.{All-nil, All-cons, All-get_or}
use Rattle.ghs_node.specs.declared.message.Message.{Message}
use Rattle.ghs_node.specs.declared.delta.Delta.{Delta}
use Rattle.ghs_node.specs.Words.{Outgoing}
use Rattle.ghs_node.specs.Reaction.{reaction}
use Rattle.peer_network.specs.declared.event.Event.{Event}
use Rattle.peer_network.specs.declared.event.Event.TheVariants.{Wake, Take}
use Rattle.ghs_graph.specs.Graph.{Shape, IsGraph}
use Rattle.ghs_graph.specs.Ports.{ports_of}
use Rattle.peer_network.specs.Network.{Network, network_of, far, far_port, At}
use Rattle.ghs_protocol.specs.Net.{Net, send, send_all, change, take_first, is_waiting, happens}
use Rattle.ghs_protocol.specs.Steps.{Happens, Woke, Took}
use Rattle.ghs_protocol.proofs.lemmas.Events.{happening}
use Rattle.peer_network.proofs.lemmas.Updates.{put_at_hit}
use Rattle.ghs_core.specs.NetState.{NetState, network, net_of, event_node, work_at, delivery, IsAnswer}
use Rattle.peer_index.specs.Places.{far_take, place, HasPlace}
use Rattle.peer_index.specs.Index.{IndexState, IsIndexBut}
use Rattle.peer_network.specs.declared.wake_set.WakeSet.{WakeSet}
use Rattle.ghs_world.specs.Upkeep.{HaveArrived, lawful_in}
use Rattle.ghs_world.proofs.lemmas.Leaving.{arrivals, far_place, next_arrival, place_there}
use Rattle.peer_index.proofs.lemmas.Marks.{marked_one}
use Rattle.ghs_world.proofs.Staying.{grows, waits_still}

pub last_waits : (q : List Message) (m : Message) → is_waiting (q ++ m ∷ []) ≡ true
last_waits [] m = refl
last_waits (n ∷ q) m = refl

module _ (g : Network) (v : ℕ) where
  one_waits : (s : ℕ × Message) (w : Net) → is_waiting ((send g v w s).queue (far g v s.0) (far_port g v s.0)) ≡ true
  one_waits s w = ap is_waiting (put_at_hit w.queue (far g v s.0) (far_port g v s.0) (far g v s.0) (far_port g v s.0) _ refl refl) ∙ last_waits _ s.1

  all_wait : (ss : Outgoing) (w : Net) → HaveArrived g (send_all g v ss w) v ss
  all_wait [] w = All-nil _
  all_wait (s ∷ ss) w =
      All-cons (λ (x : ℕ × Message). is_waiting ((send_all g v ss (send g v w s)).queue (far g v x.0) (far_port g v x.0)) ≡ true) s ss
      (waits_still _ _ (grows g v ss (send g v w s) (far g v s.0) (far_port g v s.0)) (one_waits s w)) (all_wait ss (send g v w s))

module _ (g : Network) where
  happens_arrived : (w w' : Net) (e : Event) (d : Delta) → Happens g w e w' → reaction (w.node (event_node e)) (work_at w e) ≡ Some d →
      HaveArrived g w' (event_node e) d.sends
  happens_arrived w _ _ d (Woke v c lo hi s r) answer =
      subst (λ (x : Delta). HaveArrived g (send_all g v c.sends (change v c w)) v x.sends) (same_Some c d (sym r ∙ answer))
      (all_wait g v c.sends (change v c w))
  happens_arrived w _ _ d (Took v p m ms c at q r) answer =
      subst (λ (x : Delta). HaveArrived g (send_all g v c.sends (change v c (take_first c.fate v p m ms w))) v x.sends)
      (same_Some c d (sym r ∙ sym (ap (λ k. reaction (w.node v) (delivery p k)) q) ∙ answer))
      (all_wait g v c.sends (change v c (take_first c.fate v p m ms w)))

  pub arrived : (w w' : Net) (e : Event) (d : Delta) → happens g w e ≡ Some w' → reaction (w.node (event_node e)) (work_at w e) ≡ Some d →
      HaveArrived g w' (event_node e) d.sends
  arrived w w' e d h answer = happens_arrived w w' e d (happening g w w' e h) answer

arrived_at : (old : NetState) (g : Shape) (w : Net) (e : Event) (d : Delta) → old.graph ≡ g → happens (network old) (net_of old) e ≡ Some w →
    IsAnswer old e d → HaveArrived (network_of g) w (event_node e) d.sends
arrived_at old g w e d same event answer =
    subst (λ (h : Shape). HaveArrived (network_of h) w (event_node e) d.sends) same (arrived (network old) (net_of old) w e d event answer)

pub arrived_in : (old new : NetState) (e : Event) (d : Delta) → new.graph ≡ old.graph → happens (network old) (net_of old) e ≡ Some (net_of new) →
    IsAnswer old e d → HaveArrived (network new) (net_of new) (event_node e) d.sends
arrived_in old new e d graph event answer = arrived_at old new.graph (net_of new) e d (sym graph) event answer

-- the node of an event that has a place
node_placed : (g : Network) (e : Event) → HasPlace g e → (1 ≤ event_node e) × (event_node e ≤ g.count)
node_placed g (Wake v) has = has
node_placed g (Take v p) has = (has.some, has.node)

-- the port on which something was sent
pub sent_port : (g : Shape) (e : Event) (ss : Outgoing) (i : ℕ) (s : ℕ × Message) → HasPlace (network_of g) e →
    All (λ (x : ℕ × Message). x.0 < length (ports_of g.keys (event_node e))) ss → i < length ss → s ≡ get_or ss i s →
    At (network_of g) (event_node e) s.0
sent_port g e ss i s has ports lt is =
    let node = node_placed (network_of g) e has in
    let port = All-get_or (λ (x : ℕ × Message). x.0 < length (ports_of g.keys (event_node e))) ss i s lt ports in
    record { some = node.0; node = node.1; port = subst (λ (x : ℕ × Message). x.0 < length (ports_of g.keys (event_node e))) (sym is) port }

-- the Take at its far end is marked
pub arrival_marked : (n : NetState) (wake : WakeSet) (v i : ℕ) (ss : Outgoing) (s : ℕ × Message) (x y : IndexState) → IsGraph n.graph →
    At (network n) v s.0 → HaveArrived (network n) (net_of n) v ss → i < length ss → s ≡ get_or ss i s →
    y ≡ record x { marks = set x.marks (place (network n) (far_take (network n) v s.0)) true } →
    IsIndexBut (network n) (lawful_in n wake) (arrivals (network n) v (drop i ss)) x →
    IsIndexBut (network n) (lawful_in n wake) (arrivals (network n) v (drop (i + 1) ss)) y
arrival_marked n wake v i ss s x y graph at arrived lt is new but =
    let there = far_place n.graph v s.0 graph at.some at.node at.port in
    let waits =
    All-get_or (λ (m : ℕ × Message). is_waiting ((net_of n).queue (far (network n) v m.0) (far_port (network n) v m.0)) ≡ true)
    ss i s lt arrived in
    let here =
    subst (λ (m : ℕ × Message). is_waiting ((net_of n).queue (far (network n) v m.0) (far_port (network n) v m.0)) ≡ true) (sym is) waits in
    marked_one (network n) (lawful_in n wake) (far_take (network n) v s.0) x y true new (sym (and_from _ _ there here))
    (place_there (network n) (far_take (network n) v s.0) there) _
    (subst (λ (es : List Event). IsIndexBut (network n) (lawful_in n wake) es x) (next_arrival (network n) v ss i s lt is) but)
