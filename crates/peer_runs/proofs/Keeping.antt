-- What a world keeps when an event is played.
use Rattle.std.proofs.Common.{◌≡◌, ℕ, ◌+◌, ◌<◌, true, Some, List, [], ◌∷◌, ◌++◌, length, drop, get_or, set, sym, ap₂, subst, lt-ltb}
use Rattle.std.specs.List.{All}
use Rattle.std.proofs.lemmas.Bool.{and_from}
use Rattle.std.proofs.lemmas.List.Elements.{All-get_or, All-push}
use Rattle.ghs_graph.specs.Graph.{Shape, IsGraph}
use Rattle.peer_network.specs.declared.event.Event.{Event}
use Rattle.peer_network.specs.declared.event.Event.TheVariants.{Wake, Take}
use Rattle.peer_network.specs.Network.{Network, network_of, far, far_port}
use Rattle.peer_network.specs.Events.{MayWake}
use Rattle.peer_network.proofs.lemmas.Events.{is_port_of}
use Rattle.peer_network.proofs.lemmas.Graphs.{graph_wired}
use Rattle.peer_index.specs.Places.{HasPlace, far_take, place}
use Rattle.peer_index.specs.Index.{IndexState, IsIndexOf, IsIndexBut}
use Rattle.peer_index.proofs.lemmas.Marks.{but_of, marked_one}
use Rattle.peer_network.specs.declared.wake_set.WakeSet.{WakeSet}
use Rattle.peer_network.specs.Wakes.{may_wake}
use Rattle.peer_machine.specs.Rules.{Rules, Outgoing}
use Rattle.peer_machine.specs.Net.{Net, event_node, is_lawful, happens}
use Rattle.peer_machine.proofs.lemmas.Events.{happening}
use Rattle.peer_net.specs.NetState.{NetState, network, net_of, AreSends}
use Rattle.peer_runs.specs.Lawful.{is_lawful_under}
use Rattle.peer_runs.specs.WorldState.{lawful_in, IsWorld}
use Rattle.peer_runs.specs.Upkeep.{changed, HasArrived, IsStale}
use Rattle.peer_runs.proofs.lemmas.Lawful.{lawful_parts, lawful_place}
use Rattle.peer_runs.proofs.lemmas.Changing.{Done, done_of, same_else, have_arrived, arrivals, next_arrival}

-- the same graph and the same trace are the same net
pub same_net : (s t : NetState) → s.graph ≡ t.graph → s.trace ≡ t.trace → s ≡ t
same_net s t g e = ap₂ (λ (a : Shape) (es : List Event). record { graph = a; trace = es }) g e

-- the node of an event that names a node or port
pub own_wake : (g : Network) (e : Event) → HasPlace g e → HasPlace g (Wake (event_node e))
own_wake g (Wake v) h = h
own_wake g (Take v p) h = (h.some, h.node)

module _ {S M : Type 0} (r : Rules S M) where
  -- an index in the words of any graph and any net
  record Stale (g : Shape) (w : Net S M) (wake : WakeSet) (e : Event) (ss : Outgoing M) (x : IndexState) : Type 0 where
    pub named : HasPlace (network_of g) e
    pub waiting : All (λ (s : ℕ × M). HasArrived (network_of g) w (event_node e) s.0) ss
    pub marks : IsIndexBut (network_of g) (is_lawful_under r (may_wake g wake) (network_of g) w) (changed (network_of g) e ss) x

  module _ (old new : NetState) (wake : WakeSet) (e : Event) (x : IndexState) (world : IsWorld r old wake x)
      (ready : lawful_in r old wake e ≡ true) (graph : new.graph ≡ old.graph) where
    -- the event may happen
    parts : MayWake (may_wake old.graph wake) e × (is_lawful r (network old) (net_of r old) e ≡ true)
    parts = lawful_parts r (may_wake old.graph wake) (network old) (net_of r old) e ready

    module _ (ss : Outgoing M) (event : happens r (network old) (net_of r old) e ≡ Some (net_of r new)) (sent : AreSends r old e ss) where
      done : Done r (network old) (net_of r old) (net_of r new) e ss
      done =
          done_of r (network old) (net_of r old) (net_of r new) e ss sent.0 (happening r (network old) (net_of r old) (net_of r new) e event)
          sent.1 sent.2

      here : Stale old.graph (net_of r new) wake e ss x
      here = record {
        named = lawful_place r (may_wake old.graph wake) (network old) (net_of r old) e parts.1;
        waiting = have_arrived done;
        marks = but_of (network old) (lawful_in r old wake) (is_lawful_under r (may_wake old.graph wake) (network old) (net_of r new))
            (changed (network old) e ss) x world.index (λ f has none. same_else done (may_wake old.graph wake) f none);
      }

      -- the marks are those of what may happen now, but perhaps for what has changed
      pub stale : IsStale r new wake e ss x
      stale =
          let now : Stale new.graph (net_of r new) wake e ss x = subst (λ (g : Shape). Stale g (net_of r new) wake e ss x) (sym graph) here in
          record { place = now.named; arrived = now.waiting; index = now.marks }

    -- once they are marked anew
    pub played : (y : IndexState) → new.trace ≡ old.trace ++ e ∷ [] → IsIndexOf (network new) (lawful_in r new wake) y → IsWorld r new wake y
    played y trace of = record {
      wakes = rw (graph, trace) (All-push (MayWake (may_wake old.graph wake)) old.trace e world.wakes parts.0);
      index = of;
    }

  -- where nothing has happened
  pub still : (old new : NetState) (wake : WakeSet) (x : IndexState) → IsWorld r old wake x → new.graph ≡ old.graph → new.trace ≡ old.trace →
      IsWorld r new wake x
  still old new wake x world graph trace = subst (λ (n : NetState). IsWorld r n wake x) (sym (same_net new old graph trace)) world

  -- the Take at the far end of what was sent is marked
  pub arrival_marked : (n : NetState) (wake : WakeSet) (v i : ℕ) (ss : Outgoing M) (s : ℕ × M) (x y : IndexState) → IsGraph n.graph →
      All (λ (m : ℕ × M). HasArrived (network n) (net_of r n) v m.0) ss → i < length ss → s ≡ get_or ss i s →
      y ≡ record x { marks = set x.marks (place (network n) (far_take (network n) v s.0)) true } →
      IsIndexBut (network n) (lawful_in r n wake) (arrivals (network n) v (drop i ss)) x →
      IsIndexBut (network n) (lawful_in r n wake) (arrivals (network n) v (drop (i + 1) ss)) y
  arrival_marked n wake v i ss s x y graph all lt is new but =
      let one =
      subst (λ (m : ℕ × M). HasArrived (network n) (net_of r n) v m.0) (sym is)
      (All-get_or (λ (m : ℕ × M). HasArrived (network n) (net_of r n) v m.0) ss i s lt all) in
      let there = (graph_wired n.graph graph).there v s.0 one.port in
      let lawful : lawful_in r n wake (far_take (network n) v s.0) ≡ true =
      and_from _ _ (is_port_of (network n) (far (network n) v s.0) (far_port (network n) v s.0) there) (lt-ltb 0 _ one.waits) in
      marked_one (network n) (lawful_in r n wake) (far_take (network n) v s.0) x y true new (sym lawful) there _
      (subst (λ (es : List Event). IsIndexBut (network n) (lawful_in r n wake) es x) (next_arrival (network n) v ss i s lt is) but)
