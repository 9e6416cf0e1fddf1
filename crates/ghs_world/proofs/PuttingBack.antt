-- A message that is only put back changes nothing of what may happen.
use Rattle.std.proofs.Common.{◌≡◌, ℕ, Bool, true, ◌&&◌, List, [], ◌∷◌, Some, refl, sym, ap, subst, ⊎_elim}
use Rattle.std.specs.List.{slice_get}
use Rattle.std.proofs.lemmas.Bool.{and_parts}
use Rattle.ghs_graph.specs.Graph.{Shape, IsGraph}
use Rattle.ghs_node.specs.declared.message.Message.{Message}
use Rattle.ghs_node.specs.NodeState.{NodeState}
use Rattle.ghs_node.specs.Words.{is_sleeping}
use Rattle.peer_network.specs.declared.event.Event.{Event}
use Rattle.peer_network.specs.declared.event.Event.TheVariants.{Wake, Take}
use Rattle.ghs_protocol.specs.Living.{Turned, Waits, WaitingTakesTurn}
use Rattle.peer_network.specs.Network.{Network, network_of, is_node, is_port}
use Rattle.ghs_protocol.specs.Net.{Net, happens, is_lawful_under, is_waiting}
use Rattle.ghs_protocol.specs.Run.{IsRun}
use Rattle.ghs_protocol.specs.Laws.{IsNetOf}
use Rattle.ghs_protocol.proofs.lemmas.Events.{happening}
use Rattle.peer_network.proofs.lemmas.Events.{at_of}
use Rattle.ghs_protocol.proofs.lemmas.Runs.{after_is_net}
use Rattle.peer_network.proofs.lemmas.Updates.{one_place}
use Rattle.ghs_core.specs.NetState.{NetState, network, net_of, IsLawful}
use Rattle.peer_index.specs.Index.{IndexState, IsIndexOf}
use Rattle.peer_index.proofs.lemmas.Marks.{but_of, of_but}
use Rattle.peer_network.specs.declared.wake_set.WakeSet.{WakeSet}
use Rattle.ghs_world.specs.Upkeep.{lawful_in}
use Rattle.peer_network.specs.Wakes.{may_wake}
use Rattle.ghs_world.proofs.Arriving.{last_waits}

module _ (g : Network) (may : ℕ → Bool) (w w' : Net) (v p : ℕ) (m : Message) (ms : List Message) (waits : w.queue v p ≡ m ∷ ms)
    (turned : Turned w v p m ms w') where
  -- each queue has a message where it had one
  same_waiting : (u q : ℕ) → is_waiting (w'.queue u q) ≡ is_waiting (w.queue u q)
  same_waiting u q = ⊎_elim
      (λ (z : (u ≡ v) × (q ≡ p)). rw (z.0, z.1, turned.queue, waits) (last_waits ms m))
      (λ apart. ap is_waiting (turned.queues u q apart))
      (one_place v p u q)

  pub same_lawful : (e : Event) → is_lawful_under may g w' e ≡ is_lawful_under may g w e
  same_lawful (Wake u) = ap (λ (n : NodeState). may u && (is_node g u && is_sleeping n.head.phase)) (turned.nodes u)
  same_lawful (Take u q) = ap (λ b. is_port g u q && b) (same_waiting u q)

-- the index of a net is that of one in which the same events are lawful
pub index_turned : (old new : NetState) (wake : WakeSet) (x : IndexState) →
    IsIndexOf (network old) (lawful_in old wake) x →
    new.graph ≡ old.graph →
    ((e : Event) → is_lawful_under (may_wake old.graph wake) (network old) (net_of new) e ≡ lawful_in old wake e) →
    IsIndexOf (network new) (lawful_in new wake) x
index_turned old new wake x of graph same = subst
    (λ (g : Shape). IsIndexOf (network_of g) (is_lawful_under (may_wake g wake) (network_of g) (net_of new)) x) (sym graph)
    (of_but (network old) still x (but_of (network old) (lawful_in old wake) still [] x of (λ e has none. same e)))
  where
    still : Event → Bool
    still = is_lawful_under (may_wake old.graph wake) (network old) (net_of new)

-- the index after a message was put back
pub index_back : (old new : NetState) (wake : WakeSet) (x : IndexState) (v p : ℕ) →
    WaitingTakesTurn →
    IsGraph old.graph →
    IsRun (network old) old.trace →
    IsIndexOf (network old) (lawful_in old wake) x →
    IsLawful old (Take v p) →
    ((m : Message) → slice_get ((net_of old).queue v p) 0 ≡ Some m → Waits ((net_of old).node v) p m) →
    new.graph ≡ old.graph → happens (network old) (net_of old) (Take v p) ≡ Some (net_of new) →
    IsIndexOf (network new) (lawful_in new wake) x
index_back old new wake x v p law graph run of lawful waits same event = of_queue ((net_of old).queue v p) refl parts.1
  where
    parts : (is_port (network old) v p ≡ true) × (is_waiting ((net_of old).queue v p) ≡ true)
    parts = and_parts _ _ lawful

    net : IsNetOf old.graph (net_of old)
    net = record { graph = graph; events = old.trace; run = after_is_net old.graph old.trace run }

    of_queue : (ms : List Message) → (net_of old).queue v p ≡ ms → is_waiting ms ≡ true → IsIndexOf (network new) (lawful_in new wake) x
    of_queue [] e some = cc
    of_queue (m ∷ ms) e some =
        index_turned old new wake x of same
        (same_lawful (network old) (may_wake old.graph wake) (net_of old) (net_of new) v p m ms e
        (law old.graph (net_of old) (net_of new) net v p m ms (at_of (network old) v p parts.0) e
        (waits m (ap (λ (q : List Message). slice_get q 0) e)) (happening (network old) (net_of old) (net_of new) (Take v p) event)))
