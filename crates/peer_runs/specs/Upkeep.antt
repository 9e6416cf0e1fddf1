-- Which events may have changed once one has happened.
use Rattle.std.specs.Prelude.{ℕ, ◌<◌, List, ◌∷◌, length, map}
use Rattle.std.specs.List.{All}
use Rattle.peer_network.specs.declared.event.Event.{Event}
use Rattle.peer_network.specs.declared.event.Event.TheVariants.{Wake}
use Rattle.peer_network.specs.Network.{Network, At, far, far_port}
use Rattle.peer_index.specs.Places.{HasPlace, far_take}
use Rattle.peer_index.specs.Index.{IndexState, IsIndexBut}
use Rattle.peer_network.specs.declared.wake_set.WakeSet.{WakeSet}
use Rattle.peer_machine.specs.Rules.{Rules, Outgoing}
use Rattle.peer_machine.specs.Net.{Net, event_node}
use Rattle.peer_net.specs.NetState.{NetState, network, net_of}
use Rattle.peer_runs.specs.WorldState.{lawful_in}

-- the wake of its node, the event itself, and the Takes at the far ends of what its node has sent
abbrev pub changed : {M : Type 0} → Network → Event → Outgoing M → List Event
changed {M} g e ss = Wake (event_node e) ∷ e ∷ map (λ (s : ℕ × M). far_take g (event_node e) s.0) ss

-- p is a port of node v, and at its far end a message waits
pub record HasArrived {S M : Type 0} (g : Network) (w : Net S M) (v p : ℕ) : Type 0 where
  pub port : At g v p
  pub waits : 0 < length (w.queue (far g v p) (far_port g v p))

-- after an event the marks are those of what may happen, but perhaps for what has changed
pub record IsStale {S M : Type 0} (r : Rules S M) (n : NetState) (wake : WakeSet) (e : Event) (ss : Outgoing M) (x : IndexState) : Type 0 where
  pub place : HasPlace (network n) e
  pub arrived : All (λ (s : ℕ × M). HasArrived (network n) (net_of r n) (event_node e) s.0) ss
  pub index : IsIndexBut (network n) (lawful_in r n wake) (changed (network n) e ss) x
