-- The world to which two texts lead: a graph's, and that of the events which a hand has chosen.
use Rattle.std.specs.Prelude.{ℕ, List, Err}
use Rattle.ghs_gr.specs.Judgement.{TextIs}
use Rattle.ghs_graph.specs.Graph.{Shape}
use Rattle.peer_network.specs.declared.event.Event.{Event}
use Rattle.peer_network.specs.declared.wake_set.WakeSet.{WakeSet}
use Rattle.peer_machine.specs.Rules.{Rules}
use Rattle.peer_machine.specs.Run.{IsRunUnder}
use Rattle.peer_net.specs.NetState.{network}
use Rattle.peer_runs.specs.Replays.{HasReplayed, IsFirstUnlawful}
use Rattle.peer_runs.specs.WorldState.{WorldState, wakers}
use Rattle.peer_trace.specs.Reading.{HasEventsOf, HasFaultOf}
use Rattle.peer_trace.specs.declared.fault.StoredFault.TheVariants as stored
use Rattle.peer_trace.specs.declared.protocol.Protocol.{Protocol}
use Rattle.peer_hand.specs.Texts.{IsTextOf}
use Rattle.peer_hand.specs.declared.fault.HandFault.{HandFault}
use Rattle.peer_hand.specs.declared.fault.HandFault.TheVariants.{Graph, Trace, Other, Own, NotLawful, TurnLimit, Memory}

-- by the rules of a protocol, which stored runs name so
module _ {S M : Type 0} (r : Rules S M) (p : Protocol) where
  -- the one text is of the world's graph, the other of its events, which are a run
  pub record IsLed (wake : WakeSet) (graph trace : List ℕ) (w : WorldState) : Type 0 where
    pub is_graph : IsTextOf graph w.net.graph
    pub is_trace : HasEventsOf p trace w.net.trace
    pub replayed : HasReplayed w.net.graph wake w.net.trace w
    pub run : IsRunUnder r (wakers w) (network w.net) w.net.trace

  -- why two texts lead to no world: the first has a fault; or it is a graph's and the second has one, or is a run of another
  -- protocol; or both are sound, and an event isn't lawful where it stands, the first such; out of memory may come anywhere
  abbrev pub LeadsNowhere : WakeSet → List ℕ → List ℕ → HandFault → Type 0
  LeadsNowhere wake graph trace (Graph fault) = TextIs graph (Err fault)
  LeadsNowhere wake graph trace (Trace fault) = ((g : Shape) × IsTextOf graph g) × HasFaultOf p trace (stored.Trace fault)
  LeadsNowhere wake graph trace (Other other) = ((g : Shape) × IsTextOf graph g) × HasFaultOf p trace (stored.Other other)
  LeadsNowhere wake graph trace Own = ((g : Shape) × IsTextOf graph g) × HasFaultOf p trace stored.Own
  LeadsNowhere wake graph trace (NotLawful k) =
      (g : Shape) × (es : List Event) × IsTextOf graph g × HasEventsOf p trace es × IsFirstUnlawful r g wake es k
  LeadsNowhere wake graph trace TurnLimit = ⊥
  LeadsNowhere wake graph trace Memory = Unit {0}
