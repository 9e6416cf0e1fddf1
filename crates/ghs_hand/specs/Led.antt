-- The world to which two texts lead: a graph's, and that of the events which a hand has chosen.
use Rattle.std.specs.Prelude.{ℕ, List, Err}
use Rattle.ghs_gr.specs.Judgement.{TextIs}
use Rattle.ghs_graph.specs.Graph.{Shape}
use Rattle.peer_network.specs.declared.event.Event.{Event}
use Rattle.peer_texts.specs.Reading.{HasEvents, HasFault}
use Rattle.ghs_sched.specs.Replays.{HasReplayed, IsFirstUnlawful}
use Rattle.peer_network.specs.declared.wake_set.WakeSet.{WakeSet}
use Rattle.ghs_world.specs.WorldState.{WorldState}
use Rattle.peer_hand.specs.Texts.{IsTextOf}
use Rattle.peer_hand.specs.declared.fault.HandFault.{HandFault}
use Rattle.peer_hand.specs.declared.fault.HandFault.TheVariants.{Graph, Trace, Other, Own, NotLawful, TurnLimit, Memory}

-- the one text is of the world's graph, the other of its events; nothing is out, and turns are left as far as they may go
pub record IsLed (wake : WakeSet) (graph trace : List ℕ) (w : WorldState) : Type 0 where
  pub is_graph : IsTextOf graph w.net.graph
  pub is_trace : HasEvents trace w.net.trace
  pub replayed : HasReplayed w.net.graph wake w.net.trace w

-- why a text gives no events, memory aside
abbrev pub HasNoEvents : List ℕ → HandFault → Type 0
HasNoEvents text (Trace fault) = HasFault text fault
HasNoEvents text Memory = Unit {0}
HasNoEvents text _ = ⊥

-- why two texts lead to no world: the first has a fault; or it is a graph's and the second has one; or both are sound,
-- and an event isn't lawful where it stands, the first such; out of memory may come anywhere
abbrev pub LeadsNowhere : WakeSet → List ℕ → List ℕ → HandFault → Type 0
LeadsNowhere wake graph trace (Graph fault) = TextIs graph (Err fault)
LeadsNowhere wake graph trace (Trace fault) = ((g : Shape) × IsTextOf graph g) × HasFault trace fault
LeadsNowhere wake graph trace (NotLawful k) =
    (g : Shape) × (es : List Event) × IsTextOf graph g × HasEvents trace es × IsFirstUnlawful g wake es k
LeadsNowhere wake graph trace (Other other) = ⊥
LeadsNowhere wake graph trace Own = ⊥
LeadsNowhere wake graph trace TurnLimit = ⊥
LeadsNowhere wake graph trace Memory = Unit {0}
