-- Why two texts lead nowhere, by what each of them is.
use Rattle.std.proofs.Common.{ℕ, List}
use Rattle.ghs_graph.specs.Graph.{Shape}
use Rattle.peer_network.specs.declared.event.Event.{Event}
use Rattle.peer_network.specs.declared.wake_set.WakeSet.{WakeSet}
use Rattle.peer_machine.specs.Rules.{Rules}
use Rattle.peer_runs.specs.Replays.{CantReplay}
use Rattle.peer_schedule.specs.declared.fault.ReplayFault.{ReplayFault}
use Rattle.peer_schedule.specs.declared.fault.ReplayFault.TheVariants as replays
use Rattle.peer_trace.specs.Reading.{HasEventsOf}
use Rattle.peer_trace.specs.declared.protocol.Protocol.{Protocol}
use Rattle.peer_hand.specs.Faults.{of_replay}
use Rattle.peer_hand.specs.Led.{LeadsNowhere}
use Rattle.peer_hand.specs.Texts.{HasNoEvents, HasNoGraph, IsTextOf}
use Rattle.peer_hand.specs.declared.fault.HandFault.{HandFault}
use Rattle.peer_hand.specs.declared.fault.HandFault.TheVariants.{Graph, Trace, Other, Own, NotLawful, TurnLimit, Memory}

module _ {S M : Type 0} (r : Rules S M) (p : Protocol) (wake : WakeSet) (graph trace : List ℕ) where
  pub no_graph : (f : HandFault) → HasNoGraph graph f → LeadsNowhere r p wake graph trace f
  no_graph (Graph fault) h = h
  no_graph (Trace fault) h = absurd h
  no_graph (Other other) h = absurd h
  no_graph Own h = absurd h
  no_graph (NotLawful k) h = absurd h
  no_graph TurnLimit h = absurd h
  no_graph Memory h = tt

  pub no_events : (g : Shape) (f : HandFault) → IsTextOf graph g → HasNoEvents p trace f → LeadsNowhere r p wake graph trace f
  no_events g (Graph fault) is h = absurd h
  no_events g (Trace fault) is h = ((g, is), h)
  no_events g (Other other) is h = ((g, is), h)
  no_events g Own is h = ((g, is), h)
  no_events g (NotLawful k) is h = absurd h
  no_events g TurnLimit is h = absurd h
  no_events g Memory is h = tt

  pub no_run : (g : Shape) (es : List Event) (f : ReplayFault) → IsTextOf graph g → HasEventsOf p trace es → CantReplay r g wake es f →
      LeadsNowhere r p wake graph trace (of_replay f)
  no_run g es (replays.NotLawful k) is has h = (g, es, is, has, h)
  no_run g es (replays.Unforeseen k) is has h = absurd h
  no_run g es replays.Memory is has h = tt
