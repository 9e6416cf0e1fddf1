-- Why two texts lead nowhere, by what each of them is.
use Rattle.std.proofs.Common.{ℕ, List}
use Rattle.ghs_graph.specs.Graph.{Shape}
use Rattle.peer_network.specs.declared.event.Event.{Event}
use Rattle.peer_texts.specs.Reading.{HasEvents}
use Rattle.ghs_sched.specs.Replays.{CantReplay}
use Rattle.peer_schedule.specs.declared.fault.ReplayFault.{ReplayFault}
use Rattle.peer_schedule.specs.declared.fault.ReplayFault.TheVariants as replays
use Rattle.peer_network.specs.declared.wake_set.WakeSet.{WakeSet}
use Rattle.peer_hand.specs.Faults.{of_replay}
use Rattle.peer_hand.specs.Texts.{HasNoGraph, IsTextOf}
use Rattle.peer_hand.specs.declared.fault.HandFault.{HandFault}
use Rattle.peer_hand.specs.declared.fault.HandFault.TheVariants.{Graph, Trace, Other, Own, NotLawful, TurnLimit, Memory}
use Rattle.ghs_hand.specs.Led.{HasNoEvents, LeadsNowhere}

pub no_graph : (wake : WakeSet) (graph trace : List ℕ) (f : HandFault) → HasNoGraph graph f → LeadsNowhere wake graph trace f
no_graph wake graph trace (Graph fault) h = h
no_graph wake graph trace (Trace fault) h = absurd h
no_graph wake graph trace (Other other) h = absurd h
no_graph wake graph trace Own h = absurd h
no_graph wake graph trace (NotLawful k) h = absurd h
no_graph wake graph trace TurnLimit h = absurd h
no_graph wake graph trace Memory h = tt

pub no_events : (wake : WakeSet) (graph trace : List ℕ) (g : Shape) (f : HandFault) → IsTextOf graph g → HasNoEvents trace f →
    LeadsNowhere wake graph trace f
no_events wake graph trace g (Graph fault) is h = absurd h
no_events wake graph trace g (Trace fault) is h = ((g, is), h)
no_events wake graph trace g (Other other) is h = absurd h
no_events wake graph trace g Own is h = absurd h
no_events wake graph trace g (NotLawful k) is h = absurd h
no_events wake graph trace g TurnLimit is h = absurd h
no_events wake graph trace g Memory is h = tt

pub no_run : (wake : WakeSet) (graph trace : List ℕ) (g : Shape) (es : List Event) (f : ReplayFault) →
    IsTextOf graph g → HasEvents trace es → CantReplay g wake es f →
    LeadsNowhere wake graph trace (of_replay f)
no_run wake graph trace g es (replays.NotLawful k) is has h = (g, es, is, has, h)
no_run wake graph trace g es (replays.Unforeseen k) is has h = tt
no_run wake graph trace g es replays.Memory is has h = tt
