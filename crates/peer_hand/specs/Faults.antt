-- Faults of texts and of events, as faults of a call.
use Rattle.ghs_gr.specs.declared.fault.GrFault.{GrFault}
use Rattle.ghs_gr.specs.declared.fault.GrFault.TheVariants as gr
use Rattle.peer_schedule.specs.declared.fault.ReplayFault.{ReplayFault}
use Rattle.peer_schedule.specs.declared.fault.ReplayFault.TheVariants as replays
use Rattle.peer_texts.specs.declared.fault.TraceFault.{TraceFault}
use Rattle.peer_texts.specs.declared.fault.TraceFault.TheVariants as trace
use Rattle.peer_trace.specs.declared.fault.StoredFault.{StoredFault}
use Rattle.peer_trace.specs.declared.fault.StoredFault.TheVariants as stored
use Rattle.peer_hand.specs.declared.fault.HandFault.{HandFault}
use Rattle.peer_hand.specs.declared.fault.HandFault.TheVariants.{Graph, Trace, Other, Own, NotLawful, Memory}

-- of a graph's text
abbrev pub of_graph : GrFault → HandFault
of_graph gr.Memory = Memory
of_graph fault = Graph fault

-- of a trace's, and of a stored run's
abbrev pub of_trace : TraceFault → HandFault
of_trace trace.Memory = Memory
of_trace fault = Trace fault

abbrev pub of_stored : StoredFault → HandFault
of_stored (stored.Other protocol) = Other protocol
of_stored stored.Own = Own
of_stored (stored.Trace fault) = of_trace fault

-- and of events
abbrev pub of_replay : ReplayFault → HandFault
of_replay (replays.NotLawful k) = NotLawful k
of_replay (replays.Unforeseen k) = Memory
of_replay replays.Memory = Memory
