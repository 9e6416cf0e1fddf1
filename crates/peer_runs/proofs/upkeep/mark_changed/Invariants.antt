use Rattle.std.proofs.Common.{drop}
use Rattle.peer_index.specs.Index.{IsIndexBut}
use Rattle.peer_machine.specs.Net.{event_node}
use Rattle.peer_net.specs.NetState.{network}
use Rattle.peer_runs.specs.WorldState.{lawful_in}
use Rattle.peer_runs.proofs.lemmas.Changing.{arrivals}
use Rattle.peer_runs.proofs.upkeep.mark_changed.Given as goal

abbrev pub invariant-loop-port : goal.invariant-loop-port
invariant-loop-port g l =
    IsIndexBut (network l.net) (lawful_in g.P.Protocol.rules l.net l.fn.wake)
    (arrivals (network l.net) (event_node l.fn.placed.event) (drop l.port-index l.sends)) l.index
