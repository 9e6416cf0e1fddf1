use Rattle.peer_index.specs.Index.{IsIndexBut}
use Rattle.peer_net.specs.NetState.{network}
use Rattle.peer_runs.specs.WorldState.{lawful_in}
use Rattle.peer_runs.proofs.Opening.{wakes_from}
use Rattle.peer_runs.proofs.upkeep.open_index.Given as goal

abbrev pub invariant-loop-v : goal.invariant-loop-v
invariant-loop-v g l = IsIndexBut (network l.net) (lawful_in g.P.Protocol.rules l.net l.wake) (wakes_from l.net.graph.nodes l.v) l.index
