use Rattle.std.proofs.Common.{drop}
use Rattle.ghs_core.specs.NetState.{network, event_node}
use Rattle.peer_index.specs.Index.{IsIndexBut}
use Rattle.ghs_world.specs.Upkeep.{lawful_in}
use Rattle.ghs_world.proofs.lemmas.Leaving.{arrivals}
use Rattle.ghs_world.proofs.upkeep.mark_changed.Given as goal

abbrev pub invariant-loop-port : goal.invariant-loop-port
invariant-loop-port l =
    IsIndexBut (network l.net) (lawful_in l.net l.fn.wake) (arrivals (network l.net) (event_node l.fn.placed.event) (drop l.port-index l.sends))
    l.index
