use Rattle.std.proofs.Common.{◌≡◌, ◌++◌, drop}
use Rattle.peer_network.specs.Network.{network_of}
use Rattle.ghs_patient.specs.Choices.{far_takes}
use Rattle.ghs_rounds.proofs.rounds.note.Given as goal

abbrev pub invariant-loop-port : goal.invariant-loop-port
invariant-loop-port l =
    l.fresh.items ++ far_takes (network_of l.graph) l.v (drop l.port-index l.sends) ≡ l.fn.fresh.items ++ far_takes (network_of l.graph) l.v l.sends
