use Rattle.peer_network.specs.Network.{network_of}
use Rattle.peer_network.proofs.lemmas.Graphs.{graph_wired}
use Rattle.peer_machine.proofs.lemmas.Balance.{after_balanced}
use Rattle.peer_machine.proofs.laws.law_kinds.Goals as goal

pub returns : goal.returns
returns g c = λ r s w h. after_balanced r (network_of s) (graph_wired s h.graph) h.events w h.run
