use Rattle.peer_network.specs.Network.{network_of}
use Rattle.peer_network.proofs.lemmas.Graphs.{graph_wired}
use Rattle.peer_machine.proofs.lemmas.Balance.{after_balanced, balanced_in_all}
use Rattle.peer_machine.proofs.laws.law_ledger.Goals as goal

pub returns : goal.returns
returns g c =
    λ r kinds s w h. balanced_in_all r kinds (network_of s) w (after_balanced r (network_of s) (graph_wired s h.graph) h.events w h.run)
