use Rattle.peer_network.specs.Network.{network_of}
use Rattle.peer_machine.specs.Net.{opening}
use Rattle.peer_machine.proofs.lemmas.Runs.{run_joins}
use Rattle.peer_machine.proofs.lemmas.Counts.{run_rises}
use Rattle.std.proofs.Common.{sym, ◌∙◌}
use Rattle.peer_machine.proofs.laws.law_counts.Goals as goal

pub returns : goal.returns
returns g c = λ r s w w' h.
    run_rises r (network_of s) h.further w w'
    (sym (run_joins r (network_of s) h.events h.further (opening r (network_of s)) w h.run) ∙ h.later)
