-- The laws on all orders, of two runs of one graph.
use Rattle.std.proofs.Common.{◌≡◌, List, sym, subst}
use Rattle.ghs_graph.specs.Graph.{Shape, IsGraph}
use Rattle.peer_network.specs.declared.event.Event.{Event}
use Rattle.peer_network.specs.Network.{network_of}
use Rattle.ghs_protocol.specs.Run.{IsRun, net_after}
use Rattle.ghs_protocol.proofs.lemmas.Merging.{connects_agree, one_core_of_all, one_end_of_all}
use Rattle.ghs_core.specs.OneEnd.{HaveOneEnd}
use Rattle.ghs_core.proofs.Interleaved.{net_of_run}

of_one_graph : (g : Shape) (es fs : List Event) → IsGraph g → IsRun (network_of g) es → IsRun (network_of g) fs →
    HaveOneEnd g (net_after g es) (net_after g fs)
of_one_graph g es fs ok run run' =
    let a = net_of_run g es ok run in
    let b = net_of_run g fs ok run' in
    record {
      core = one_core_of_all g (net_after g es) (net_after g fs) a b;
      connects = connects_agree g (net_after g es) (net_after g fs) a b;
      nodes = one_end_of_all g (net_after g es) (net_after g fs);
    }

pub have_one_end : (g g' : Shape) (es fs : List Event) → g' ≡ g → IsGraph g → IsRun (network_of g) es → IsRun (network_of g') fs →
    HaveOneEnd g (net_after g es) (net_after g' fs)
have_one_end g g' es fs e ok run run' =
    subst (λ (h : Shape). IsRun (network_of h) fs → HaveOneEnd g (net_after g es) (net_after h fs)) (sym e) (of_one_graph g es fs ok run) run'
