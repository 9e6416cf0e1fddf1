use Rattle.std.proofs.Common.{◌∙◌, arith}
use Rattle.peer_network.specs.Network.{network_of}
use Rattle.peer_index.specs.Places.{all_events}
use Rattle.peer_index.proofs.Laying.{last_base, all_false}
use Rattle.peer_index.proofs.index.Index.none.Goals as goal

pub returns : goal.returns
returns c =
    let many =
    c.index.ensures ∙ last_base (network_of c.args.graph.now) c.args.graph.now.nodes c.in_ok-bases.bases.items _ _ c.in_ok-bases.ensures.bases
    (omega arith) in
    record {
      bases = rw c.in_ok-from_vec.ensures c.in_ok-bases.ensures.bases;
      fars = rw c.in_ok-from_vec-2.ensures c.in_ok-ends.ensures.fars;
      marks = c.in_ok-marks.ensures ∙ all_false (all_events (network_of c.args.graph.now)) _ many;
    }
