use Rattle.std.proofs.Common.{◌∙◌, arith}
use Rattle.peer_network.specs.Network.{network_of}
use Rattle.peer_index.specs.Places.{all_events}
use Rattle.peer_index.proofs.Laying.{few_events, all_false}
use Rattle.peer_index.proofs.index.Index.unmarked.Goals as goal

pub lowered-requires : goal.lowered-requires
lowered-requires c =
    let many = rw (← c.self.view_is) at c.requires.many in
    let few = few_events c.args.graph.now c.nodes.ensures.graph in
    let len = c.len.ensures in
    omega arith

pub returns : goal.returns
returns c =
    let is = rw (← c.self.view_is) at c.requires in
    record {
      bases = rw c.in_ok-clone.ensures.cases is.bases;
      fars = rw c.in_ok-clone-2.ensures.cases is.fars;
      marks = c.in_ok-lowered.ensures ∙ all_false (all_events (network_of c.args.graph.now)) _ (c.len.ensures ∙ is.many);
    }
