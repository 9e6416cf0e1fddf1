use Rattle.std.proofs.Common.{◌∙◌, arith}
use Rattle.peer_network.specs.Network.{network_of}
use Rattle.peer_index.specs.Places.{all_events}
use Rattle.peer_index.proofs.Finding.{kth_is}
use Rattle.peer_index.proofs.index.Index.kth_placed.Goals as goal

pub placed_at-requires-clause-within : goal.placed_at-requires-clause-within
placed_at-requires-clause-within c =
    let many = rw (← c.self.view_is) at c.requires.index.many in
    let within = c.kth-at.ensures.within in
    omega arith

pub returns-clause-event : goal.returns-clause-event
returns-clause-event c = λ p x.
    let marks = rw (← c.self.view_is) at x.marks in
    kth_is p (all_events (network_of c.args.graph.now)) c.kth-at.result c.args.k (rw marks at c.kth-at.ensures.kth.raised)
    (rw marks at c.kth-at.ensures.kth.before) ∙ c.placed_at.ensures.event
