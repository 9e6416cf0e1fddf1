use Rattle.peer_hand.proofs.seen.seen.Goals as goal

pub data_of-requires-clause-run : goal.data_of-requires-clause-run
data_of-requires-clause-run g c = rw (c.in_ok-graph.ensures, c.graph.ensures, c.trace-events.ensures.trace) c.trace-events.ensures.run
