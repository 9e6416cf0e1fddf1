use Rattle.peer_examples.proofs.playing.length_of_run.Goals as goal

pub lengths_of-requires : goal.lengths_of-requires
lengths_of-requires g c = record { setting = c.setting.ensures; run = rw (c.graph.ensures, c.trace.ensures.trace) c.trace.ensures.run }
