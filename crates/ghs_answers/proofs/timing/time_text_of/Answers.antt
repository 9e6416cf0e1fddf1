use Rattle.ghs_answers.proofs.timing.time_text_of.Goals as goal

pub lengths_of-requires : goal.lengths_of-requires
lengths_of-requires g c = record { setting = c.setting.ensures; run = rw (c.graph.ensures, c.trace.ensures.trace) c.trace.ensures.run }
