use Rattle.ghs_run_examples.proofs.queues.look.Goals as goal

pub len_at-requires : goal.len_at-requires
len_at-requires g c = (c.requires.queues c.args.v c.args.port).1 c.expect_port.ensures

pub front-requires : goal.front-requires
front-requires g c = (c.requires.queues c.args.v c.args.port).1 c.expect_port.ensures
