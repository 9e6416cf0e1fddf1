use Rattle.peer_channels.proofs.lemmas.Ports.{same_for}
use Rattle.ghs_run_examples.proofs.queues.requeue.Goals as goal

pub requeue-requires : goal.requeue-requires
requeue-requires g c = record { port = (c.requires.queues c.args.v c.args.port).1 c.expect_port.ensures }

pub returns : goal.returns
returns g c = same_for _ c.args.channels.now c.requeue.new.self c.requeue.ensures.ports c.requires
