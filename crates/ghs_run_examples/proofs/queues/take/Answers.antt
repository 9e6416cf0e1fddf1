use Rattle.peer_channels.proofs.lemmas.Ports.{same_for}
use Rattle.ghs_run_examples.proofs.queues.take.Goals as goal

pub take_front-requires : goal.take_front-requires
take_front-requires g c = record { port = (c.requires.queues c.args.v c.args.port).1 c.expect_port.ensures }

pub returns : goal.returns
returns g c = same_for _ c.args.channels.now c.take_front.new.self c.take_front.ensures.left.ports c.requires
