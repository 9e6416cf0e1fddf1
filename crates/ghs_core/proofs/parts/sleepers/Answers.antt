use Rattle.std.proofs.Common.{◌+◌}
use Rattle.peer_channels.proofs.lemmas.Ports.{ports_few}
use Rattle.ghs_core.proofs.parts.sleepers.Goals as goal

pub asleep-requires : goal.asleep-requires
asleep-requires c = rw c.ports.ensures (ports_few c.args.graph.now c.nodes-count.ensures.graph (c.loop-i.i + 1))
