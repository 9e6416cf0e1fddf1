use Rattle.peer_network.specs.Network.{network_of}
use Rattle.peer_index.proofs.Finding.{base_within}
use Rattle.peer_index.proofs.bases.base_of.Goals as goal

pub returns-clause-within : goal.returns-clause-within
returns-clause-within c = base_within (network_of c.args.graph.now) c.args.bases.now c.args.v c.requires.bases c.requires.low c.requires.high
