use Rattle.peer_network.specs.Network.{network_of}
use Rattle.peer_index.proofs.Finding.{wake_stands, take_stands}
use Rattle.peer_index.proofs.bases.event_behind.Goals as goal

pub returns-then-at-wake : goal.returns-then-at-wake
returns-then-at-wake c = wake_stands (network_of c.args.graph.now) c.args.bases.now c.args.v c.args.at c.requires.bases c.requires.owner
    (rw c.requires.base at c.if-at-wake.true)

pub returns-else-at-wake : goal.returns-else-at-wake
returns-else-at-wake c = rw c.requires.base (
    take_stands (network_of c.args.graph.now) c.args.bases.now c.args.v c.args.at c.requires.bases c.requires.owner
    (rw c.requires.base at c.if-at-wake.false)
    )
