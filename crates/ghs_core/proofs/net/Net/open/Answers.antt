use Rattle.std.proofs.Common.{[], refl}
use Rattle.peer_network.specs.Network.{network_of}
use Rattle.ghs_protocol.specs.Net.{opening}
use Rattle.ghs_protocol.proofs.lemmas.Runs.{net_after_is}
use Rattle.ghs_core.proofs.Reading.{opened}
use Rattle.ghs_core.proofs.net.Net.open.Goals as goal

pub invariant_of-result : goal.invariant_of-result
invariant_of-result c =
    rw c.new.ensures.items
    (opened _ _ _ _ _ c.in-Ok.ensures.nodes c.in-Ok.ensures.queues c.in-Ok.ensures.empty c.in-Ok.ensures.total c.none.ensures.sent
    c.none.ensures.consumed c.none.ensures.requeued c.in-Ok.ensures.halts)

pub returns-in-Ok-clause-net : goal.returns-in-Ok-clause-net
returns-in-Ok-clause-net c = rw c.new.ensures.items (net_after_is c.args.graph [] (opening (network_of c.args.graph)) refl)
