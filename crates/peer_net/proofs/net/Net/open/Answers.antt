use Rattle.peer_net.proofs.Reading.{opened, opens}
use Rattle.peer_net.proofs.net.Net.open.Goals as goal

pub invariant_of-result : goal.invariant_of-result
invariant_of-result g c =
    let kept =
    opened g.P.Protocol.rules c.args.graph _ _ _ c.in-Ok.ensures.nodes c.in-Ok.ensures.queues c.in-Ok.ensures.empty c.in-Ok.ensures.total
    c.in-Ok.ensures.counts in
    (c.requires.setting, rw c.new.ensures.items kept)

pub returns-in-Ok-clause-net : goal.returns-in-Ok-clause-net
returns-in-Ok-clause-net g c = rw c.new.ensures.items (opens g.P.Protocol.rules c.args.graph)
