use Rattle.std.proofs.Common.{◌≡◌, map, take}
use Rattle.peer_net.specs.NetState.{net_of}
use Rattle.own_rules.proofs.Checking.{seen_on}
use Rattle.own_rules.proofs.check.seen_links.Given as goal

abbrev pub invariant-loop-link : goal.invariant-loop-link
invariant-loop-link g l = l.seen.items ≡ map (seen_on l.rules (net_of g.P.Protocol.rules l.net).node) (take l.link-index l.link-items)
