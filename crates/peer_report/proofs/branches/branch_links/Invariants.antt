use Rattle.std.proofs.Common.{◌≡◌, filter, take}
use Rattle.peer_net.specs.NetState.{net_of}
use Rattle.peer_report.specs.Branches.{is_branch_link}
use Rattle.peer_report.proofs.branches.branch_links.Given as goal

abbrev pub invariant-loop-link : goal.invariant-loop-link
invariant-loop-link g l =
    l.found.items ≡ filter (is_branch_link g.P.FindsTree.is_branch l.graph.keys (net_of g.P.Protocol.rules l.net)) (take l.link-index l.graph.keys)
