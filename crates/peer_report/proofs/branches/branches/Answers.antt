use Rattle.std.proofs.Common.{Vec, Global}
use Rattle.ghs_graph.specs.declared.key.Key.{Key}
use Rattle.peer_report.proofs.Branching.{branches_told, found_told}
use Rattle.peer_report.proofs.Ending.{run_is_net}
use Rattle.peer_report.proofs.branches.branches.Goals as goal

pub returns-clause-links : goal.returns-clause-links
returns-clause-links g c =
    let r = g.P.Protocol.rules in
    branches_told r g.P.FindsTree.is_branch c.args.net.now.graph _
    (run_is_net r c.args.net.now.graph c.args.net.now.trace c.trace.ensures.graph c.trace.ensures.run)
    (λ (v : Vec Key Global). v.items) c.branch_links.result (rw c.graph.ensures at c.branch_links.ensures)

pub returns-clause-found : goal.returns-clause-found
returns-clause-found g c =
    let r = g.P.Protocol.rules in
    found_told r g.P.FindsTree.is_branch c.args.net.now.graph _
    (run_is_net r c.args.net.now.graph c.args.net.now.trace c.trace.ensures.graph c.trace.ensures.run)
    g.P.Ends.has_ended g.P.FindsTree.found g.met.P.FindsTree.finds
    (λ (v : Vec Key Global). v.items) c.branch_links.result (rw c.graph.ensures at c.branch_links.ensures)
