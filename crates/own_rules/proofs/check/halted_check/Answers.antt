use Rattle.std.proofs.Common.{◌≡◌, ◌∙◌, ◌+◌, not, true, ap, arith, sym}
use Rattle.std.proofs.lemmas.Result.{IfOk-weaker}
use Rattle.ghs_graph.specs.Graph.{Shape}
use Rattle.peer_net.specs.NetState.{net_of}
use Rattle.own_rules.specs.Check.{halted_of}
use Rattle.own_rules.specs.Rules.{halts}
use Rattle.own_rules.specs.declared.node.Node.{Node}
use Rattle.own_rules.proofs.Checking.{first_here}
use Rattle.own_rules.proofs.check.halted_check.Goals as goal

pub returns-then-not-halts : goal.returns-then-not-halts
returns-then-not-halts g c =
    let book = c.args.rules.now in
    let node = (net_of g.P.Protocol.rules c.args.net.now).node in
    let i = c.loop-i.i in
    let many = c.nodes-i-end.ensures.nodes ∙ ap (λ (h : Shape). h.nodes) c.graph.ensures in
    let runs : not (halts book (node (i + 1)).state) ≡ true =
    ap not (sym (c.halts.ensures ∙ ap (λ (n : Node). halts book n.state) c.node.ensures) ∙ c.if-not-halts.true) in
    let first = first_here (λ v. not (halts book (node v).state)) i c.args.net.now.graph.nodes c.loop-i.invariant runs
    (let lt = c.loop-i-test.true in omega (arith, lt, many)) in
    IfOk-weaker c.node_line.result _ _ (λ text is. is ∙ ap halted_of (sym first)) c.node_line.ensures
