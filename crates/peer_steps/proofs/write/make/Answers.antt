use Rattle.std.proofs.Common.{◌≡◌, ℕ, length, ◌∙◌, ap, sym, subst₂}
use Rattle.ghs_graph.specs.Graph.{Shape}
use Rattle.ghs_graph.specs.Ports.{ports_of}
use Rattle.peer_net.specs.NetState.{net_of}
use Rattle.peer_steps.specs.Noted.{IsNoted}
use Rattle.peer_steps.proofs.Lawful.{lawful_node}
use Rattle.peer_steps.proofs.Making.{changes_are, sends_are, state_is}
use Rattle.peer_steps.proofs.Ruled.{ruled}
use Rattle.peer_steps.proofs.write.make.Goals as goal

pub node-requires-clause-low : goal.node-requires-clause-low
node-requires-clause-low g c = rw c.node_of-v.ensures (lawful_node g.P.Protocol.rules c.args.net.now c.args.event c.requires.lawful).0

pub node-requires-clause-high : goal.node-requires-clause-high
node-requires-clause-high g c = rw c.node_of-v.ensures (lawful_node g.P.Protocol.rules c.args.net.now c.args.event c.requires.lawful).1

pub react-requires : goal.react-requires
react-requires g c =
    let s = c.args.net.now in
    record {
      setting = c.requires.setting;
      rule =
          rw (c.node.ensures, c.node_of-v.ensures, c.work_of.ensures)
          (ruled g.P.Protocol.rules g.met.P.Protocol.has_rules s c.args.event c.trace.ensures.graph c.trace.ensures.run c.requires.lawful);
    }

pub sent_by-requires-clause-low : goal.sent_by-requires-clause-low
sent_by-requires-clause-low g c = rw c.node_of-v.ensures (lawful_node g.P.Protocol.rules c.args.net.now c.args.event c.requires.lawful).0

pub sent_by-requires-clause-high : goal.sent_by-requires-clause-high
sent_by-requires-clause-high g c = rw (c.node_of-v.ensures, c.graph.ensures)
    (lawful_node g.P.Protocol.rules c.args.net.now c.args.event c.requires.lawful).1

pub returns-clause-changes : goal.returns-clause-changes
returns-clause-changes g c =
    let r = g.P.Protocol.rules in
    let words = g.P.Spoken.words in
    let s = c.args.net.now in
    let e = c.args.event in
    let played = c.in_ok-play.ensures in
    let v = c.node_of-v.ensures in
    let here = c.node.ensures ∙ ap (net_of r s).node v in
    let again = c.node-2.ensures ∙ ap (net_of r s).node v in
    let now = c.node-3.ensures ∙ ap (net_of r c.play.new.self).node v in
    let state = state_is r words s c.play.new.self e _ _ _ played.graph played.trace here c.work_of.ensures c.in_ok-answer.ensures played.event in
    let before = c.in_ok-before.ensures in
    let noted =
    subst₂ (λ (x : g.row.P-Node.Denot) (p : ℕ). IsNoted words c.node-2.result.now x p c.in_ok-before.before.first
    c.in_ok-before.before.marks.items c.in_ok-before.before.variables.items)
    (ap (λ (n : g.row.P-Node.Denot). g.P.Protocol.after n c.in_ok-answer.answer.change) (again ∙ sym here) ∙ (state ∙ sym now))
    (sym before.ports) before.noted in
    let ports =
    before.ports ∙ (c.degree-ports.ensures ∙ (ap (λ (x : Shape). length (ports_of x.keys c.node_of-v.result)) c.graph-2.ensures
    ∙ ap (λ (u : ℕ). length (ports_of s.graph.keys u)) v)) in
    c.in_ok-changes.ensures c.node-2.result.now noted
    ∙ changes_are r words s c.play.new.self e _ _ _ played.graph played.trace again now ports

pub returns-clause-sends : goal.returns-clause-sends
returns-clause-sends g c =
    let r = g.P.Protocol.rules in
    let s = c.args.net.now in
    let played = c.in_ok-play.ensures in
    let here = c.node.ensures ∙ ap (net_of r s).node c.node_of-v.ensures in
    rw (c.graph.ensures, c.node_of-v.ensures, c.as_slice.ensures.value) at c.in_ok-sends.ensures
    ∙ sends_are r g.P.Spoken.words s c.play.new.self c.args.event _ _ _ played.graph played.trace here c.work_of.ensures c.in_ok-answer.ensures
