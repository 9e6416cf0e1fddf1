use Rattle.std.proofs.Common.{◌≡◌, ◌∙◌, ap}
use Rattle.ghs_node.specs.NodeState.{NodeState}
use Rattle.ghs_node.specs.declared.head.Head.{Head}
use Rattle.ghs_node.specs.Words.{is_sleeping}
use Rattle.ghs_core.specs.NetState.{event_node, net_of}
use Rattle.ghs_core.proofs.lemmas.Reacting.{answer_sends}
use Rattle.peer_chains.specs.Chains.{hears}
use Rattle.peer_chains.specs.Kept.{Kept, seen}
use Rattle.peer_chains.proofs.lemmas.Fitting.{fits_kept}
use Rattle.ghs_following.specs.Chains.{is_deferred}
use Rattle.ghs_following.specs.Kept.{AreChains}
use Rattle.ghs_following.proofs.lemmas.Carrying.{carried, out_to}
use Rattle.ghs_following.proofs.lemmas.Following.{small_number}
use Rattle.ghs_following.proofs.chains.RunChainsFollower.follow.Goals as goal

pub send-requires-clause-small : goal.send-requires-clause-small
send-requires-clause-small c =
    let k : Kept = c.self.inside.chains in
    let kept : AreChains c.args.net.now k = rw (← c.self.view_is) at c.requires.kept in
    λ some. small_number c.args.net.now k c.hear.new.self c.args.event _ _ c.node_of-v.result kept c.in_ok-hear.ensures.heard
    c.requires.few

pub send-requires-clause-ports : goal.send-requires-clause-ports
send-requires-clause-ports c =
    rw (c.as_slice.ensures, c.graph.ensures, c.node_of-v.ensures)
    (answer_sends c.args.net.now c.trace.ensures.graph c.trace.ensures.run c.args.event c.args.delta.now c.requires.lawful c.requires.answer)

pub send-requires-clause-far : goal.send-requires-clause-far
send-requires-clause-far c =
    let k : Kept = c.self.inside.chains in
    let kept : AreChains c.args.net.now k = rw (← c.self.view_is) at c.requires.kept in
    rw (c.as_slice.ensures, c.graph.ensures, c.node_of-v.ensures)
    (out_to c.args.net.now c.trace.ensures.graph c.trace.ensures.run c.args.event c.requires.lawful c.args.delta.now c.requires.answer c.hear.new.self
    (fits_kept c.args.net.now.graph k c.hear.new.self c.in_ok-hear.ensures.places kept.fits))

pub returns : goal.returns
returns c =
    let s = c.args.net.now in
    let e = c.args.event in
    let k : Kept = c.self.inside.chains in
    let kept : AreChains s k = rw (← c.self.view_is) at c.requires.kept in
    let same : c.node.result.now ≡ (net_of s).node (event_node e) = c.node.ensures ∙ ap (λ v. (net_of s).node v) c.node_of-v.ensures in
    let asleep =
    c.is_asleep-asleep.ensures ∙ ap (λ (h : Head). is_sleeping h.phase) c.head.ensures.head
    ∙ ap (λ (n : NodeState). is_sleeping n.head.phase) same in
    let heard : seen c.hear.new.self ≡
    hears e (is_sleeping ((net_of s).node (event_node e)).head.phase) (is_deferred c.args.delta.now.fate) (seen k) =
    rw c.is_deferred.ensures at (c.in_ok-hear.ensures.heard ∙ ap (λ b. hears e b c.is_deferred.result (seen k)) asleep) in
    let sent = rw (c.as_slice.ensures, c.graph.ensures, c.node_of-v.ensures) at c.in_ok-send.ensures.sent in
    carried s c.trace.ensures.graph c.trace.ensures.run e c.requires.lawful c.args.delta.now c.requires.answer k c.hear.new.self
    c.send.new.self kept c.in_ok-hear.ensures.places heard c.in_ok-send.ensures.places sent
