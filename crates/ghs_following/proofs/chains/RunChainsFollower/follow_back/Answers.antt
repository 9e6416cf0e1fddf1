use Rattle.std.proofs.Common.{◌≡◌, ◌∙◌, ap, refl, sym, true}
use Rattle.ghs_node.specs.NodeState.{NodeState}
use Rattle.ghs_node.specs.declared.head.Head.{Head}
use Rattle.ghs_node.specs.Reaction.{requeues}
use Rattle.ghs_node.specs.Words.{is_sleeping}
use Rattle.peer_network.specs.declared.event.Event.{Event}
use Rattle.peer_network.specs.declared.event.Event.TheVariants.{Take}
use Rattle.ghs_core.specs.NetState.{net_of}
use Rattle.peer_chains.specs.Chains.{hears}
use Rattle.peer_chains.specs.Kept.{Kept, seen}
use Rattle.peer_chains.proofs.lemmas.Fitting.{same_alike}
use Rattle.ghs_following.specs.Kept.{AreChains}
use Rattle.ghs_following.proofs.lemmas.Carrying.{carried, carried_alone}
use Rattle.ghs_following.proofs.chains.RunChainsFollower.follow_back.Goals as goal

pub returns-then-waiting_at-eq1 : goal.returns-then-waiting_at-eq1
returns-then-waiting_at-eq1 c =
    let s = c.args.net.now in
    let asleep : c.is_asleep-asleep.result ≡ is_sleeping ((net_of s).node c.args.v).head.phase =
    c.is_asleep-asleep.ensures ∙ ap (λ (h : Head). is_sleeping h.phase) c.head.ensures.head
    ∙ ap (λ (n : NodeState). is_sleeping n.head.phase) c.node.ensures in
    carried_alone s c.args.v c.args.port c.args.self.now c.trace.ensures.graph c.trace.ensures.run c.requires.lawful c.requires.back
    (sym asleep ∙ c.if-not-asleep.true) (sym c.waiting_at.ensures ∙ c.if-waiting_at-eq1.true) c.requires.kept

pub returns : goal.returns
returns c =
    let s = c.args.net.now in
    let e : Event = Take c.args.v c.args.port in
    let k : Kept = c.self.inside.chains in
    let kept : AreChains s k = rw (← c.self.view_is) at c.requires.kept in
    let asleep : c.is_asleep-asleep.result ≡ is_sleeping ((net_of s).node c.args.v).head.phase =
    c.is_asleep-asleep.ensures ∙ ap (λ (h : Head). is_sleeping h.phase) c.head.ensures.head
    ∙ ap (λ (n : NodeState). is_sleeping n.head.phase) c.node.ensures in
    let heard : seen c.hear.new.self ≡ hears e (is_sleeping ((net_of s).node c.args.v).head.phase) true (seen k) =
    c.in_ok-hear.ensures.heard ∙ ap (λ b. hears e b true (seen k)) asleep in
    carried s c.trace.ensures.graph c.trace.ensures.run e c.requires.lawful (requeues ((net_of s).node c.args.v).head)
    c.requires.back k c.hear.new.self
    c.hear.new.self kept c.in_ok-hear.ensures.places heard (same_alike c.hear.new.self) refl
