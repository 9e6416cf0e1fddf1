use Rattle.std.proofs.Common.{◌+◌, ◌++◌, ◌∙◌, ap, refl}
use Rattle.peer_network.specs.Events.{event_node}
use Rattle.ghs_core.specs.NetState.{net_of}
use Rattle.ghs_steps.proofs.Stepping.{put_is}
use Rattle.ghs_steps.proofs.write.put_step.Goals as goal

pub returns-clause-text : goal.returns-clause-text
returns-clause-text c =
    let s = c.args.net.now in
    let node = c.node.ensures ∙ ap (net_of s).node c.node_of.ensures in
    let node_again = c.node-2.ensures ∙ ap (net_of s).node c.node_of-2.ensures in
    let row = rw (c.work.ensures.work, node) at c.row_of-row.ensures.tested in
    let list = rw node_again at (c.deref.ensures.value ∙ c.in_ok-changes.ensures) in
    let sends = rw (c.graph.ensures, c.node_of-3.ensures, c.as_slice.ensures) at (c.deref-2.ensures.value ∙ c.in_ok-sends.ensures) in
    let far = rw c.graph-2.ensures at c.far_end-far.ensures in
    c.in_ok-put_line.ensures
    ∙ ap (λ t. c.args.text.now.items ++ t)
    (put_is c.args.form s.graph s.trace c.args.event c.args.delta.now c.play.new.net ((net_of s).node (event_node c.args.event)) _ _ _ _ _ _ _
    refl c.requires.answer c.in_ok-play.ensures.graph c.in_ok-play.ensures.trace (ap (λ n. n + 1) c.events-number.ensures) c.total.ensures
    far c.work-work.ensures.work row list sends)
