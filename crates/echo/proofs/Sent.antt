-- How many messages wait at a port, and how many were sent at the end.
use Rattle.std.proofs.Common.{◌≡◌, ℕ, suc, ◌+◌, ◌*◌, ◌≤◌, true, length, cond, ◌∙◌, ap, arith}
use Rattle.std.specs.Prelude.{is_none}
use Rattle.ghs_graph.specs.Ports.{ports_of}
use Rattle.peer_network.specs.Network.{network_of}
use Rattle.peer_network.specs.Sums.{sum_below}
use Rattle.peer_network.proofs.lemmas.Graphs.{graph_wired, twice_links}
use Rattle.peer_network.proofs.lemmas.Sums.{sum_same}
use Rattle.echo.specs.declared.node.Node.{Node}
use Rattle.echo.specs.Ended.{TwoALink, EchoesOfOthers, OneWaits}
use Rattle.echo.specs.Proved.{spent, spent_if, all_sent}
use Rattle.echo.specs.Waves.{heard_few, echoed, echoed_if, echoes_at_end}
use Rattle.echo.specs.Ending.{wave_of}

pub two_a_link : TwoALink
two_a_link g w is ended =
    let i = wave_of g w is in
    let each : sum_below g.nodes (λ x. spent (w.node (suc x))) ≡ sum_below g.nodes (λ x. length (ports_of g.keys (suc x))) =
    sum_same g.nodes (λ x. spent (w.node (suc x))) (λ x. length (ports_of g.keys (suc x)))
    (λ x lt.
    let n = w.node (suc x) in
    let e = ended (suc x) (record { some = omega arith; node = omega (arith, lt) }) in
    ap (λ b. spent_if b n.ports n.head.parent n.head.awaits) e.0 ∙ ap (λ k. spent_if true n.ports n.head.parent k) e.1
    ∙ all_sent n.ports n.head.parent (i.whole.parents (suc x)) ∙ i.whole.ports (suc x)) in
    i.whole.sent ∙ each ∙ twice_links g is.graph

pub echoes_of_others : EchoesOfOthers
echoes_of_others g w is ended =
    (wave_of g w is).echoes
    ∙ sum_same g.nodes (λ x. echoed (w.node (suc x))) (λ x. cond (is_none (w.node (suc x)).head.parent) 0 1)
    (λ x lt.
    let n = w.node (suc x) in
    let e = ended (suc x) (record { some = omega arith; node = omega (arith, lt) }) in
    ap (λ b. echoed_if b n.ports n.head.parent n.head.awaits) e.0 ∙ ap (λ k. echoed_if true n.ports n.head.parent k) e.1
    ∙ echoes_at_end n.ports n.head.parent)

pub one_waits : OneWaits
one_waits g w is v p at = let a = heard_few (network_of g) (graph_wired g is.graph) w (wave_of g w is) v p at in omega (arith, a)
