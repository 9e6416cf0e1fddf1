use Rattle.std.proofs.Common.{◌≡◌, ◌≤◌, ◌+◌, ◌-◌, ◌∙◌, sym, subst, arith, List, ℕ}
use Rattle.peer_network.specs.declared.event.Event.{Event}
use Rattle.peer_network.specs.declared.event.Event.TheVariants.{Wake}
use Rattle.peer_network.specs.Network.{network_of}
use Rattle.peer_index.specs.Index.{IsIndexBut}
use Rattle.peer_index.proofs.lemmas.Marks.{of_but, marked_one}
use Rattle.ghs_world.specs.Upkeep.{lawful_first}
use Rattle.ghs_world.proofs.Changing.{wakes, none_but_wakes, first_wake, one_wake_less}
use Rattle.ghs_world.proofs.upkeep.open_index.Goals as goal

pub loop-v-init : goal.loop-v-init
loop-v-init c =
    let all : c.args.graph.now.nodes ≡ c.args.graph.now.nodes + 1 - 1 = omega arith in
    subst (λ (n : ℕ). IsIndexBut (network_of c.args.graph.now) (lawful_first c.args.graph.now c.args.wake) (wakes 1 n) c.in_ok-index.index) all
    (none_but_wakes c.args.graph.now c.args.wake c.in_ok-index.index c.in_ok-index.ensures)

pub loop-v-preserved : goal.loop-v-preserved
loop-v-preserved c =
    let many = c.nodes-v-end.ensures.nodes in
    let below = c.loop-v-test.true in
    let from : 1 ≤ c.loop-v.v = omega arith in
    let top : c.loop-v.v ≤ c.args.graph.now.nodes = omega arith in
    let less = one_wake_less c.loop-v.v (c.args.graph.now.nodes + 1 - c.loop-v.v) (c.args.graph.now.nodes + 1 - (c.loop-v.v + 1)) (omega arith) in
    marked_one (network_of c.args.graph.now) (lawful_first c.args.graph.now c.args.wake) (Wake c.loop-v.v) c.loop-v.index c.set.new.self c.has.result
    c.set.ensures (c.has.ensures ∙ sym (first_wake c.args.graph.now c.args.wake c.loop-v.v from top)) (from, top) _
    (subst (λ (es : List Event). IsIndexBut (network_of c.args.graph.now) (lawful_first c.args.graph.now c.args.wake) es c.loop-v.index)
    less c.loop-v.invariant)

pub returns : goal.returns
returns c =
    let many = c.nodes-v-end.ensures.nodes in
    let end = c.loop-v-test.false in
    let none : c.args.graph.now.nodes + 1 - c.loop-v.v ≡ 0 = omega arith in
    of_but (network_of c.args.graph.now) (lawful_first c.args.graph.now c.args.wake) c.loop-v.index
    (subst (λ (n : ℕ). IsIndexBut (network_of c.args.graph.now) (lawful_first c.args.graph.now c.args.wake) (wakes c.loop-v.v n) c.loop-v.index)
    none c.loop-v.invariant)
