use Rattle.std.proofs.Common.{◌∙◌, sym, subst, arith}
use Rattle.ghs_graph.specs.Graph.{Shape, IsGraph}
use Rattle.ghs_core.specs.NetState.{network}
use Rattle.ghs_orders.proofs.Worlds.{behind_before, behind_found, behind_none, behind_place, few_done, node_within}
use Rattle.ghs_orders.proofs.turns.next_behind.Goals as goal

pub overflow_cast-low : goal.overflow_cast-low
overflow_cast-low c =
    let graph : IsGraph c.args.world.now.net.graph = subst (λ (g : Shape). IsGraph g) c.graph.ensures c.nodes.ensures.graph in
    let few = few_done c.args.world.now.net.graph graph c.args.last c.requires.place in
    let is = c.ports_done-low.ensures in
    omega (arith, few, is)

pub overflow_add-v : goal.overflow_add-v
overflow_add-v c =
    let graph : IsGraph c.args.world.now.net.graph = subst (λ (g : Shape). IsGraph g) c.graph.ensures c.nodes.ensures.graph in
    let few = node_within c.args.world.now.net.graph graph c.args.last c.requires.place in
    let is = c.node_of-v.ensures in
    omega (arith, few, is)

pub overflow_add-v-in-None : goal.overflow_add-v-in-None
overflow_add-v-in-None c =
    let graph : IsGraph c.args.world.now.net.graph = subst (λ (g : Shape). IsGraph g) c.graph.ensures c.nodes.ensures.graph in
    let few = node_within c.args.world.now.net.graph graph c.args.last c.requires.place in
    let is = c.node_of-v.ensures in
    omega (arith, few, is)

pub returns-then-is_before : goal.returns-then-is_before
returns-then-is_before c =
    let net = network c.args.world.now.net in
    let place =
    behind_place c.args.world.now c.requires.home c.args.last c.requires.place c.requires.awake c.node_of-v.result c.ports_done-low.result
    c.node_of-v.ensures c.ports_done-low.ensures c.next_event.result c.next_event.ensures c.in-Some.event c.in-Some.is in
    behind_found c.args.world.now c.requires.home c.args.last c.requires.place c.requires.awake c.node_of-v.result c.ports_done-low.result
    c.node_of-v.ensures c.ports_done-low.ensures c.next_event.result c.next_event.ensures c.in-Some.event c.in-Some.is
    (sym (c.is_before.ensures net c.requires.place place) ∙ c.if-is_before.true)

pub returns-else-is_before : goal.returns-else-is_before
returns-else-is_before c =
    let net = network c.args.world.now.net in
    let place =
    behind_place c.args.world.now c.requires.home c.args.last c.requires.place c.requires.awake c.node_of-v.result c.ports_done-low.result
    c.node_of-v.ensures c.ports_done-low.ensures c.next_event.result c.next_event.ensures c.in-Some.event c.in-Some.is in
    behind_before c.args.world.now c.requires.home c.args.last c.requires.place c.requires.awake c.node_of-v.result c.ports_done-low.result
    c.node_of-v.ensures c.ports_done-low.ensures c.next_event.result c.next_event.ensures c.in-Some.event c.in-Some.is
    (sym (c.is_before.ensures net c.requires.place place) ∙ c.if-is_before.false) c.next_from.result c.next_from.ensures

pub returns-in-None : goal.returns-in-None
returns-in-None c =
    behind_none c.args.world.now c.requires.home c.args.last c.requires.place c.requires.awake c.node_of-v.result c.ports_done-low.result
    c.node_of-v.ensures c.ports_done-low.ensures c.next_event.result c.next_event.ensures c.in-None.is
    c.next_from-in-None.result c.next_from-in-None.ensures
