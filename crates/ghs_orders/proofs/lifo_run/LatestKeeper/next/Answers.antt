use Rattle.std.proofs.Common.{subst}
use Rattle.ghs_graph.specs.Graph.{IsGraph}
use Rattle.ghs_protocol.specs.Laws.{IsNetOf}
use Rattle.ghs_core.specs.NetState.{NetState, net_of}
use Rattle.ghs_world.specs.WorldState.{home, wakers}
use Rattle.peer_network.proofs.lemmas.Waking.{each_is_woken}
use Rattle.ghs_patient.proofs.lemmas.Picks.{is_net, seconds_go, some_patient}
use Rattle.ghs_orders.proofs.Running.{pickable}
use Rattle.ghs_orders.proofs.lifo_run.LatestKeeper.next.Goals as goal

pub pick-requires-clause-seconds : goal.pick-requires-clause-seconds
pick-requires-clause-seconds c =
    seconds_go c.args.world.now.net.graph (wakers c.args.world.now) (home c.args.world.now) c.law_one_waits.ensures
    (subst (λ (n : NetState). IsNetOf n.graph (net_of n)) c.net.ensures.net (is_net c.net.result.now c.trace.ensures.graph c.trace.ensures.run))

pub pick-requires-clause-some : goal.pick-requires-clause-some
pick-requires-clause-some c =
    let graph : IsGraph c.args.world.now.net.graph = subst (λ (n : NetState). IsGraph n.graph) c.net.ensures.net c.trace.ensures.graph in
    some_patient c.args.world.now.net.graph (wakers c.args.world.now) (home c.args.world.now) c.law_patience_lasts.ensures
    (subst (λ (n : NetState). IsNetOf n.graph (net_of n)) c.net.ensures.net (is_net c.net.result.now c.trace.ensures.graph c.trace.ensures.run))
    (each_is_woken c.args.world.now.net.graph c.args.world.now.wake graph) c.requires.going

pub returns-clause-ready : goal.returns-clause-ready
returns-clause-ready c =
    (pickable c.args.world.now c.args.schedule.now c.pick.result.event c.pick.new.schedule c.requires.home c.pick.ensures.next).ready
