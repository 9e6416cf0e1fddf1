use Rattle.std.proofs.Common.{◌≡◌, Some, arith, filter, subst, sym}
use Rattle.std.specs.List.{slice_get}
use Rattle.ghs_graph.specs.Graph.{Shape}
use Rattle.peer_network.specs.Network.{network_of}
use Rattle.ghs_core.specs.NetState.{network}
use Rattle.peer_index.specs.Index.{IsIndexOf}
use Rattle.peer_index.specs.Places.{all_events}
use Rattle.ghs_patient.proofs.lemmas.Picking.{first_picked}
use Rattle.ghs_patient.specs.Patience.{puts_back}
use Rattle.ghs_world.specs.WorldState.{home}
use Rattle.ghs_orders.proofs.Picks.{picked_of_all}
use Rattle.ghs_orders.proofs.waiting.Waiting.pick.Goals as goal

pub returns-then-waiting-gt0-clause-pick : goal.returns-then-waiting-gt0-clause-pick
returns-then-waiting-gt0-clause-pick c =
    let s = c.args.world.now in
    let marks : IsIndexOf (network s.net) (puts_back (home s)) c.self.inside.index =
    subst (IsIndexOf (network s.net) (puts_back (home s))) (sym c.self.view_is) c.requires.marks in
    let there : IsIndexOf (network_of c.graph.result.now) (puts_back (home s)) c.self.inside.index =
    subst (λ (g : Shape). IsIndexOf (network_of g) (puts_back (home s)) c.self.inside.index) (sym c.graph.ensures) marks in
    let some = c.if-waiting-gt0.true in
    first_picked c.args.schedule.now c.count-waiting.result c.pick-k.result c.kth_placed.result.event c.pick-k.ensures.pick _ _
    (c.count-waiting.ensures.pass (network s.net) (puts_back (home s)) marks) some
    (subst (λ (g : Shape). slice_get (filter (puts_back (home s)) (all_events (network_of g))) c.pick-k.result ≡ Some c.kth_placed.result.event)
    c.graph.ensures (c.kth_placed.ensures.event (puts_back (home s)) there))

pub returns-clause-pick : goal.returns-clause-pick
returns-clause-pick c =
    let test = c.if-waiting-gt0.false in
    let none : c.count-waiting.result ≡ 0 = omega arith in
    picked_of_all c.args.world.now c.args.schedule.now c.count-waiting.result c.ready_count.result c.pick-k-2.result c.ready_placed.result.event
    c.requires.home
    (c.count-waiting.ensures.pass (network c.args.world.now.net) (puts_back (home c.args.world.now))
    (subst (IsIndexOf (network c.args.world.now.net) (puts_back (home c.args.world.now))) (sym c.self.view_is) c.requires.marks)) none
    c.ready_count.ensures c.pick-k-2.ensures.pick
    c.pick-k-2.ensures.within c.ready_placed.ensures.event
