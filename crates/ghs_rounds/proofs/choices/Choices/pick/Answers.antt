use Rattle.std.proofs.Common.{◌≡◌, [], Some, arith, filter, subst, sym}
use Rattle.std.specs.List.{slice_get}
use Rattle.ghs_graph.specs.Graph.{Shape}
use Rattle.peer_network.specs.Network.{network_of}
use Rattle.ghs_core.specs.NetState.{network}
use Rattle.peer_index.specs.Index.{IsIndexOf}
use Rattle.peer_index.specs.Places.{all_events}
use Rattle.ghs_patient.proofs.lemmas.Picking.{first_picked, none_of, second_picked}
use Rattle.ghs_rounds.specs.Choices.{hides_in, moves_in}
use Rattle.ghs_rounds.proofs.choices.Choices.pick.Goals as goal

pub returns-then-moving-gt0-clause-pick : goal.returns-then-moving-gt0-clause-pick
returns-then-moving-gt0-clause-pick c =
    let s = c.args.world.now in
    let k = c.args.clock.now in
    let moving : IsIndexOf (network s.net) (moves_in s k) c.self.inside.moving = rw (← c.self.view_is) at c.requires.choices.moving in
    let there : IsIndexOf (network_of c.graph.result.now) (moves_in s k) c.self.inside.moving =
    subst (λ (g : Shape). IsIndexOf (network_of g) (moves_in s k) c.self.inside.moving) (sym c.graph.ensures) moving in
    let some = c.if-moving-gt0.true in
    first_picked c.args.schedule.now c.count-moving.result c.pick-k.result c.kth_placed.result.event c.pick-k.ensures.pick _ _
    (c.count-moving.ensures.pass (network s.net) (moves_in s k) moving) some
    (subst (λ (g : Shape). slice_get (filter (moves_in s k) (all_events (network_of g))) c.pick-k.result ≡ Some c.kth_placed.result.event)
    c.graph.ensures (c.kth_placed.ensures.event (moves_in s k) there))

pub returns-clause-pick : goal.returns-clause-pick
returns-clause-pick c =
    let s = c.args.world.now in
    let k = c.args.clock.now in
    let moving : IsIndexOf (network s.net) (moves_in s k) c.self.inside.moving = rw (← c.self.view_is) at c.requires.choices.moving in
    let hidden : IsIndexOf (network s.net) (hides_in s k) c.self.inside.hidden = rw (← c.self.view_is) at c.requires.choices.hidden in
    let there : IsIndexOf (network_of c.graph-2.result.now) (hides_in s k) c.self.inside.hidden =
    subst (λ (g : Shape). IsIndexOf (network_of g) (hides_in s k) c.self.inside.hidden) (sym c.graph-2.ensures) hidden in
    let test = c.if-moving-gt0.false in
    let zero : c.count-moving.result ≡ 0 = omega arith in
    let none : filter (moves_in s k) (all_events (network s.net)) ≡ [] =
    none_of _ c.count-moving.result (c.count-moving.ensures.pass (network s.net) (moves_in s k) moving) zero in
    second_picked c.args.schedule.now c.count-hidden.result c.pick-k-2.result c.kth_placed-2.result.event c.pick-k-2.ensures.pick _ _ none
    (c.count-hidden.ensures.pass (network s.net) (hides_in s k) hidden) c.pick-k-2.ensures.within
    (subst (λ (g : Shape). slice_get (filter (hides_in s k) (all_events (network_of g))) c.pick-k-2.result ≡ Some c.kth_placed-2.result.event)
    c.graph-2.ensures (c.kth_placed-2.ensures.event (hides_in s k) there))
