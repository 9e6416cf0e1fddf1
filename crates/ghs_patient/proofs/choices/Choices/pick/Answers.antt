use Rattle.std.proofs.Common.{◌≡◌, ◌∙◌, [], List, Some, ap, arith, filter, length, subst, sym}
use Rattle.std.specs.List.{slice_get}
use Rattle.ghs_graph.specs.Graph.{Shape}
use Rattle.peer_network.specs.declared.event.Event.{Event}
use Rattle.peer_network.specs.Network.{network_of}
use Rattle.ghs_core.specs.NetState.{network}
use Rattle.ghs_world.specs.WorldState.{home}
use Rattle.peer_index.specs.Index.{IsIndexOf}
use Rattle.peer_index.specs.Places.{all_events}
use Rattle.ghs_patient.specs.Choices.{is_double, moves_in}
use Rattle.ghs_patient.proofs.lemmas.Picking.{first_picked, none_of, second_picked}
use Rattle.ghs_patient.proofs.choices.Choices.pick.Goals as goal

pub returns-then-moving-gt0-clause-pick : goal.returns-then-moving-gt0-clause-pick
returns-then-moving-gt0-clause-pick c =
    let s = c.args.world.now in
    let moving : IsIndexOf (network s.net) (moves_in s) c.self.inside.moving = rw (← c.self.view_is) at c.requires.choices.moving in
    let there : IsIndexOf (network_of c.graph.result.now) (moves_in s) c.self.inside.moving =
    subst (λ (g : Shape). IsIndexOf (network_of g) (moves_in s) c.self.inside.moving) (sym c.graph.ensures) moving in
    let some = c.if-moving-gt0.true in
    first_picked c.args.schedule.now c.count-moving.result c.pick-k.result c.kth_placed.result.event c.pick-k.ensures.pick _ _
    (c.count-moving.ensures.pass (network s.net) (moves_in s) moving) some
    (subst (λ (g : Shape). slice_get (filter (moves_in s) (all_events (network_of g))) c.pick-k.result ≡ Some c.kth_placed.result.event)
    c.graph.ensures (c.kth_placed.ensures.event (moves_in s) there))

pub returns-clause-pick : goal.returns-clause-pick
returns-clause-pick c =
    let s = c.args.world.now in
    let moving : IsIndexOf (network s.net) (moves_in s) c.self.inside.moving = rw (← c.self.view_is) at c.requires.choices.moving in
    let double : IsIndexOf (network s.net) (is_double (home s)) c.self.inside.double = rw (← c.self.view_is) at c.requires.choices.double in
    let there : IsIndexOf (network_of c.graph-2.result.now) (is_double (home s)) c.self.inside.double =
    subst (λ (g : Shape). IsIndexOf (network_of g) (is_double (home s)) c.self.inside.double) (sym c.graph-2.ensures) double in
    let test = c.if-moving-gt0.false in
    let zero : c.count-moving.result ≡ 0 = omega arith in
    let none : filter (moves_in s) (all_events (network s.net)) ≡ [] =
    none_of _ c.count-moving.result (c.count-moving.ensures.pass (network s.net) (moves_in s) moving) zero in
    let seconds = c.requires.seconds none in
    second_picked c.args.schedule.now c.count-double.result c.pick-k-2.result c.kth_placed-2.result.event c.pick-k-2.ensures.pick _ _ none
    (c.count-double.ensures.pass (network s.net) (is_double (home s)) double ∙ ap length seconds) c.pick-k-2.ensures.within
    (subst (λ (es : List Event). slice_get es c.pick-k-2.result ≡ Some c.kth_placed-2.result.event) seconds
    (subst (λ (g : Shape). slice_get (filter (is_double (home s)) (all_events (network_of g))) c.pick-k-2.result ≡ Some c.kth_placed-2.result.event)
    c.graph-2.ensures (c.kth_placed-2.ensures.event (is_double (home s)) there)))
