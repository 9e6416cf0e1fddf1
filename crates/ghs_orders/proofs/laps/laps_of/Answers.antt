use Rattle.std.proofs.Common.{◌≡◌, suc, ◌+◌, ◌≤◌, Bool, true, false, cond, nat_lt, List, ◌∷◌, ◌++◌, [], take, sym, ◌∙◌, ap, arith}
use Rattle.std.specs.List.{slice_index_or}
use Rattle.std.proofs.lemmas.List.{take_more}
use Rattle.peer_network.specs.declared.event.Event.{Event}
use Rattle.peer_network.specs.declared.event.Event.TheVariants.{Wake}
use Rattle.peer_network.specs.Network.{network_of}
use Rattle.peer_index.specs.Places.{HasPlace, place}
use Rattle.ghs_orders.proofs.Happened.{placed_in}
use Rattle.ghs_orders.proofs.Picked.{behind_more, laps_counted}
use Rattle.ghs_orders.specs.Laps.{laps_from}
use Rattle.ghs_orders.specs.Turns.{place_behind}
use Rattle.ghs_orders.proofs.laps.laps_of.Goals as goal
use Rattle.ghs_orders.proofs.laps.laps_of.Goals.{then-begins_lap, else-begins_lap}

pub loop-event-preserved : goal.loop-event-preserved
loop-event-preserved c =
    let net = network_of c.args.graph.now in
    let i = c.loop-event.event-index in
    let es = c.args.events.now in
    let e = slice_index_or es i (Wake 0) in
    let there : HasPlace net e = placed_in c.args.graph.now es i (Wake 0) c.loop-event-test.true c.requires.run in
    let more : take (i + 1) es ≡ take i es ++ e ∷ [] = take_more es i (Wake 0) c.loop-event-test.true in
    let begins : c.begins_lap.result ≡ nat_lt (place net e) (place_behind net (take i es)) =
    c.begins_lap.ensures net c.loop-event.invariant.there there ∙ ap (nat_lt (place net e)) c.loop-event.invariant.behind in
    let next : c.if-begins_lap.laps ≡ c.loop-event.laps + cond c.begins_lap.result 1 0 = elim c.if-begins_lap.branch [
      | then-begins_lap w ↦ rw w.if-begins_lap.true w.laps-is
      | else-begins_lap w ↦ rw w.if-begins_lap.false (let l = w.laps-is in omega (arith, l))
    ] in
    let few : cond c.begins_lap.result 1 0 ≤ 1 =
    elim c.begins_lap.result as (λ (b : Bool). cond b 1 0 ≤ 1) [ true ↦ omega arith | false ↦ omega arith ] in
    record {
      laps =
          laps_counted net (take i es) e c.begins_lap.result c.loop-event.laps c.if-begins_lap.laps c.loop-event.invariant.laps begins next
          ∙ ap (λ (l : List Event). suc (laps_from net 0 l)) (sym more);
      few = let f = c.loop-event.invariant.few in omega (arith, f, next, few);
      behind = sym (ap (place_behind net) more ∙ behind_more net 0 (take i es) e);
      there = there;
    }
