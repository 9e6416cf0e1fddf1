-- What a world keeps.
use Rattle.std.proofs.Common.{◌≡◌, ℕ, ◌+◌, ◌<◌, ◌≤◌, Bool, true, false, not, cond, [], ◌∷◌, length, Some, None, refl, arith, length-append, ltb-true, zero-le, ◌^◌}
use Rattle.std.proofs.lemmas.Bool.{and_parts}
use Rattle.std.proofs.lemmas.List.Elements.{All-nil}
use Rattle.peer_network.specs.Events.{MayWake}
use Rattle.peer_network.specs.declared.event.Event.{Event}
use Rattle.ghs_core.specs.NetState.{NetState, network, net_of, event_node, IsLawful, IsSameNet}
use Rattle.ghs_core.proofs.lemmas.Lawful as lawful
use Rattle.ghs_world.specs.declared.fault.OutFault.TheVariants.{NoSuch, Busy, Nothing, TurnLimit}
use Rattle.ghs_world.specs.Outs.{event_out, without, is_out}
use Rattle.ghs_world.specs.WorldState.{WorldState, IsWorld, wakers, may_happen, has_turn, refusal, gone_out}
use Rattle.peer_index.specs.Places.{has_place}
use Rattle.ghs_world.proofs.Going.{all_more, all_without, all_at, length_without}
use Rattle.ghs_world.proofs.lemmas.Ready.{may_lawful}

-- what is not refused
pub record IsFree (s : WorldState) (e : Event) : Type 0 where
  pub place : has_place (network s.net) e ≡ true
  pub home : is_out s.outs (event_node e) ≡ false
  pub happens : may_happen s e ≡ true
  pub turn : has_turn s ≡ true

through : (a b m t : Bool) →
    cond (not a) (Some NoSuch) (cond b (Some Busy) (cond (not m) (Some Nothing) (cond (not t) (Some TurnLimit) None))) ≡ None →
    (a ≡ true) × (b ≡ false) × (m ≡ true) × (t ≡ true)
through true true m t h = cc
through true false true true h = (refl, refl, refl, refl)
through true false true false h = cc
through true false false t h = cc
through false b m t h = cc

pub not_refused : (s : WorldState) (e : Event) → refusal s e ≡ None → IsFree s e
not_refused s e h =
    let all = through (has_place (network s.net) e) (is_out s.outs (event_node e)) (may_happen s e) (has_turn s) h in
    record { place = all.0; home = all.1; happens = all.2; turn = all.3 }

-- what is out may happen
pub out_happens : (s : WorldState) (n : ℕ) (e : Event) → IsWorld s → event_out s.outs n ≡ Some e → may_happen s e ≡ true
out_happens s n e world out = all_at (may_happen s) n e s.outs world.lawful out

pub out_lawful : (s : WorldState) (n : ℕ) (e : Event) → IsWorld s → event_out s.outs n ≡ Some e → IsLawful s.net e
out_lawful s n e world out = may_lawful s e (out_happens s n e world out)

-- a lawful event is of a node of the graph
pub lawful_node : (s : NetState) (e : Event) → IsLawful s e → (1 ≤ event_node e) × (event_node e ≤ s.graph.nodes)
lawful_node s e h = lawful.lawful_node (network s) (net_of s) e h

-- an event goes out
pub world_out : (s : WorldState) (e : Event) → IsWorld s → refusal s e ≡ None → IsWorld (gone_out s e)
world_out s e world unrefused =
    let is_free = not_refused s e unrefused in
    let turn : length s.net.trace + length s.outs < s.turns = ltb-true _ _ (and_parts _ _ is_free.turn).0 in
    record {
      wakes = world.wakes;
      lawful = all_more (may_happen s) s.outs (s.last + 1, e) world.lawful is_free.happens;
      turns = let l = length-append s.outs ((s.last + 1, e) ∷ []) in omega arith;
      few = world.few;
    }

-- an event comes back
pub world_back : (s : WorldState) (n : ℕ) (e : Event) → IsWorld s → event_out s.outs n ≡ Some e → IsWorld (record s { outs = without n s.outs })
world_back s n e world out = record {
  wakes = world.wakes;
  lawful = all_without (may_happen s) n s.outs world.lawful;
  turns = let l = length_without n e s.outs out in let t = world.turns in omega arith;
  few = world.few;
}

-- what is not refused is lawful
pub free_lawful : (s : WorldState) (e : Event) → refusal s e ≡ None → IsLawful s.net e
free_lawful s e h = may_lawful s e (not_refused s e h).happens

-- the same net, but for the room
pub world_same : (s : WorldState) (net : NetState) → IsWorld s → IsSameNet s.net net → IsWorld (record s { net = net })
world_same s net world same = record {
  wakes = rw (same.graph, same.trace) world.wakes;
  lawful = rw (same.graph, same.trace) world.lawful;
  turns = rw same.trace world.turns;
  few = world.few;
}

-- nothing has happened yet, and nothing is out
pub world_first : (s : WorldState) → s.net.trace ≡ [] → s.outs ≡ [] → s.turns ≤ 2 ^ 40 → IsWorld s
world_first s trace outs few = record {
  wakes = rw trace (All-nil (MayWake (wakers s)));
  lawful = rw outs tt;
  turns = rw (trace, outs) zero-le;
  few = few;
}
