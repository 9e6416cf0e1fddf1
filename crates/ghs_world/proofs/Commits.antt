-- What a commit leaves.
use Rattle.std.proofs.Common.{◌≡◌, ◌≢◌, ◌⊎◌, inl, inr, ⊎_elim, ℕ, ◌+◌, ◌<◌, Bool, true, false, ◌&&◌, not, List, [], ◌∷◌, ◌++◌, length, Some, sym, ◌∙◌, ap, ap₂, subst, arith, length-append, ltb-true}
use Rattle.std.specs.List.{All, Contains, list_any, filter}
use Rattle.std.proofs.lemmas.Bool.{both_ways, cases_eq, and_parts, not-true}
use Rattle.std.proofs.lemmas.List.Kept.{IsStrictlyIncreasing-filter}
use Rattle.ghs_graph.proofs.lemmas.Members.{nothing_in, first_in, later_in, in_cases, in_filter, filter_has}
use Rattle.std.proofs.lemmas.List.Elements.{All-nil, All-cons, All-append}
use Rattle.ghs_graph.specs.Graph.{Shape}
use Rattle.ghs_node.specs.declared.delta.Delta.{Delta}
use Rattle.ghs_node.specs.Rows.{Row}
use Rattle.peer_network.specs.declared.event.Event.{Event}
use Rattle.peer_network.specs.Network.{network_of}
use Rattle.ghs_protocol.specs.Net.{is_lawful_under, happens}
use Rattle.peer_network.specs.Events.{MayWake}
use Rattle.ghs_protocol.proofs.lemmas.Runs.{lawful_under}
use Rattle.ghs_core.specs.NetState.{NetState, network, net_of, event_node, IsAnswer}
use Rattle.ghs_world.specs.Tickets.{TicketState, HasRule}
use Rattle.ghs_world.specs.Outs.{event_out, without, is_out}
use Rattle.ghs_world.specs.WorldState.{WorldState, IsWorld, IsOut, home, wakers, may_happen, has_turn}
use Rattle.ghs_world.specs.Steps.{LeavesOthers, HasAllRoused, AreReadyOf, HasEach, touched}
use Rattle.ghs_world.specs.Ready.{has_ready, is_ready}
use Rattle.peer_index.specs.Places.{node_events}
use Rattle.ghs_world.proofs.Going.{all_without, all_same, length_without, out_same, event_same, is_there}
use Rattle.ghs_world.proofs.Listing.{any_same}
use Rattle.ghs_world.proofs.Reacting.{answers}
use Rattle.ghs_world.proofs.Keeping.{out_happens, out_lawful}
use Rattle.ghs_world.proofs.Staying.{Beside, beside, still_lawful, same_lawful, same_work}

-- a number stands in a list, or it doesn't
decide_in : (us : List ℕ) (u : ℕ) → Contains us u ⊎ (Contains us u → ⊥)
decide_in [] u = inr (nothing_in u)
decide_in (x ∷ us) u = ⊎_elim
    (λ h. inl (later_in x u us h))
    (λ none. ⊎_elim
    (λ (e : x ≡ u). inl (subst (λ y. Contains (y ∷ us) u) (sym e) (first_in u us)))
    (λ ne. inr (λ h. ⊎_elim none ne (in_cases x u us h)))
    (cases_eq x u))
    (decide_in us u)

-- those that are kept of numbers in order
pub ready_kept : (s : WorldState) (some nodes : List ℕ) → HasEach some nodes → AreReadyOf s some (filter (has_ready s) nodes)
ready_kept s some nodes each = record {
  rising = IsStrictlyIncreasing-filter (has_ready s) nodes each.rising;
  all = λ u. (
    λ h. let both = in_filter (has_ready s) nodes u h in ((each.all u).0 both.0, both.1),
    λ both. filter_has (has_ready s) nodes u ((each.all u).1 both.0) both.1,
  );
}

-- a step that is that of its ticket is its node's answer
pub step_answers : (s : WorldState) (t : TicketState) (d : Delta) → IsOut s t → HasRule t.node t.work → Row t.node t.work d → IsAnswer s.net t.event d
step_answers s t d out has row = rw (← out.node, ← out.work) (answers t.node t.work d has row)

-- the event of ticket n, which is out, happens
pub record Done (s : WorldState) (n : ℕ) (e : Event) (d : Delta) (net : NetState) : Type 0 where
  pub world : IsWorld s
  pub out : event_out s.outs n ≡ Some e
  pub free : is_out (without n s.outs) (event_node e) ≡ false
  pub answer : IsAnswer s.net e d
  pub graph : net.graph ≡ s.net.graph
  pub trace : net.trace ≡ s.net.trace ++ e ∷ []
  pub event : happens (network s.net) (home s) e ≡ Some (net_of net)

abbrev pub after_commit : WorldState → ℕ → NetState → WorldState
after_commit s n net = record s { net = net; outs = without n s.outs }

module _ (s : WorldState) (n : ℕ) (e : Event) (d : Delta) (net : NetState) (done : Done s n e d net) where
  after : Beside (network s.net) (home s) (net_of net) e d
  after = beside (network s.net) (home s) (net_of net) e d done.event done.answer

  -- what may happen now, in the words of the old graph
  may_now : (f : Event) → may_happen (after_commit s n net) f ≡ is_lawful_under (wakers s) (network s.net) (net_of net) f
  may_now f = rw done.graph

  still : (f : Event) → event_node f ≢ event_node e → may_happen s f ≡ true → may_happen (after_commit s n net) f ≡ true
  still f ne h = may_now f ∙ still_lawful (network s.net) (wakers s) (home s) (net_of net) e d f after ne h

  same_wakers : All (MayWake (wakers s)) (s.net.trace ++ e ∷ []) → All (MayWake (wakers (after_commit s n net))) net.trace
  same_wakers h = rw (done.graph, done.trace) h

  pub world_after : IsWorld (after_commit s n net)
  world_after = record {
    wakes =
        same_wakers (All-append (MayWake (wakers s)) s.net.trace (e ∷ []) done.world.wakes
        (All-cons (MayWake (wakers s)) e []
        ((lawful_under (wakers s) (network s.net) (home s) e).0 (out_happens s n e done.world done.out)).0 (All-nil (MayWake (wakers s)))));
    lawful =
        all_same (may_happen s) (may_happen (after_commit s n net)) (event_node e) still (without n s.outs) done.free
        (all_without (may_happen s) n s.outs done.world.lawful);
    turns =
        let l = length_without n e s.outs done.out in
        let t = done.world.turns in let more = ap length done.trace ∙ length-append s.net.trace (e ∷ []) in omega arith;
    few = done.world.few;
  }

  pub others_stay : LeavesOthers s n (after_commit s n net)
  others_stay t ne out =
      let there : event_out (without n s.outs) t.number ≡ Some t.event = event_same n t.number s.outs ne ∙ out.event in
      let apart : event_node t.event ≢ event_node e =
      (λ z. both_ways _ done.free (sym (ap (is_out (without n s.outs)) z) ∙ is_there t.number t.event (without n s.outs) there)) in
      record {
        event = there;
        node = out.node ∙ sym (after.node (event_node t.event) apart);
        work =
            out.work ∙
            sym (same_work (network s.net) (home s) (net_of net) e d t.event after apart (out_lawful s t.number t.event done.world out.event));
      }

  -- at a node that the event doesn't touch, nothing changes
  untouched : (u : ℕ) → (Contains (touched (network s.net) (event_node e) d.sends) u → ⊥) → has_ready (after_commit s n net) u ≡ has_ready s u
  untouched u none =
      let away : event_node e ≢ u = (λ z. none (subst (λ x. Contains (touched (network s.net) x d.sends) u) (sym z) (first_in u _))) in
      ap₂ (λ (b : Bool) (c : Bool). not b && c)
      (out_same n e s.outs done.out u away)
      (ap (λ (g : Shape). list_any (may_happen (after_commit s n net)) (node_events (network_of g) u)) done.graph
      ∙ any_same (may_happen (after_commit s n net)) (may_happen s) u (length ((network s.net).ports u))
      (λ f here.
      may_now f ∙
      same_lawful (network s.net) (wakers s) (home s) (net_of net) e d f after
      (λ h. none (subst (λ x. Contains (touched (network s.net) (event_node e) d.sends) x) here h))))

  pub all_roused : (us : List ℕ) →
      AreReadyOf (after_commit s n net) (touched (network s.net) (event_node e) d.sends) us →
      HasAllRoused s (after_commit s n net) us
  all_roused us kept u now before = ⊎_elim
      (λ there. (kept.all u).1 (there, now))
      (λ none. absurd (both_ways _ before (sym (untouched u none) ∙ now)))
      (decide_in (touched (network s.net) (event_node e) d.sends) u)

-- the event of a node that is at home happens
pub record Passes (s : WorldState) (e : Event) (d : Delta) (net : NetState) : Type 0 where
  pub world : IsWorld s
  pub ready : is_ready s e ≡ true
  pub turn : has_turn s ≡ true
  pub answer : IsAnswer s.net e d
  pub graph : net.graph ≡ s.net.graph
  pub trace : net.trace ≡ s.net.trace ++ e ∷ []
  pub event : happens (network s.net) (home s) e ≡ Some (net_of net)

-- what is ready is at home, and may happen
pub ready_parts : (s : WorldState) (e : Event) → is_ready s e ≡ true → (is_out s.outs (event_node e) ≡ false) × (may_happen s e ≡ true)
ready_parts s e h = let b = and_parts _ _ h in (not-true _ b.0, b.1)

abbrev pub after_event : WorldState → NetState → WorldState
after_event s net = record s { net = net; last = s.last + 1 }

module _ (s : WorldState) (e : Event) (d : Delta) (net : NetState) (passes : Passes s e d net) where
  parts : (is_out s.outs (event_node e) ≡ false) × (may_happen s e ≡ true)
  parts = ready_parts s e passes.ready

  same_now : (f : Event) → may_happen (after_event s net) f ≡ is_lawful_under (wakers s) (network s.net) (net_of net) f
  same_now f = rw passes.graph

  lasts : (f : Event) → event_node f ≢ event_node e → may_happen s f ≡ true → may_happen (after_event s net) f ≡ true
  lasts f ne h =
      same_now f ∙
      still_lawful (network s.net) (wakers s) (home s) (net_of net) e d f
      (beside (network s.net) (home s) (net_of net) e d passes.event passes.answer) ne h

  may_wake_still : All (MayWake (wakers s)) (s.net.trace ++ e ∷ []) → All (MayWake (wakers (after_event s net))) net.trace
  may_wake_still h = rw (passes.graph, passes.trace) h

  pub world_made : IsWorld (after_event s net)
  world_made = record {
    wakes =
        may_wake_still (All-append (MayWake (wakers s)) s.net.trace (e ∷ []) passes.world.wakes
        (All-cons (MayWake (wakers s)) e [] ((lawful_under (wakers s) (network s.net) (home s) e).0 parts.1).0 (All-nil (MayWake (wakers s)))));
    lawful = all_same (may_happen s) (may_happen (after_event s net)) (event_node e) lasts s.outs parts.0 passes.world.lawful;
    turns =
        let t : length s.net.trace + length s.outs < s.turns = ltb-true _ _ (and_parts _ _ passes.turn).0 in
        let more = ap length passes.trace ∙ length-append s.net.trace (e ∷ []) in omega arith;
    few = passes.world.few;
  }
