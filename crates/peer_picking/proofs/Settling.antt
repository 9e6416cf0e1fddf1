-- The events of a round, and the next round where none is left.
use Rattle.std.proofs.Common.{◌≡◌, ℕ, zero, suc, ◌+◌, ◌%◌, ◌<◌, inl, inr, Bool, true, false, nat_lt, Some, List, [], ◌∷◌, ◌++◌, length, replicate, slice_get, refl, sym, ◌∙◌, ap, subst, arith, lt-ltb, ltb-true}
use Rattle.std.specs.List.{Contains}
use Rattle.std.proofs.lemmas.Bool.{and_parts}
use Rattle.std.proofs.lemmas.List.{length-replicate}
use Rattle.ghs_graph.proofs.lemmas.Members.{filter_has, first_in, in_filter, nothing_in}
use Rattle.peer_network.specs.declared.event.Event.{Event}
use Rattle.peer_network.specs.declared.event.Event.TheVariants.{Wake, Take}
use Rattle.peer_network.specs.Network.{At, is_port}
use Rattle.peer_index.specs.Index.{IsIndexOf}
use Rattle.peer_index.specs.Places.{HasPlace, all_events}
use Rattle.peer_index.proofs.lemmas.Marks.{but_of, of_but}
use Rattle.peer_schedule.specs.Picks.{IsPick}
use Rattle.peer_schedule.specs.Schedule.{word_of}
use Rattle.peer_machine.specs.Rules.{NeverDefers, Rules}
use Rattle.peer_machine.specs.Run.{IsRun}
use Rattle.peer_net.specs.NetState.{net_of, network}
use Rattle.peer_lengths.specs.Chain.{numbers_of}
use Rattle.peer_runs.specs.WorldState.{WorldState, is_ready, ready_events, wakers}
use Rattle.peer_runs.proofs.lemmas.Lawful.{lawful_parts, lawful_place}
use Rattle.peer_picking.specs.Kept.{AreCounted, AreRounds, HasSettled, RoundsState, count_of, taken_in}
use Rattle.peer_picking.specs.Rounds.{is_in}
use Rattle.peer_picking.specs.Runs.{round_events}
use Rattle.peer_picking.proofs.Chained.{lined}
use Rattle.peer_picking.proofs.Counted.{counted_over}
use Rattle.peer_picking.proofs.Due.{no_wake, none_left, take_in, wake_in}
use Rattle.peer_picking.proofs.Lined.{AreLined}

-- the word's place in a list
pub picked_at : (es : List Event) (words : List ℕ) (n place : ℕ) (e : Event) → n ≡ length es → place ≡ word_of words % n → place < n →
    slice_get es place ≡ Some e → IsPick es words e
picked_at es words n place e many is lt at = (
  omega (arith, many, lt),
  subst (λ k. slice_get es k ≡ Some e) (is ∙ ap (λ m. word_of words % m) many) at,
)

-- the two rounds change places
abbrev pub swapped : RoundsState → RoundsState
swapped x = record { round = x.round + 1; here = x.next; next = x.here }

none_of : (k : ℕ) → nat_lt 0 k ≡ false → k ≡ 0
none_of zero f = refl
none_of (suc k) f = let wrong : true ≡ false = sym (lt-ltb 0 (suc k) (omega arith)) ∙ f in cc wrong

module _ {S M : Type 0} (r : Rules S M) (never : NeverDefers r) (s : WorldState) (run : IsRun r (network s.net) s.net.trace) where
  abbrev IsIn : ℕ → Event → Bool
  IsIn n e = is_in r (wakers s) s.net.graph s.net.trace n e

  line : (n : ℕ) → AreLined (numbers_of r (network s.net) s.net.trace) (net_of r s.net)
  line n = lined r (wakers s) s.net.graph never s.net.trace n run

  module _ (x : RoundsState) (h : AreRounds r s x) where
    -- the counted events are those of the round
    same_events : (e : Event) → HasPlace (network s.net) e → IsIn x.round e ≡ nat_lt 0 (count_of (network s.net) x.here e)
    same_events (Wake v) has =
        wake_in r (wakers s) s.net.graph s.net.trace x.round (taken_in (network s.net) x.here) (taken_in (network s.net) x.next)
        (line x.round) h.ports v
        ∙ sym (h.wakes.here v has)
    same_events (Take v p) has =
        take_in r (wakers s) s.net.graph s.net.trace x.round (taken_in (network s.net) x.here) (taken_in (network s.net) x.next)
        (line x.round) h.ports
        v p has

    pub round_index : IsIndexOf (network s.net) (IsIn x.round) x.here.index
    round_index =
        of_but (network s.net) (IsIn x.round) x.here.index
        (but_of (network s.net) (λ e. nat_lt 0 (count_of (network s.net) x.here e)) (IsIn x.round) [] x.here.index h.here.index
        (λ e has none. same_events e has))

    -- it has an event
    pub settled_here : 0 < length (round_events r s x.round) → HasSettled r s x x
    settled_here some = record { rounds = h; some = some; round = inl refl }

    module _ (none : round_events r s x.round ≡ []) where
      left : (v p : ℕ) → At (network s.net) v p → count_of (network s.net) x.here (Take v p) ≡ 0
      left =
          none_left r (wakers s) s.net.graph s.net.trace x.round (taken_in (network s.net) x.here) (taken_in (network s.net) x.next) (line x.round)
          h.ports none

      asleep : (v : ℕ) → HasPlace (network s.net) (Wake v) → is_ready r s (Wake v) ≡ false
      asleep =
          no_wake r (wakers s) s.net.graph s.net.trace x.round (taken_in (network s.net) x.here) (taken_in (network s.net) x.next)
          (line x.round) h.ports
          none

      up : suc x.round ≡ x.round + 1
      up = omega arith

      next_rounds : AreRounds r s (swapped x)
      next_rounds = record {
        here = h.next;
        next = h.here;
        ports =
            subst (λ (n : ℕ). AreCounted (network s.net) (numbers_of r (network s.net) s.net.trace) n (taken_in (network s.net) x.next)
            (taken_in (network s.net) x.here)) up
            (counted_over (network s.net) x.round (numbers_of r (network s.net) s.net.trace) (taken_in (network s.net) x.here)
            (taken_in (network s.net) x.next) left h.ports);
        wakes = record {
          here = λ v has. ap (nat_lt 0) (h.wakes.next v has) ∙ sym (asleep v has);
          next = λ v has. none_of (count_of (network s.net) x.here (Wake v)) (h.wakes.here v has ∙ asleep v has);
          first = inr asleep;
        };
      }

      -- what may happen is of the next round
      in_next : (e : Event) → is_ready r s e ≡ true → IsIn (x.round + 1) e ≡ true
      in_next (Wake v) ready =
          let has : HasPlace (network s.net) (Wake v) =
          lawful_place r (wakers s) (network s.net) (net_of r s.net) (Wake v)
          (lawful_parts r (wakers s) (network s.net) (net_of r s.net) (Wake v) ready).1 in
          let wrong : true ≡ false = sym ready ∙ asleep v has in
          cc wrong
      in_next (Take v p) ready =
          let at : At (network s.net) v p = lawful_place r (wakers s) (network s.net) (net_of r s.net) (Take v p) ready in
          let a = taken_in (network s.net) x.here v p in
          let b = taken_in (network s.net) x.next v p in
          let waits = ltb-true 0 _ (and_parts (is_port (network s.net) v p) _ ready).1 in
          let queue : length ((numbers_of r (network s.net) s.net.trace).queue v p) ≡ length (replicate b (suc x.round)) =
          ap length (h.ports.queue v p at ∙ ap (λ (k : ℕ). replicate k x.round ++ replicate b (suc x.round)) (left v p at)) in
          let many = length-replicate b (suc x.round) in
          let same = line x.round v p in
          take_in r (wakers s) s.net.graph s.net.trace (x.round + 1) (taken_in (network s.net) x.next) (taken_in (network s.net) x.here)
          (line (x.round + 1)) next_rounds.ports v p at
          ∙ lt-ltb 0 b (omega (arith, waits, queue, many, same))

      has_some : (e : Event) (es : List Event) → round_events r s (x.round + 1) ≡ es → Contains es e → 0 < length es
      has_some e [] is h = absurd (nothing_in e h)
      has_some e (f ∷ es) is h = omega arith

      some_next : (es : List Event) → ready_events r s ≡ es → 0 < length es → 0 < length (round_events r s (x.round + 1))
      some_next [] is some = absurd (omega (arith, some))
      some_next (e ∷ es) is some =
          let has : Contains (ready_events r s) e = subst (λ (l : List Event). Contains l e) (sym is) (first_in e es) in
          let in_all = in_filter (is_ready r s) (all_events (network s.net)) e has in
          has_some e (round_events r s (x.round + 1)) refl
          (filter_has (IsIn (x.round + 1)) (all_events (network s.net)) e in_all.0 (in_next e in_all.1))

      pub settled_next : 0 < length (ready_events r s) → HasSettled r s x (swapped x)
      settled_next some = record {
        rounds = next_rounds;
        some = some_next (ready_events r s) refl some;
        round = inr (refl, none);
      }
