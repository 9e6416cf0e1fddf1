-- Runs by rounds.
use Rattle.std.proofs.Common.{◌≡◌, ℕ, suc, ◌+◌, ◌<◌, ◌≤◌, inr, true, List, [], ◌∷◌, ◌++◌, length, refl, sym, ◌∙◌, ap, subst, ⊎_elim, arith, length-append}
use Rattle.std.specs.List.{Contains}
use Rattle.ghs_graph.specs.Graph.{Shape}
use Rattle.peer_network.specs.declared.event.Event.{Event}
use Rattle.peer_network.specs.declared.wake_set.WakeSet.{WakeSet}
use Rattle.peer_network.specs.Wakes.{may_wake}
use Rattle.peer_schedule.specs.Picks.{IsPick}
use Rattle.peer_machine.specs.Rules.{Rules}
use Rattle.peer_runs.specs.Lawful.{lawful_events}
use Rattle.peer_runs.specs.WorldState.{WorldState, is_ready, ready_events, wakers}
use Rattle.peer_picking.specs.Kept.{HasSettled, RoundsState}
use Rattle.peer_picking.specs.Picks.{Begun, IsPickedByRounds, Over, Picked}
use Rattle.peer_picking.specs.Rounds.{events_in}
use Rattle.peer_picking.specs.Runs.{HasPlayedNext, HasRun, IsWhole, round_events}
use Rattle.std.proofs.lemmas.Bool.{and_parts}
use Rattle.peer_picking.proofs.Chained.{picked_among}
use Rattle.peer_picking.proofs.Following.{is_of_round}

module _ {S M : Type 0} (r : Rules S M) where
  -- nothing has happened at first
  pub run_begins : (turns : ℕ) (s : WorldState) (words : List ℕ) → s.net.trace ≡ [] → HasRun r turns s s words words 0
  run_begins turns s words first = record {
    graph = refl;
    wake = refl;
    picked = subst (λ (es : List Event). IsPickedByRounds r (wakers s) s.net.graph turns words es 0 words) (sym first) Begun;
  }

  -- what is picked stands among the events of the round, and may happen
  pub pick_in : (s : WorldState) (n : ℕ) (words : List ℕ) (e : Event) → IsPick (round_events r s n) words e → Contains (round_events r s n) e
  pick_in s n words e pick = picked_among r (wakers s) s.net.graph s.net.trace n words e pick

  pub pick_ready : (s : WorldState) (n : ℕ) (words : List ℕ) (e : Event) → IsPick (round_events r s n) words e → is_ready r s e ≡ true
  pick_ready s n words e pick = (and_parts _ _ (is_of_round r s n e (pick_in s n words e pick))).0

  module _ (turns : ℕ) (old s : WorldState) (words used : List ℕ) where
    -- in the words with which the run began
    same_round : {n : ℕ} → HasRun r turns old s words used n → (m : ℕ) →
        round_events r s m ≡ events_in r (wakers old) old.net.graph s.net.trace m
    same_round run m =
        ap (λ (w : WakeSet). events_in r (may_wake s.net.graph w) s.net.graph s.net.trace m) run.wake
        ∙ ap (λ (g : Shape). events_in r (may_wake g old.wake) g s.net.trace m) run.graph

    same_events : {n : ℕ} → HasRun r turns old s words used n → ready_events r s ≡ lawful_events r (wakers old) old.net.graph s.net.trace
    same_events run =
        ap (λ (w : WakeSet). lawful_events r (may_wake s.net.graph w) s.net.graph s.net.trace) run.wake
        ∙ ap (λ (g : Shape). lawful_events r (may_wake g old.wake) g s.net.trace) run.graph

    -- the next round begins, where this one is over
    pub run_settled : (x y : RoundsState) → HasRun r turns old s words used x.round → length s.net.trace < turns → 0 < length (ready_events r s) →
        HasSettled r s x y → HasRun r turns old s words used y.round
    run_settled x y run few some h = ⊎_elim
        (λ same. subst (λ (n : ℕ). HasRun r turns old s words used n) (sym same) run)
        (λ next.
        let up : suc x.round ≡ y.round = (let is = next.0 in omega (arith, is)) in
        subst (λ (n : ℕ). HasRun r turns old s words used n) up
        (record {
          graph = run.graph;
          wake = run.wake;
          picked =
              Over s.net.trace x.round used run.picked few (subst (λ (es : List Event). 0 < length es) (same_events run) some)
              (sym (same_round run x.round) ∙ next.1);
        }))
        h.round

    -- and no more rounds than events, or one more
    pub settled_few : (x y : RoundsState) → x.round ≤ length s.net.trace → HasSettled r s x y → y.round ≤ length s.net.trace + 1
    settled_few x y few h = ⊎_elim (λ same. omega (arith, few, same)) (λ next. let is = next.0 in omega (arith, few, is)) h.round

    -- one event more
    pub run_more : (new : WorldState) (after : List ℕ) (n : ℕ) → HasRun r turns old s words used n → length s.net.trace < turns →
        HasPlayedNext r s new n used after → HasRun r turns old new words after n
    run_more new after n run left on = record {
      graph = on.played.graph ∙ run.graph;
      wake = on.played.wake ∙ run.wake;
      picked =
          rw (on.played.trace, on.rest)
          (Picked s.net.trace n used on.event run.picked left (subst (λ (es : List Event). IsPick es used on.event) (same_round run n) on.pick));
    }

    pub more_few : (new : WorldState) (after : List ℕ) (n : ℕ) → n ≤ length s.net.trace + 1 → HasPlayedNext r s new n used after →
        n ≤ length new.net.trace
    more_few new after n few on =
        let many : length new.net.trace ≡ length (s.net.trace ++ on.event ∷ []) = ap length on.played.trace in
        let more = length-append s.net.trace (on.event ∷ []) in
        omega (arith, few, many, more)

    -- where none is ready any more, it is whole
    pub is_whole : {n : ℕ} → HasRun r turns old s words used n → ready_events r s ≡ [] → IsWhole r turns old s words used n
    is_whole run none = record { picked = run.picked; over = inr (sym (same_events run) ∙ none) }
