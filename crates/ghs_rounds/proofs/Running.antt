-- What a run by rounds keeps.
use Rattle.std.proofs.Common.{◌≡◌, ℕ, suc, ◌+◌, ◌-◌, ◌<◌, ◌≤◌, true, List, [], ◌∷◌, ◌++◌, length, refl, sym, ◌∙◌, ap, subst, ⊎_elim, arith, Result, Ok, Err, IfOk}
use Rattle.std.proofs.lemmas.Bool.{and_parts, ltb-true}
use Rattle.std.proofs.lemmas.List.{length_push}
use Rattle.ghs_graph.specs.Graph.{Shape, IsGraph}
use Rattle.ghs_protocol.specs.Marks.{HasEnded}
use Rattle.ghs_protocol.specs.Run.{net_after}
use Rattle.peer_network.specs.Network.{Network}
use Rattle.ghs_core.specs.NetState.{network}
use Rattle.peer_network.specs.declared.wake_set.WakeSet.{WakeSet}
use Rattle.ghs_world.specs.Steps.{IsSameWorld}
use Rattle.ghs_world.specs.Outs.{Outs}
use Rattle.peer_network.specs.Wakes.{may_wake}
use Rattle.ghs_world.specs.WorldState.{WorldState, has_turn, home, wakers}
use Rattle.peer_schedule.specs.Picks.{IsPick}
use Rattle.ghs_sched.specs.declared.fault.RunFault.{RunFault}
use Rattle.ghs_sched.specs.declared.run.RunEnd.{RunEnd}
use Rattle.ghs_sched.specs.declared.run.RunEnd.TheVariants.{Halted}
use Rattle.ghs_sched.specs.Runs.{IsEnd}
use Rattle.ghs_sched.proofs.lemmas.Runs.{still_going, turn_left}
use Rattle.peer_chains.specs.Chains.{Chains}
use Rattle.ghs_following.specs.Chains.{chains_of, longest_chain}
use Rattle.peer_chains.proofs.lemmas.Bounding.{most_within}
use Rattle.ghs_following.specs.Kept.{AreChains}
use Rattle.ghs_rounds.specs.Choices.{AreRounds, IsNextClock, RoundsState, events_of}
use Rattle.ghs_rounds.specs.Clock.{ClockState}
use Rattle.ghs_rounds.specs.Laws.{AreFewRounds, AwakeRoundsAreFew, PicksAreByRounds, RoundsAreFewer, SimpleRoundsAreFew}
use Rattle.ghs_rounds.specs.Rounds.{events_in, round_events}
use Rattle.ghs_rounds.specs.Runs.{Begun, HasMadeNext, HasRun, Over, Picked}

-- it begins with nothing out
pub run_begins : (s t : WorldState) (words : List ℕ) → s.net.trace ≡ [] → t ≡ record s { outs = [] } → HasRun s t words words 0
run_begins s t words none e = rw e (record {
  graph = refl;
  wake = refl;
  turns = refl;
  outs = refl;
  numbers = rw none (omega arith);
  picked = rw none Begun;
})

-- where nothing is out it begins by itself
pub run_begins_here : (s : WorldState) (words : List ℕ) → s.net.trace ≡ [] → s.outs ≡ [] → HasRun s s words words 0
run_begins_here s words none home = run_begins s s words none (ap (λ (o : Outs). record s { outs = o }) home)

-- what was out before doesn't matter
pub run_recalled : (s t new : WorldState) (words after : List ℕ) (r : ℕ) → t ≡ record s { outs = [] } → HasRun t new words after r →
    HasRun s new words after r
run_recalled s t new words after r e run =
    let z = subst (λ (x : WorldState). HasRun x new words after r) e run in
    record { graph = z.graph; wake = z.wake; turns = z.turns; outs = z.outs; numbers = z.numbers; picked = z.picked }

module _ (old s : WorldState) (words used : List ℕ) (k : ClockState) (run : HasRun old s words used k.round) (chains : AreChains s.net k.kept) where
  -- the events of the clock are those of the round
  same_events : events_of s k ≡ events_in (wakers old) old.net.graph s.net.trace k.round
  same_events =
      ap (λ (c : Chains). round_events (wakers s) (network s.net) (home s) c k.round) chains.same
      ∙ ap (λ (w : WakeSet). events_in (may_wake s.net.graph w) s.net.graph s.net.trace k.round) run.wake
      ∙ ap (λ (g : Shape). events_in (may_wake g old.wake) g s.net.trace k.round) run.graph

  module _ (going : HasEnded s.net.graph (home s) → ⊥) (turn : has_turn s ≡ true) where
    -- the next round, where it begins
    pub run_settles : (next : ClockState) → IsNextClock s k next → HasRun old s words used next.round
    run_settles next is = ⊎_elim
        (λ (e : next ≡ k). rw e run)
        (λ z. rw z.0 (record {
          graph = run.graph;
          wake = run.wake;
          turns = run.turns;
          outs = run.outs;
          numbers = run.numbers;
          picked =
              Over s.net.trace k.round used run.picked (still_going old s run.graph going) (turn_left old s run.turns turn) (sym same_events ∙ z.1);
        }))
        is

    -- one event more
    pub run_more : (new : WorldState) (after : List ℕ) (x : RoundsState) → x.clock ≡ k → HasMadeNext s new x used after →
        HasRun old new words after k.round
    run_more new after x clock next =
        let made = next.made in
        let more : length (s.net.trace ++ next.event ∷ []) ≡ length s.net.trace + 1 = length_push s.net.trace next.event in
        let numbers = run.numbers in
        let last = made.last in
        let pick : IsPick (events_of s k) used next.event = rw clock at next.pick in
        record {
          graph = made.graph ∙ run.graph;
          wake = made.wake ∙ run.wake;
          turns = made.turns ∙ run.turns;
          outs = made.outs ∙ run.outs;
          numbers = rw made.trace (omega (arith, numbers, last, more));
          picked =
              rw (made.trace, next.rest) (Picked s.net.trace k.round used next.event run.picked (still_going old s run.graph going)
              (turn_left old s run.turns turn) (subst (λ es. IsPick es used next.event) same_events pick));
        }

-- a refusal of memory leaves the run as it was
pub run_stays : (old s new : WorldState) (words used : List ℕ) (r : ℕ) → HasRun old s words used r → IsSameWorld s new → HasRun old new words used r
run_stays old s new words used r run same = record {
  graph = same.net.graph ∙ run.graph;
  wake = same.wake ∙ run.wake;
  turns = same.turns ∙ run.turns;
  outs = same.outs ∙ run.outs;
  numbers = rw (same.last, same.net.trace) run.numbers;
  picked = rw same.net.trace run.picked;
}

-- The rounds are no more than the events.
pub few_settled : (s : WorldState) (k next : ClockState) → IsNextClock s k next → next.round ≤ suc k.round
few_settled s k next is = ⊎_elim (λ (e : next ≡ k). rw e (omega arith)) (λ z. rw z.0 (omega arith)) is

pub few_more : (s new : WorldState) (k next : ClockState) (x : RoundsState) (used after : List ℕ) → IsNextClock s k next →
    k.round ≤ length s.net.trace → HasMadeNext s new x used after → next.round ≤ length new.net.trace
few_more s new k next x used after is few next_made =
    let one = few_settled s k next is in
    let more : length (s.net.trace ++ next_made.event ∷ []) ≡ length s.net.trace + 1 = length_push s.net.trace next_made.event in
    rw next_made.made.trace (omega (arith, one, more, few))

-- each event uses a turn
pub smaller : (s new : WorldState) (x : RoundsState) (used after : List ℕ) → HasMadeNext s new x used after → has_turn s ≡ true →
    new.turns - length new.net.trace < s.turns - length s.net.trace
smaller s new x used after next turn =
    let left : length s.net.trace + length s.outs < s.turns = ltb-true _ _ (and_parts _ _ turn).0 in
    let more : length (s.net.trace ++ next.event ∷ []) ≡ length s.net.trace + 1 = length_push s.net.trace next.event in
    rw (next.made.trace, next.made.turns) (omega (arith, left, more))

-- The chain.

-- of a world whose clock is right it is no longer than the round
pub chain_by : (s : WorldState) (x : RoundsState) → AreRounds s x → longest_chain (network s.net) s.net.trace ≤ x.clock.round
chain_by s x are =
    most_within (suc (network s.net).count) x.clock.round (chains_of (network s.net) s.net.trace).node
    (λ v. subst (λ (c : Chains). c.node v ≤ x.clock.round) are.chains.same (are.by_round.node v))

pub chain_stays : (s new : WorldState) (x : RoundsState) → AreRounds s x → IsSameWorld s new →
    longest_chain (network new.net) new.net.trace ≤ x.clock.round
chain_stays s new x are same = rw (same.net.graph, same.net.trace) (chain_by s x are)

-- where nothing has happened there is none
none_yet : (g : Network) → longest_chain g [] ≤ 0
unfolding chains_of
none_yet g = most_within (suc g.count) 0 (chains_of g []).node (λ v. omega arith)

pub chain_begins : (s t : WorldState) → s.net.trace ≡ [] → t ≡ record s { outs = [] } → longest_chain (network t.net) t.net.trace ≤ 0
chain_begins s t none e = rw (e, none) (none_yet (network s.net))

-- The bounds of an ended run.
module _ (by : PicksAreByRounds) (any : RoundsAreFewer) (awake : AwakeRoundsAreFew) (simple : SimpleRoundsAreFew) where
  pub few_rounds : (old new : WorldState) (words after : List ℕ) (r : ℕ) → IsGraph old.net.graph → HasRun old new words after r →
      HasEnded new.net.graph (home new) → AreFewRounds (wakers old) old.net.graph r
  few_rounds old new words after r ok run ended =
      let t = by (wakers old) old.net.graph old.turns words new.net.trace r after ok run.picked in
      let over : HasEnded old.net.graph (net_after old.net.graph new.net.trace) =
      subst (λ (g : Shape). HasEnded g (net_after g new.net.trace)) run.graph ended in
      record {
        any = λ two b bound. any (wakers old) old.net.graph new.net.trace r t.0 ok two b bound t.1 over;
        awake = λ wake k log d few. awake (wakers old) old.net.graph new.net.trace r t.0 ok wake k log d few t.1 over;
        simple = λ is wake k log. simple (wakers old) old.net.graph new.net.trace r t.0 ok is wake k log t.1 over;
      }

  pub few_if_ended : (old new : WorldState) (words after : List ℕ) (r : ℕ) (end : Result RunEnd RunFault) → IsGraph old.net.graph →
      HasRun old new words after r → IfOk end (λ e. IsEnd new e) → IfOk end (λ e. AreFewRounds (wakers old) old.net.graph r)
  few_if_ended old new words after r (Ok (Halted v)) ok run is = few_rounds old new words after r ok run is.0
  few_if_ended old new words after r (Err f) ok run is = is
