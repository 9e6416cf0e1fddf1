-- What a run of a world from its opening on comes to.
use Rattle.std.proofs.Common.{◌≡◌, ℕ, Bool, ◌+◌, ◌*◌, ◌-◌, ◌≤◌, ◌<◌, ◌^◌, ◌⊎◌, ⊎_elim, inl, inr, List, [], ◌∷◌, ◌++◌, ap, arith, length, subst}
use Rattle.std.specs.Prelude.{IfErr, IfOk, OnErr, OnOk, Result, Ok, Err}
use Rattle.std.proofs.lemmas.List.{length_push}
use Rattle.ghs_graph.specs.Bound.{IsBound}
use Rattle.ghs_graph.specs.Graph.{IsGraph, Shape}
use Rattle.peer_network.specs.declared.event.Event.{Event}
use Rattle.peer_network.specs.Network.{network_of}
use Rattle.ghs_protocol.specs.Marks.{HasEnded}
use Rattle.ghs_protocol.specs.Run.{net_after}
use Rattle.ghs_sched.specs.Picks.{IsPickedAmong, IsSeededRun, Offers}
use Rattle.ghs_sched.specs.Runs.{EndsFor, HasRunAmong, HasRunBy, IsEnd, IsWhole}
use Rattle.peer_schedule.specs.Schedule.{seeded}
use Rattle.ghs_sched.specs.declared.fault.RunFault.{RunFault}
use Rattle.ghs_sched.specs.declared.fault.RunFault.TheVariants.{TurnLimit, Stalled, Unforeseen, Memory}
use Rattle.ghs_sched.specs.declared.run.RunEnd.{RunEnd}
use Rattle.ghs_sched.specs.declared.run.RunEnd.TheVariants.{Halted}
use Rattle.ghs_world.specs.WorldState.{WorldState, home, wakers}
use Rattle.peer_network.proofs.lemmas.Waking.{each_is_woken}
use Rattle.ghs_sched.proofs.lemmas.Runs.{picked_within}
use Rattle.ghs_patient.specs.Runs as patient
use Rattle.ghs_patient.specs.Runs.{HasTurns, IsPatientlyPicked, IsShort}
use Rattle.ghs_rounds.specs.Laws.{AwakeRoundsAreFew, PicksAreByRounds, RoundsAreChains, RoundsAreFew, RoundsAreFewer, RunsByRoundsAreShort, RunsByRoundsEnd}
use Rattle.ghs_rounds.specs.Runs as by_rounds
use Rattle.ghs_rounds.specs.Runs.{IsPickedByRounds}
use Rattle.ghs_orders.specs.WaitsRuns as waits
use Rattle.ghs_orders.specs.WaitsRuns.{IsPickedWaiting}
use Rattle.ghs_orders.specs.LifoRuns as lifo
use Rattle.ghs_orders.specs.LifoRuns.{IsPickedLast}
use Rattle.ghs_orders.specs.Picks as in_turn
use Rattle.ghs_orders.specs.Laps.{laps_in}
use Rattle.ghs_orders.specs.Picks.{IsPickedInTurn, most_events}
use Rattle.ghs_orders.specs.RoundRobinRuns as round_robin
use Rattle.ghs_picking.proofs.Rounds.{rounds_within}
use Rattle.ghs_picking.specs.Picking.{HasTurnsFor, HasTurnsInTurn, IsByRounds, IsInRounds, IsInTurn, IsLast, IsPatient, IsSeeded, IsWaiting, StopsFor}

-- what a schedule picks stays within the turns
few_by_rounds : (may : ℕ → Bool) (g : Shape) (turns : ℕ) (words : List ℕ) (es : List Event) (r : ℕ) (s : List ℕ) →
    IsPickedByRounds may g turns words es r s →
    length es ≤ turns
few_by_rounds may g turns words _ _ _ by_rounds.Begun = omega arith
few_by_rounds may g turns words _ _ _ (by_rounds.Picked es r s e before goes less pick) =
    let more : length (es ++ e ∷ []) ≡ length es + 1 = length_push es e in omega (arith, more, less)
few_by_rounds may g turns words _ _ _ (by_rounds.Over es r s before goes less none) = omega (arith, less)

few_last : (may : ℕ → Bool) (g : Shape) (turns : ℕ) (trace : List Event) (words : List ℕ) (es : List Event) (s : List ℕ) →
    IsPickedLast may g turns trace words es s →
    length trace ≤ turns →
    length es ≤ turns
few_last may g turns trace words _ _ lifo.Begun few = few
few_last may g turns trace words _ _ (lifo.Latest es s e before goes less latest) few =
    let more : length (es ++ e ∷ []) ≡ length es + 1 = length_push es e in omega (arith, more, less)
few_last may g turns trace words _ _ (lifo.Picked es s e before goes less none pick) few =
    let more : length (es ++ e ∷ []) ≡ length es + 1 = length_push es e in omega (arith, more, less)

few_in_turn : (may : ℕ → Bool) (g : Shape) (turns : ℕ) (es : List Event) → IsPickedInTurn may g turns es → length es ≤ turns
few_in_turn may g turns _ in_turn.Begun = omega arith
few_in_turn may g turns _ (in_turn.Picked es e before goes less next) =
    let more : length (es ++ e ∷ []) ≡ length es + 1 = length_push es e in omega (arith, more, less)

-- a world from its opening on: as many numbers are used as there are events, and a number is left
pub record HasGoneOn (old new : WorldState) : Type 0 where
  pub none : old.net.trace ≡ []
  pub graph : new.net.graph ≡ old.net.graph
  pub turns : new.turns ≡ old.turns
  pub numbers : new.last < 2 ^ 64 - 1

pub gone_on : (leads : List Event → List ℕ → Type 0) (old new : WorldState) (after : List ℕ) (limit : ℕ) →
    old.net.trace ≡ [] →
    old.last ≡ 0 →
    limit ≡ old.turns →
    limit ≤ 2 ^ 40 →
    HasRunBy leads old new after →
    length new.net.trace ≤ old.turns →
    HasGoneOn old new
gone_on leads old new after limit none first is few ran most =
    let nothing : length old.net.trace ≡ 0 = ap length none in
    let numbers = ran.numbers in
    record { none = none; graph = ran.graph; turns = ran.turns; numbers = omega (arith, numbers, nothing, first, most, is, few) }

-- whatever events are offered
pub gone_among : (offers : Offers) (old new : WorldState) (words after : List ℕ) (limit : ℕ) →
    old.net.trace ≡ [] →
    old.last ≡ 0 →
    limit ≡ old.turns →
    limit ≤ 2 ^ 40 →
    HasRunAmong offers old new words after →
    HasGoneOn old new
gone_among offers old new words after limit none first is few ran =
    let nothing : length old.net.trace ≡ 0 = ap length none in
    gone_on (IsPickedAmong offers (wakers old) old.net.graph old.turns old.net.trace words) old new after limit none first is few ran
    (picked_within offers (wakers old) old.net.graph old.turns old.net.trace words new.net.trace after ran.picked (omega (arith, nothing)))

pub gone_by_rounds : (old new : WorldState) (words after : List ℕ) (limit rounds : ℕ) →
    old.net.trace ≡ [] →
    old.last ≡ 0 →
    limit ≡ old.turns →
    limit ≤ 2 ^ 40 →
    by_rounds.HasRun old new words after rounds →
    HasGoneOn old new
gone_by_rounds old new words after limit rounds none first is few ran =
    let numbers = ran.numbers in
    let most : length new.net.trace ≤ old.turns = few_by_rounds _ _ _ _ _ _ _ ran.picked in
    record { none = none; graph = ran.graph; turns = ran.turns; numbers = omega (arith, numbers, first, most, is, few) }

pub gone_last : (old new : WorldState) (words after : List ℕ) (limit : ℕ) →
    old.net.trace ≡ [] →
    old.last ≡ 0 →
    limit ≡ old.turns →
    limit ≤ 2 ^ 40 →
    lifo.HasRun old new words after →
    HasGoneOn old new
gone_last old new words after limit none first is few ran =
    let nothing : length old.net.trace ≡ 0 = ap length none in
    gone_on (lifo.IsPickedFrom old words) old new after limit none first is few ran
    (few_last _ _ _ _ _ _ _ ran.picked (omega (arith, nothing)))

pub gone_in_turn : (old new : WorldState) (limit : ℕ) →
    old.net.trace ≡ [] →
    old.last ≡ 0 →
    limit ≡ old.turns →
    limit ≤ 2 ^ 40 →
    round_robin.HasRun old new →
    HasGoneOn old new
gone_in_turn old new limit none first is few ran =
    let nothing : length old.net.trace ≡ 0 = ap length none in
    let numbers = ran.numbers in
    let most : length new.net.trace ≤ old.turns = few_in_turn (wakers old) old.net.graph old.turns new.net.trace ran.picked in
    record { none = none; graph = ran.graph; turns = ran.turns; numbers = omega (arith, numbers, nothing, first, most, is, few) }

-- with a number left, it is the turns that are used
pub stops_for : (old new : WorldState) (r : Result RunEnd RunFault) → HasGoneOn old new → IfErr r (λ f. EndsFor new f) → IfErr r (λ f. StopsFor new f)
stops_for old new (Ok e) gone ends = tt
stops_for old new (Err TurnLimit) gone ends =
    let small = gone.numbers in ⊎_elim (λ (used : length new.net.trace ≡ new.turns). used) (λ large. absurd (omega (arith, large, small))) ends
stops_for old new (Err Stalled) gone ends = ends
stops_for old new (Err Unforeseen) gone ends = ends
stops_for old new (Err Memory) gone ends = tt

-- the whole seeded run from the opening on is the seed's
pub is_seeded : (seed : ℕ) (old new : WorldState) (words after : List ℕ) →
    words ≡ seeded seed →
    HasGoneOn old new →
    IsWhole old new words after →
    IsSeeded seed old.wake old.turns old.net.graph new.net.trace
is_seeded seed old new words after begun gone whole = record {
  words = after;
  run = subst (λ (es : List Event). IsSeededRun (wakers old) old.net.graph old.turns es (seeded seed) new.net.trace after) gone.none
      (subst (λ (s : List ℕ). IsSeededRun (wakers old) old.net.graph old.turns old.net.trace s new.net.trace after) begun whole);
}

pub on_ok_seeded : (seed : ℕ) (old new : WorldState) (words after : List ℕ) (r : Result RunEnd RunFault) →
    words ≡ seeded seed →
    HasGoneOn old new →
    OnOk r (IsWhole old new words after) →
    OnOk r (IsSeeded seed old.wake old.turns old.net.graph new.net.trace)
on_ok_seeded seed old new words after (Ok e) begun gone whole = is_seeded seed old new words after begun gone whole
on_ok_seeded seed old new words after (Err f) begun gone whole = tt

-- a patient run that is over is the seed's
is_patient : (seed : ℕ) (old new : WorldState) (words after : List ℕ) →
    words ≡ seeded seed →
    HasGoneOn old new →
    patient.HasRun old new words after →
    IsShort old new →
    HasEnded old.net.graph (net_after old.net.graph new.net.trace) ⊎ (old.turns ≤ length new.net.trace) →
    (HasTurnsFor old.net.graph old.turns → HasEnded old.net.graph (net_after old.net.graph new.net.trace)) →
    IsPatient seed old.wake old.turns old.net.graph new.net.trace
is_patient seed old new words after begun gone ran short over ends = record {
  words = after;
  picked = subst (λ (es : List Event). IsPatientlyPicked (wakers old) old.net.graph old.turns es (seeded seed) new.net.trace after) gone.none
      (subst (λ (s : List ℕ). IsPatientlyPicked (wakers old) old.net.graph old.turns old.net.trace s new.net.trace after) begun ran.picked);
  over = over;
  short = λ b is.
      let nothing : length old.net.trace ≡ 0 = ap length gone.none in
      let most : length new.net.trace ≤ length old.net.trace + 2 * (b + old.net.graph.nodes) = short b is in
      omega (arith, most, nothing);
  ends = ends;
}

pub has_ended : (g : Shape) (new : WorldState) (e : RunEnd) → new.net.graph ≡ g → IsEnd new e → HasEnded g (net_after g new.net.trace)
has_ended g new (Halted v) same end = subst (λ (s : Shape). HasEnded s (net_after s new.net.trace)) same end.0

-- a run of at most so many events that is over at its end
on_ok_short : (Is : Type 0) (old new : WorldState) (r : Result RunEnd RunFault) →
    HasGoneOn old new →
    IfOk r (λ e. IsEnd new e) →
    (HasEnded old.net.graph (net_after old.net.graph new.net.trace) ⊎ (old.turns ≤ length new.net.trace) →
    (HasTurnsFor old.net.graph old.turns → HasEnded old.net.graph (net_after old.net.graph new.net.trace)) → Is) →
    OnOk r Is
on_ok_short Is old new (Ok e) gone end is = let ended = has_ended old.net.graph new e gone.graph end in is (inl ended) (λ _. ended)
on_ok_short Is old new (Err f) gone end is = tt

pub on_ok_patient : (seed : ℕ) (old new : WorldState) (words after : List ℕ) (r : Result RunEnd RunFault) →
    words ≡ seeded seed →
    HasGoneOn old new →
    patient.HasRun old new words after →
    IsShort old new →
    IfOk r (λ e. IsEnd new e) →
    OnOk r (IsPatient seed old.wake old.turns old.net.graph new.net.trace)
on_ok_patient seed old new words after r begun gone ran short end =
    on_ok_short _ old new r gone end (is_patient seed old new words after begun gone ran short)

-- turns for all its events are enough for the world
has_turns : (old new : WorldState) (limit : ℕ) → HasGoneOn old new → old.last ≡ 0 → limit ≡ old.turns → limit ≤ 2 ^ 40 →
    HasTurnsFor old.net.graph old.turns → HasTurns old
has_turns old new limit gone first is few has = record {
  bound = has.bound;
  is = has.is;
  turns = let nothing : length old.net.trace ≡ 0 = ap length gone.none in let enough = has.enough in omega (arith, nothing, enough);
  numbers = let enough = has.enough in omega (arith, enough, few, is, first);
}

-- or at its last turn
at_limit_short : (Is : Type 0) (old new : WorldState) (limit : ℕ) (r : Result RunEnd RunFault) →
    HasGoneOn old new →
    old.last ≡ 0 →
    limit ≡ old.turns →
    limit ≤ 2 ^ 40 →
    IfErr r (λ f. EndsFor new f) →
    (HasTurns old → r ≡ Err TurnLimit → ⊥) →
    (HasEnded old.net.graph (net_after old.net.graph new.net.trace) ⊎ (old.turns ≤ length new.net.trace) →
    (HasTurnsFor old.net.graph old.turns → HasEnded old.net.graph (net_after old.net.graph new.net.trace)) → Is) →
    r ≡ Err TurnLimit →
    Is
at_limit_short Is old new limit r gone first same few ends surely is at_limit =
    let used : StopsFor new TurnLimit =
    subst (λ (x : Result RunEnd RunFault). IfErr x (λ f. StopsFor new f)) at_limit (stops_for old new r gone ends) in
    let turns = gone.turns in
    is (inr (omega (arith, used, turns))) (λ has. absurd (surely (has_turns old new limit gone first same few has) at_limit))

pub at_limit_patient : (seed : ℕ) (old new : WorldState) (words after : List ℕ) (limit : ℕ) (r : Result RunEnd RunFault) →
    words ≡ seeded seed →
    HasGoneOn old new →
    old.last ≡ 0 →
    limit ≡ old.turns →
    limit ≤ 2 ^ 40 →
    patient.HasRun old new words after →
    IsShort old new →
    IfErr r (λ f. EndsFor new f) →
    (HasTurns old → r ≡ Err TurnLimit → ⊥) →
    r ≡ Err TurnLimit →
    IsPatient seed old.wake old.turns old.net.graph new.net.trace
at_limit_patient seed old new words after limit r begun gone first is few ran short ends surely at_limit =
    at_limit_short _ old new limit r gone first is few ends surely (is_patient seed old new words after begun gone ran short) at_limit

-- What holds of every run by rounds.
pub record Laws : Type 0 where
  pub chains : RoundsAreChains
  pub few : RoundsAreFew
  pub picks : PicksAreByRounds
  pub awake : AwakeRoundsAreFew
  pub fewer : RoundsAreFewer
  pub short : RunsByRoundsAreShort
  pub end : RunsByRoundsEnd

-- a run by rounds goes in as many as its schedule says
pub is_in_rounds : (laws : Laws) (seed : ℕ) (old new : WorldState) (words after : List ℕ) (rounds : ℕ) →
    IsGraph old.net.graph →
    words ≡ seeded seed →
    by_rounds.HasRun old new words after rounds →
    IsInRounds seed old.wake old.turns old.net.graph new.net.trace rounds
is_in_rounds laws seed old new words after rounds ok begun ran =
    let g = old.net.graph in
    let woken = each_is_woken g old.wake ok in
    record {
      words = after;
      picked = subst (λ (s : List ℕ). IsPickedByRounds (wakers old) g old.turns s new.net.trace rounds after) begun ran.picked;
      within = λ ended b is.
          rounds_within laws.picks laws.awake laws.fewer g ok old.turns words new.net.trace rounds after ended old.wake woken ran.picked b is;
      few = λ b is. laws.few (wakers old) g old.turns words new.net.trace rounds after ok woken b is ran.picked;
      chain = λ ended. laws.chains (wakers old) g old.turns words new.net.trace rounds after ok ran.picked ended;
    }

-- one that is over is the seed's
is_by_rounds : (laws : Laws) (seed : ℕ) (old new : WorldState) (words after : List ℕ) (rounds : ℕ) →
    IsGraph old.net.graph →
    words ≡ seeded seed →
    by_rounds.HasRun old new words after rounds →
    HasEnded old.net.graph (net_after old.net.graph new.net.trace) ⊎ (old.turns ≤ length new.net.trace) →
    (HasTurnsFor old.net.graph old.turns → HasEnded old.net.graph (net_after old.net.graph new.net.trace)) →
    IsByRounds seed old.wake old.turns old.net.graph new.net.trace
is_by_rounds laws seed old new words after rounds ok begun ran over ends = record {
  rounds = rounds;
  picked = is_in_rounds laws seed old new words after rounds ok begun ran;
  over = over;
  short = λ b is. laws.short (wakers old) old.net.graph old.turns words new.net.trace rounds after ok b is ran.picked;
  ends = ends;
}

pub on_ok_by_rounds : (laws : Laws) (seed : ℕ) (old new : WorldState) (words after : List ℕ) (rounds : ℕ) (r : Result RunEnd RunFault) →
    IsGraph old.net.graph →
    words ≡ seeded seed →
    HasGoneOn old new →
    by_rounds.HasRun old new words after rounds →
    IfOk r (λ e. IsEnd new e) →
    OnOk r (IsByRounds seed old.wake old.turns old.net.graph new.net.trace)
on_ok_by_rounds laws seed old new words after rounds (Ok e) ok begun gone ran end =
    let ended = has_ended old.net.graph new e gone.graph end in
    is_by_rounds laws seed old new words after rounds ok begun ran (inl ended) (λ _. ended)
on_ok_by_rounds laws seed old new words after rounds (Err f) ok begun gone ran end = tt

pub at_limit_by_rounds : (laws : Laws) (seed : ℕ) (old new : WorldState) (words after : List ℕ) (rounds : ℕ) (r : Result RunEnd RunFault) →
    IsGraph old.net.graph →
    words ≡ seeded seed →
    HasGoneOn old new →
    by_rounds.HasRun old new words after rounds →
    IfErr r (λ f. EndsFor new f) →
    OnErr r (HasEnded new.net.graph (home new) → ⊥) →
    r ≡ Err TurnLimit →
    IsByRounds seed old.wake old.turns old.net.graph new.net.trace
at_limit_by_rounds laws seed old new words after rounds r ok begun gone ran ends goes at_limit =
    let used : StopsFor new TurnLimit =
    subst (λ (x : Result RunEnd RunFault). IfErr x (λ f. StopsFor new f)) at_limit (stops_for old new r gone ends) in
    let going : HasEnded old.net.graph (net_after old.net.graph new.net.trace) → ⊥ =
    subst (λ (s : Shape). HasEnded s (net_after s new.net.trace) → ⊥) gone.graph
    (subst (λ (x : Result RunEnd RunFault). OnErr x (HasEnded new.net.graph (home new) → ⊥)) at_limit goes) in
    let turns = gone.turns in
    is_by_rounds laws seed old new words after rounds ok begun ran (inr (omega (arith, used, turns)))
    (λ has. absurd (
    let less =
    laws.end (wakers old) old.net.graph old.turns words new.net.trace rounds after ok (each_is_woken old.net.graph old.wake ok)
    has.bound has.is ran.picked going in
    let enough = has.enough in
    omega (arith, less, enough, used, turns)))

-- a run that prefers what waits, and is over, is the seed's
is_waiting : (seed : ℕ) (old new : WorldState) (words after : List ℕ) →
    words ≡ seeded seed →
    HasGoneOn old new →
    waits.HasRun old new words after →
    HasEnded old.net.graph (net_after old.net.graph new.net.trace) ⊎ (old.turns ≤ length new.net.trace) →
    IsWaiting seed old.wake old.turns old.net.graph new.net.trace
is_waiting seed old new words after begun gone ran over = record {
  words = after;
  picked = subst (λ (es : List Event). IsPickedWaiting (wakers old) old.net.graph old.turns es (seeded seed) new.net.trace after) gone.none
      (subst (λ (s : List ℕ). IsPickedWaiting (wakers old) old.net.graph old.turns old.net.trace s new.net.trace after) begun ran.picked);
  over = over;
}

pub on_ok_waiting : (seed : ℕ) (old new : WorldState) (words after : List ℕ) (r : Result RunEnd RunFault) →
    words ≡ seeded seed →
    HasGoneOn old new →
    waits.HasRun old new words after →
    IfOk r (λ e. IsEnd new e) →
    OnOk r (IsWaiting seed old.wake old.turns old.net.graph new.net.trace)
on_ok_waiting seed old new words after (Ok e) begun gone ran end =
    is_waiting seed old new words after begun gone ran (inl (has_ended old.net.graph new e gone.graph end))
on_ok_waiting seed old new words after (Err f) begun gone ran end = tt

pub at_limit_waiting : (seed : ℕ) (old new : WorldState) (words after : List ℕ) (r : Result RunEnd RunFault) →
    words ≡ seeded seed →
    HasGoneOn old new →
    waits.HasRun old new words after →
    IfErr r (λ f. EndsFor new f) →
    r ≡ Err TurnLimit →
    IsWaiting seed old.wake old.turns old.net.graph new.net.trace
at_limit_waiting seed old new words after r begun gone ran ends at_limit =
    let used : StopsFor new TurnLimit =
    subst (λ (x : Result RunEnd RunFault). IfErr x (λ f. StopsFor new f)) at_limit (stops_for old new r gone ends) in
    let turns = gone.turns in
    is_waiting seed old new words after begun gone ran (inr (omega (arith, used, turns)))

-- a run that takes first what was sent last, and is over, is the seed's
is_last : (seed : ℕ) (old new : WorldState) (words after : List ℕ) →
    words ≡ seeded seed →
    HasGoneOn old new →
    lifo.HasRun old new words after →
    IsShort old new →
    HasEnded old.net.graph (net_after old.net.graph new.net.trace) ⊎ (old.turns ≤ length new.net.trace) →
    (HasTurnsFor old.net.graph old.turns → HasEnded old.net.graph (net_after old.net.graph new.net.trace)) →
    IsLast seed old.wake old.turns old.net.graph new.net.trace
is_last seed old new words after begun gone ran short over ends = record {
  words = after;
  picked = subst (λ (es : List Event). IsPickedLast (wakers old) old.net.graph old.turns es (seeded seed) new.net.trace after) gone.none
      (subst (λ (s : List ℕ). IsPickedLast (wakers old) old.net.graph old.turns old.net.trace s new.net.trace after) begun ran.picked);
  over = over;
  short = λ b is.
      let nothing : length old.net.trace ≡ 0 = ap length gone.none in
      let most : length new.net.trace ≤ length old.net.trace + 2 * (b + old.net.graph.nodes) = short b is in
      omega (arith, most, nothing);
  ends = ends;
}

pub on_ok_last : (seed : ℕ) (old new : WorldState) (words after : List ℕ) (r : Result RunEnd RunFault) →
    words ≡ seeded seed →
    HasGoneOn old new →
    lifo.HasRun old new words after →
    IsShort old new →
    IfOk r (λ e. IsEnd new e) →
    OnOk r (IsLast seed old.wake old.turns old.net.graph new.net.trace)
on_ok_last seed old new words after r begun gone ran short end =
    on_ok_short _ old new r gone end (is_last seed old new words after begun gone ran short)

pub at_limit_last : (seed : ℕ) (old new : WorldState) (words after : List ℕ) (limit : ℕ) (r : Result RunEnd RunFault) →
    words ≡ seeded seed →
    HasGoneOn old new →
    old.last ≡ 0 →
    limit ≡ old.turns →
    limit ≤ 2 ^ 40 →
    lifo.HasRun old new words after →
    IsShort old new →
    IfErr r (λ f. EndsFor new f) →
    (HasTurns old → r ≡ Err TurnLimit → ⊥) →
    r ≡ Err TurnLimit →
    IsLast seed old.wake old.turns old.net.graph new.net.trace
at_limit_last seed old new words after limit r begun gone first is few ran short ends surely at_limit =
    at_limit_short _ old new limit r gone first is few ends surely (is_last seed old new words after begun gone ran short) at_limit

-- a run by round robin that is over
is_in_turn : (old new : WorldState) →
    HasGoneOn old new →
    round_robin.HasRun old new →
    round_robin.HasFewLaps new →
    round_robin.IsShort new →
    HasEnded old.net.graph (net_after old.net.graph new.net.trace) ⊎ (old.turns ≤ length new.net.trace) →
    (HasTurnsInTurn old.net.graph old.turns → HasEnded old.net.graph (net_after old.net.graph new.net.trace)) →
    IsInTurn old.wake old.turns old.net.graph new.net.trace
is_in_turn old new gone ran laps short over ends = record {
  picked = ran.picked;
  over = over;
  laps = subst
      (λ (h : Shape). (b : ℕ) → IsBound h.nodes (length h.keys) b → laps_in (network_of h) new.net.trace ≤ 2 * (b + h.nodes)) gone.graph laps;
  short = subst (λ (h : Shape). (b : ℕ) → IsBound h.nodes (length h.keys) b → length new.net.trace ≤ most_events h b) gone.graph short;
  ends = ends;
}

pub on_ok_in_turn : (old new : WorldState) (r : Result RunEnd RunFault) →
    HasGoneOn old new →
    round_robin.HasRun old new →
    round_robin.HasFewLaps new →
    round_robin.IsShort new →
    IfOk r (λ e. IsEnd new e) →
    OnOk r (IsInTurn old.wake old.turns old.net.graph new.net.trace)
on_ok_in_turn old new (Ok e) gone ran laps short end =
    let ended = has_ended old.net.graph new e gone.graph end in is_in_turn old new gone ran laps short (inl ended) (λ _. ended)
on_ok_in_turn old new (Err f) gone ran laps short end = tt

pub at_limit_in_turn : (old new : WorldState) (limit : ℕ) (r : Result RunEnd RunFault) →
    HasGoneOn old new →
    old.last ≡ 0 →
    limit ≡ old.turns →
    limit ≤ 2 ^ 40 →
    round_robin.HasRun old new →
    round_robin.HasFewLaps new →
    round_robin.IsShort new →
    IfErr r (λ f. EndsFor new f) →
    (round_robin.HasTurns old → r ≡ Err TurnLimit → ⊥) →
    r ≡ Err TurnLimit →
    IsInTurn old.wake old.turns old.net.graph new.net.trace
at_limit_in_turn old new limit r gone first same few ran laps short ends surely at_limit =
    let used : StopsFor new TurnLimit =
    subst (λ (x : Result RunEnd RunFault). IfErr x (λ f. StopsFor new f)) at_limit (stops_for old new r gone ends) in
    let turns = gone.turns in
    is_in_turn old new gone ran laps short (inr (omega (arith, used, turns)))
    (λ has. absurd (surely (record {
      bound = has.bound;
      is = has.is;
      turns = has.enough;
      numbers = let enough = has.enough in omega (arith, enough, few, same, first);
    }) at_limit))
