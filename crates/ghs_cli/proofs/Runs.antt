-- What a run of a world comes to.
use Rattle.std.proofs.Common.{◌≡◌, ◌∙◌, ℕ, ◌+◌, ◌≤◌, Option, arith, length, subst, sym}
use Rattle.std.specs.Prelude.{IfErr, IfOk, OnErr, OnOk, Result, Ok, Err}
use Rattle.ghs_graph.specs.Graph.{Shape}
use Rattle.ghs_protocol.specs.Marks.{HasEnded}
use Rattle.peer_network.specs.Network.{network_of}
use Rattle.ghs_protocol.specs.Run.{IsRunUnder}
use Rattle.ghs_picking.specs.Picking.{AreRounds, IsPickedBy, StopsFor}
use Rattle.ghs_pool.specs.Ends.{EndFits}
use Rattle.ghs_pool.specs.declared.end.PoolFault.{PoolFault}
use Rattle.ghs_sched.specs.Runs.{IsEnd}
use Rattle.ghs_sched.specs.declared.fault.RunFault.{RunFault}
use Rattle.ghs_sched.specs.declared.fault.RunFault.TheVariants.{TurnLimit}
use Rattle.ghs_sched.specs.declared.run.RunEnd.{RunEnd}
use Rattle.ghs_sched.specs.declared.run.RunEnd.TheVariants.{Halted}
use Rattle.peer_network.specs.declared.wake_set.WakeSet.{WakeSet}
use Rattle.peer_network.specs.Wakes.{may_wake}
use Rattle.ghs_world.specs.WorldState.{WorldState, home, wakers}
use Rattle.ghs_answers.specs.declared.fault.ServeFault.{ServeFault}
use Rattle.ghs_answers.specs.declared.fault.ServeFault.TheVariants as serve
use Rattle.ghs_commands.specs.declared.job.RunOptions.{RunOptions}
use Rattle.ghs_cli.specs.Running.{AreItsRounds, IsOpened, IsRunBy, IsStopped, IsWholeRun, Stops, StopsRun}

-- what a world holds of its run, as the options ask
pub is_run_by : (o : RunOptions) (new : WorldState) (limit : ℕ) →
    new.wake ≡ o.wake →
    new.turns ≡ o.turns →
    IsRunUnder (wakers new) (network_of new.net.graph) new.net.trace →
    limit ≡ new.turns →
    length new.net.trace + length new.outs ≤ limit →
    (o.workers ≡ 0 → IsPickedBy o.schedule_kind o.seed o.wake o.turns new.net.graph new.net.trace) →
    IsRunBy o new.net.graph new.net.trace
is_run_by o new limit wake turns run is fits picked = record {
  run = subst (λ (w : WakeSet). IsRunUnder (may_wake new.net.graph w) (network_of new.net.graph) new.net.trace) wake run;
  within = omega (arith, fits, turns, is);
  picked = picked;
}

-- a run that has come to an end has ended
pub ended_by : (s : WorldState) (e : RunEnd) → IsEnd s e → HasEnded s.net.graph (home s)
ended_by s (Halted v) is = is.0

-- a world opened and run on by the schedule of a seed has the events that it picks
picked_by : (o : RunOptions) (old new : WorldState) →
    IsOpened o old →
    new.net.graph ≡ old.net.graph →
    IsPickedBy o.schedule_kind o.seed old.wake old.turns old.net.graph new.net.trace →
    IsPickedBy o.schedule_kind o.seed o.wake o.turns new.net.graph new.net.trace
picked_by o old new opened graph picked =
    subst (λ (s : Shape). IsPickedBy o.schedule_kind o.seed o.wake o.turns s new.net.trace) (sym graph)
    (subst (λ (w : WakeSet). IsPickedBy o.schedule_kind o.seed w o.turns old.net.graph new.net.trace) opened.wake
    (subst (λ (t : ℕ). IsPickedBy o.schedule_kind o.seed old.wake t old.net.graph new.net.trace) opened.turns picked))

by_schedule : (o : RunOptions) (old new : WorldState) (limit : ℕ) →
    IsOpened o old →
    new.net.graph ≡ old.net.graph →
    new.wake ≡ old.wake →
    new.turns ≡ old.turns →
    IsRunUnder (wakers new) (network_of new.net.graph) new.net.trace →
    limit ≡ new.turns →
    length new.net.trace + length new.outs ≤ limit →
    IsPickedBy o.schedule_kind o.seed old.wake old.turns old.net.graph new.net.trace →
    IsRunBy o new.net.graph new.net.trace
by_schedule o old new limit opened graph wake turns run is fits picked =
    is_run_by o new limit (wake ∙ opened.wake) (turns ∙ opened.turns) run is fits (λ no. picked_by o old new opened graph picked)

-- its rounds are the run's; a schedule picks where no threads take part
pub rounds_by_schedule : (o : RunOptions) (old new : WorldState) (rounds : Option ℕ) →
    IsOpened o old →
    o.workers ≡ 0 →
    new.net.graph ≡ old.net.graph →
    AreRounds o.schedule_kind o.seed old.wake old.turns old.net.graph new.net.trace rounds →
    AreItsRounds o new.net.graph new.net.trace rounds
rounds_by_schedule o old new rounds opened none graph are = record {
  by_schedule = λ no.
      subst (λ (s : Shape). AreRounds o.schedule_kind o.seed o.wake o.turns s new.net.trace rounds) (sym graph)
      (subst (λ (w : WakeSet). AreRounds o.schedule_kind o.seed w o.turns old.net.graph new.net.trace rounds) opened.wake
      (subst (λ (t : ℕ). AreRounds o.schedule_kind o.seed old.wake t old.net.graph new.net.trace rounds) opened.turns are));
  by_threads = λ some. absurd (omega (arith, some, none));
}

-- the seed's run has ended
pub whole_by_schedule : (o : RunOptions) (old new : WorldState) (limit : ℕ) (r : Result RunEnd RunFault) (e : RunEnd) →
    IsOpened o old →
    new.net.graph ≡ old.net.graph →
    new.wake ≡ old.wake →
    new.turns ≡ old.turns →
    IsRunUnder (wakers new) (network_of new.net.graph) new.net.trace →
    limit ≡ new.turns →
    length new.net.trace + length new.outs ≤ limit →
    r ≡ Ok e →
    OnOk r (IsPickedBy o.schedule_kind o.seed old.wake old.turns old.net.graph new.net.trace) →
    IfOk r (λ e. IsEnd new e) →
    IsWholeRun o new.net.graph new.net.trace
whole_by_schedule o old new limit r e opened graph wake turns run is fits answer picked end = record {
  by = by_schedule o old new limit opened graph wake turns run is fits
      (subst (λ (x : Result RunEnd RunFault). OnOk x (IsPickedBy o.schedule_kind o.seed old.wake old.turns old.net.graph new.net.trace))
      answer picked);
  ended = ended_by new e (subst (λ (x : Result RunEnd RunFault). IfOk x (λ e. IsEnd new e)) answer end);
}

-- the seed's run has used its turns
pub stopped_by_schedule : (o : RunOptions) (old new : WorldState) (limit : ℕ) (r : Result RunEnd RunFault) →
    IsOpened o old →
    new.net.graph ≡ old.net.graph →
    new.wake ≡ old.wake →
    new.turns ≡ old.turns →
    IsRunUnder (wakers new) (network_of new.net.graph) new.net.trace →
    limit ≡ new.turns →
    length new.net.trace + length new.outs ≤ limit →
    (r ≡ Err TurnLimit → IsPickedBy o.schedule_kind o.seed old.wake old.turns old.net.graph new.net.trace) →
    IfErr r (λ f. StopsFor new f) →
    OnErr r (HasEnded new.net.graph (home new) → ⊥) →
    r ≡ Err TurnLimit →
    IsStopped o new.net.graph new.net.trace
stopped_by_schedule o old new limit r opened graph wake turns run is fits picked stops goes at_limit =
    let used : StopsFor new TurnLimit = subst (λ (x : Result RunEnd RunFault). IfErr x (λ f. StopsFor new f)) at_limit stops in
    record {
      by = by_schedule o old new limit opened graph wake turns run is fits (picked at_limit);
      used = used ∙ turns ∙ opened.turns;
      goes_on = subst (λ (x : Result RunEnd RunFault). OnErr x (HasEnded new.net.graph (home new) → ⊥)) at_limit goes;
    }

-- a run of workers is as the options ask
by_threads : (o : RunOptions) (new : WorldState) (limit : ℕ) →
    1 ≤ o.workers →
    new.wake ≡ o.wake →
    new.turns ≡ o.turns →
    IsRunUnder (wakers new) (network_of new.net.graph) new.net.trace →
    limit ≡ new.turns →
    length new.net.trace + length new.outs ≤ limit →
    IsRunBy o new.net.graph new.net.trace
by_threads o new limit some wake turns run is fits = is_run_by o new limit wake turns run is fits (λ no. absurd (omega (arith, some, no)))

pub whole_threads : (o : RunOptions) (new : WorldState) (limit : ℕ) (r : Result RunEnd PoolFault) (e : RunEnd) →
    1 ≤ o.workers →
    new.wake ≡ o.wake →
    new.turns ≡ o.turns →
    IsRunUnder (wakers new) (network_of new.net.graph) new.net.trace →
    limit ≡ new.turns →
    length new.net.trace + length new.outs ≤ limit →
    r ≡ Ok e →
    EndFits new r →
    IsWholeRun o new.net.graph new.net.trace
whole_threads o new limit r e some wake turns run is fits answer end = record {
  by = by_threads o new limit some wake turns run is fits;
  ended = let fit : EndFits new (Ok e) = subst (λ (x : Result RunEnd PoolFault). EndFits new x) answer end in ended_by new e fit;
}

pub stopped_threads : (o : RunOptions) (new : WorldState) (limit events : ℕ) →
    1 ≤ o.workers →
    new.wake ≡ o.wake →
    new.turns ≡ o.turns →
    IsRunUnder (wakers new) (network_of new.net.graph) new.net.trace →
    limit ≡ new.turns →
    length new.net.trace + length new.outs ≤ limit →
    events ≡ length new.net.trace →
    limit ≤ events →
    (HasEnded new.net.graph (home new) → ⊥) →
    IsStopped o new.net.graph new.net.trace
stopped_threads o new limit events some wake turns run is fits count least goes =
    record {
      by = by_threads o new limit some wake turns run is fits;
      used = omega (arith, least, fits, count, is, turns);
      goes_on = goes;
    }

-- a run stops in a world where its turns are used,
pub stops_at_limit : (o : RunOptions) (s : WorldState) → IsStopped o s.net.graph s.net.trace → Stops o s serve.TurnLimit
stops_at_limit o s stopped = record { cause = (s.net.trace, stopped); used = λ limit. stopped }

-- or for any other fault that stops a run
pub stops_for : (o : RunOptions) (s : WorldState) (fault : ServeFault) → StopsRun o s.net.graph fault → (fault ≡ serve.TurnLimit → ⊥) →
    Stops o s fault
stops_for o s fault cause other = record { cause = cause; used = λ limit. absurd (other limit) }
