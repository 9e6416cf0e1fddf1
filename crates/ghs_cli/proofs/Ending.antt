-- A run that has turns for all its events doesn't stop at its turns.
use Rattle.std.proofs.Common.{◌≡◌, ◌⊎◌, ◌∙◌, ℕ, Bool, false, true, List, Option, Some, None, ⊎_elim, inl, inr, subst, sym}
use Rattle.std.specs.Prelude.{IfSome, IsErrOf, Result, Ok, Err}
use Rattle.ghs_gr.specs.Judgement.{IsOneThing, TextIs}
use Rattle.ghs_gr.specs.RawGraph.{RawShape}
use Rattle.ghs_choices.specs.declared.schedule_kind.ScheduleKind.{ScheduleKind}
use Rattle.ghs_choices.specs.declared.schedule_kind.ScheduleKind.TheVariants.{Seeded, Patient, Rounds, Waits, Lifo, RoundRobin}
use Rattle.ghs_picking.specs.Picking.{IsPickedBy}
use Rattle.ghs_graph.specs.Graph.{Shape}
use Rattle.peer_machine.specs.Net.{Net}
use Rattle.peer_machine.specs.Rules.{Rules}
use Rattle.peer_network.specs.declared.event.Event.{Event}
use Rattle.peer_report.specs.Runs.{TurnsSuffice}
use Rattle.peer_trace.specs.declared.protocol.Protocol.{Protocol}
use Rattle.peer_trace.specs.declared.protocol.Protocol.TheVariants.{Boruvka, Echo, Gather, Ghs}
use Rattle.ghs_protocol.specs.Marks.{HasEnded}
use Rattle.ghs_protocol.specs.Run.{net_after}
use Rattle.peer_network.specs.declared.wake_set.WakeSet.{WakeSet}
use Rattle.ghs_answers.specs.declared.fault.ServeFault.{ServeFault}
use Rattle.ghs_answers.specs.declared.fault.ServeFault.TheVariants as serve
use Rattle.ghs_commands.specs.declared.job.RunOptions.{RunOptions}
use Rattle.ghs_commands.specs.declared.job.Task.{Task}
use Rattle.ghs_commands.specs.declared.job.Task.TheVariants as task
use Rattle.ghs_cli.specs.AnyRun.{HasTurnsFor, StopsRun}
use Rattle.ghs_cli.specs.Running.{HasTurnsBy}
use Rattle.ghs_cli.specs.Serving.{IsBoundedTask, IsGraphCause, IsOfText, IsRead, IsTextCause, shape_of}
use Rattle.ghs_cli.specs.Verbs.{NeverStops, ghs_verbs, verbs_of}

-- a run by a bounded schedule, with turns for its events, has ended
ended_by : (p : ScheduleKind) (seed : ℕ) (wake : WakeSet) (turns : ℕ) (g : Shape) (es : List Event) → IsPickedBy p seed wake turns g es →
    HasTurnsBy p g turns → HasEnded g (net_after g es)
ended_by Seeded seed wake turns g es run enough = absurd enough
ended_by Patient seed wake turns g es run enough = run.ends enough
ended_by Rounds seed wake turns g es run enough = run.ends enough
ended_by Waits seed wake turns g es run enough = absurd enough
ended_by Lifo seed wake turns g es run enough = run.ends enough
ended_by RoundRobin seed wake turns g es run enough = run.ends enough

-- a run by GHS that stops at its turns hasn't turns for its events
pub ghs_never_stops : NeverStops ghs_verbs
ghs_never_stops o g stops bounded =
    stops.1.goes_on (ended_by o.schedule_kind o.seed o.wake o.turns g stops.0 (stops.1.by.picked bounded.alone) bounded.turns)

-- nor one by any protocol whose runs end
module _ {S M : Type 0} (r : Rules S M) (has_ended : Shape → Net S M → Type 0) (bound : Shape → ℕ) where
  pub any_never_stops : TurnsSuffice r has_ended bound → (o : RunOptions) (g : Shape) → StopsRun r has_ended o g serve.TurnLimit →
      HasTurnsFor bound o g → ⊥
  any_never_stops suffice o g stops enough = suffice o.schedule_kind o.seed o.wake o.turns g stops.0 enough stops.1

-- what goes out at the turn limit is of a run that has used its turns,
limit_stops : (p : Protocol) (o : RunOptions) (g : Shape) (output : List ℕ) → (verbs_of p).runs o g true output →
    (verbs_of p).stops o g serve.TurnLimit
limit_stops Ghs o g output out = (out.events, out.stopped)
limit_stops Boruvka o g output out = (out.events, out.stopped)
limit_stops Echo o g output out = (out.events, out.stopped)
limit_stops Gather o g output out = (out.events, out.stopped)

pub limit_cause : (p : Protocol) (o : RunOptions) (input output : List ℕ) → IsOfText o.wake (λ g. (verbs_of p).runs o g true) input output →
    IsTextCause o.wake ((verbs_of p).stops o) input serve.TurnLimit
limit_cause p o input output out = inr (out.0, out.1, limit_stops p o (shape_of out.0) output out.2)

-- what goes out of a run may have gone out in part, be it whole or stopped
pub either_way : (p : Protocol) (o : RunOptions) (at_limit : Bool) (input output : List ℕ) →
    IsOfText o.wake (λ g. (verbs_of p).runs o g at_limit) input output →
    IsOfText o.wake (λ g. (verbs_of p).runs o g false) input output ⊎ IsOfText o.wake (λ g. (verbs_of p).runs o g true) input output
either_way p o false input output out = inl out
either_way p o true input output out = inr out

-- a text is that of one graph
same_graph : (input : List ℕ) (one two : RawShape) → IsOneThing input → TextIs input (Ok one) → TextIs input (Ok two) → one ≡ two
same_graph input one two is first second = let both : Ok one ≡ Ok two = is.one (Ok one) (Ok two) first second in cc

-- and a run of the one graph whose text the input is hasn't turns for its events
pub goes_on : (p : Protocol) (o : RunOptions) → NeverStops (verbs_of p) → (input : List ℕ) → IsOneThing input →
    IsTextCause o.wake ((verbs_of p).stops o) input serve.TurnLimit → IsBoundedTask (task.Run p o) input → ⊥
goes_on p o never input one cause is =
    ⊎_elim (λ (bad : IsGraphCause o.wake input serve.TurnLimit). bad)
    (λ (stops : (graph : RawShape) × IsRead o.wake input graph × (verbs_of p).stops o (shape_of graph) serve.TurnLimit).
    never o (shape_of stops.0) stops.2
    (subst (λ (g : RawShape). (verbs_of p).is_bounded o (shape_of g)) (same_graph input is.0 stops.0 one is.1 stops.1.text) is.2))
    cause

-- so a result by such a cause is no turn limit of a bounded run,
pub ends_by : (job : Task) (Cause : List ℕ → ServeFault → Type 0) (input : Option (List ℕ)) (r : Result (Unit {0}) ServeFault) (fault : ServeFault) →
    ((text : List ℕ) → IsOneThing text) →
    ((text : List ℕ) → IsOneThing text → Cause text serve.TurnLimit → IsBoundedTask job text → ⊥) →
    r ≡ Err fault →
    IfSome input (λ i. Cause i fault) →
    IfSome input (λ i. IsBoundedTask job i → IsErrOf r serve.TurnLimit → ⊥)
ends_by job Cause None r fault one goes_on is cause = tt
ends_by job Cause (Some i) r fault one goes_on is cause = λ bounded limit.
    let same : fault ≡ serve.TurnLimit = let both : Err fault ≡ Err serve.TurnLimit = sym is ∙ limit in cc in
    goes_on i (one i) (subst (λ (f : ServeFault). Cause i f) same cause) bounded

-- nor one behind output,
pub ends_behind : (job : Task) (Out : List ℕ → Type 0) (input : Option (List ℕ)) (r : Result (Unit {0}) ServeFault) →
    ((text : List ℕ) → IsOneThing text) →
    ((text : List ℕ) → IsOneThing text → Out text → IsBoundedTask job text → ⊥) →
    IfSome input Out →
    IfSome input (λ i. IsBoundedTask job i → IsErrOf r serve.TurnLimit → ⊥)
ends_behind job Out None r one goes_on out = tt
ends_behind job Out (Some i) r one goes_on out = λ bounded limit. goes_on i (one i) out bounded

-- nor any other
pub ends_else : (job : Task) (input : Option (List ℕ)) (r : Result (Unit {0}) ServeFault) →
    (IsErrOf r serve.TurnLimit → ⊥) →
    IfSome input (λ i. IsBoundedTask job i → IsErrOf r serve.TurnLimit → ⊥)
ends_else job None r other = tt
ends_else job (Some i) r other = λ bounded limit. other limit

-- a job ends as its task does,
pub ends_as : (job other : Task) (input : Option (List ℕ)) (r : Result (Unit {0}) ServeFault) →
    job ≡ other →
    IfSome input (λ i. IsBoundedTask other i → IsErrOf r serve.TurnLimit → ⊥) →
    IfSome input (λ i. IsBoundedTask job i → IsErrOf r serve.TurnLimit → ⊥)
ends_as job other input r is ends = rw is ends

-- and only runs are bounded
pub ends_other : (job other : Task) (input : Option (List ℕ)) (r : Result (Unit {0}) ServeFault) →
    job ≡ other →
    ((i : List ℕ) → IsBoundedTask other i → ⊥) →
    IfSome input (λ i. IsBoundedTask job i → IsErrOf r serve.TurnLimit → ⊥)
ends_other job other None r is unbounded = tt
ends_other job other (Some i) r is unbounded = λ bounded limit. unbounded i (subst (λ (t : Task). IsBoundedTask t i) is bounded)
