-- What writing the steps of a stored run comes to.
use Rattle.std.proofs.Common.{◌≡◌, ℕ, Bool, false, true, List, Option, inl, inr, length, refl, subst, sym, arith, ◌&&◌, ◌||◌}
use Rattle.std.specs.Prelude.{IfErr, IfSome, Result, Ok, Err}
use Rattle.std.specs.Io.KnownBytes.{Appends}
use Rattle.ghs_graph.specs.Graph.{Shape}
use Rattle.ghs_steps.specs.Shown as ghs
use Rattle.ghs_sched.specs.Replays as ghs_replays
use Rattle.ghs_protocol.specs.Run as ghs_run
use Rattle.ghs_steps.specs.Lines as ghs_lines
use Rattle.peer_network.specs.Network.{network_of}
use Rattle.peer_network.specs.Wakes.{may_wake}
use Rattle.peer_network.specs.declared.event.Event.{Event}
use Rattle.peer_steps.specs.declared.fault.StepsFault.{StepsFault}
use Rattle.peer_steps.specs.declared.fault.StepsFault.TheVariants as steps
use Rattle.peer_trace.specs.declared.protocol.Protocol.{Protocol}
use Rattle.ghs_answers.specs.Fault.{of_steps}
use Rattle.ghs_cli.specs.Running.{AreSteps}
use Rattle.ghs_cli.specs.Serving.{IsTextOf, IsTraceText, Serves, is_late, is_limit, meaning_of}
use Rattle.ghs_answers.specs.Causes.{is_memory, is_write}
use Rattle.ghs_answers.specs.Stepping.{CantTell, HasTold}
use Rattle.ghs_cli.specs.Verbs.{verbs_of}
use Rattle.ghs_answers.specs.declared.fault.ServeFault.{ServeFault}
use Rattle.ghs_answers.specs.declared.fault.ServeFault.TheVariants as serve
use Rattle.ghs_answers.proofs.lemmas.Told.{all_told}
use Rattle.ghs_cli.proofs.Serves.{fault_of, if_both, told_of}
use Rattle.ghs_commands.specs.declared.job.StepsOptions.{StepsOptions}
use Rattle.ghs_commands.specs.declared.job.Task.TheVariants as task

-- of a run by GHS,
pub ghs_told : (o : StepsOptions) (g : Shape) (events : List Event) (old new : Option (List ℕ)) →
    ghs_run.IsRunUnder (may_wake g o.wake) (network_of g) events →
    Appends old new (ghs_lines.lines o.form g events o.choice) →
    HasTold (AreSteps o g events) (ghs_replays.IsFirstUnlawful g o.wake events) old new (Ok tt)
ghs_told o g events old new run out =
    all_told (AreSteps o g events) (ghs_replays.IsFirstUnlawful g o.wake events) (ghs_lines.lines o.form g events o.choice) old new
    (record { run = run; printed = refl }) out

-- or not all of them
pub ghs_cant_tell : (o : StepsOptions) (g : Shape) (events : List Event) (old new : Option (List ℕ)) (fault : StepsFault) →
    ghs.CantShow g o.wake events (ghs_lines.lines o.form g events o.choice) old new fault →
    HasTold (AreSteps o g events) (ghs_replays.IsFirstUnlawful g o.wake events) old new (Err (of_steps fault))
ghs_cant_tell o g events old new (steps.NotLawful k) has = has.0
ghs_cant_tell o g events old new steps.Memory (inl none) = inl none
ghs_cant_tell o g events old new steps.Memory (inr front) = inr (_, record { run = front.0; printed = refl }, front.1)
ghs_cant_tell o g events old new (steps.Write k) has = (_, record { run = has.0; printed = refl }, has.1.0, has.1.1)

-- what is told of events serves the steps of their texts
module _ (p : Protocol) (o : StepsOptions) (stored input : List ℕ) (g : Shape) (events : List Event) (trace : IsTraceText p stored events)
    (text : IsTextOf o.wake input g) where
  -- what is told of them,
  told_so : (output : List ℕ) → (verbs_of p).tells o g events output → (meaning_of (task.Steps p o)).prints stored input output
  told_so output told = told_of p ((verbs_of p).tells o) stored input output g events trace text told

  -- and a fault of them
  fault_so : (fault : ServeFault) → CantTell ((verbs_of p).is_unlawful o.wake g events) fault →
      (meaning_of (task.Steps p o)).cause stored input fault
  fault_so fault cause =
      fault_of p (λ s es. CantTell ((verbs_of p).is_unlawful o.wake s es)) stored input g events fault trace text cause

  serves_result : (old new : Option (List ℕ)) (r : Result (Unit {0}) ServeFault) →
      HasTold ((verbs_of p).tells o g events) ((verbs_of p).is_unlawful o.wake g events) old new r →
      Serves (task.Steps p o) stored input old new r
  serves_result old new (Ok u) has = (has.0, told_so has.0 has.1, has.2)
  serves_result old new (Err (serve.Write k)) has = (has.0, inl (told_so has.0 has.1), has.2, has.3)
  serves_result old new (Err serve.Memory) (inl none) = (fault_so serve.Memory tt, λ portions. inl none)
  serves_result old new (Err serve.Memory) (inr front) =
      (fault_so serve.Memory tt, λ portions. inr (front.0, told_so front.0 front.1, front.2))
  serves_result old new (Err (serve.NotLawful k)) has = fault_so (serve.NotLawful k) has
  serves_result old new (Err fault) has = absurd has

pub serves_told : (p : Protocol) (o : StepsOptions) (stored input : Option (List ℕ)) (g : Shape) (events : List Event)
    (old new : Option (List ℕ)) (r : Result (Unit {0}) ServeFault) →
    IfSome stored (λ s. IsTraceText p s events) →
    IfSome input (λ i. IsTextOf o.wake i g) →
    HasTold ((verbs_of p).tells o g events) ((verbs_of p).is_unlawful o.wake g events) old new r →
    IfSome stored (λ s. IfSome input (λ i. Serves (task.Steps p o) s i old new r))
serves_told p o stored input g events old new r trace text has =
    if_both p stored input g events (λ s i. Serves (task.Steps p o) s i old new r)
    (λ s i trace_s text_i. serves_result p o s i g events trace_s text_i old new r has)
    trace text

-- a fault of steps that isn't late is no write, and no lack of memory
neither : (write memory limit : Bool) → (write || (memory && true) || (limit && false)) ≡ false → (write ≡ false) × (memory ≡ false)
neither true memory limit none = absurd (let bad : true ≡ false = none in cc)
neither false true limit none = absurd (let bad : true ≡ false = none in cc)
neither false false limit none = (refl, refl)

pub unwritten_steps : {W : Type 0} (p : Protocol) (o : StepsOptions) (r : Result (Unit {0}) ServeFault) (old new : W) →
    IfErr r (λ fault. is_write fault ≡ false → is_memory fault ≡ false → new ≡ old) →
    IfErr r (λ fault. is_late (task.Steps p o) fault ≡ false → new ≡ old)
unwritten_steps p o (Ok u) old new early = tt
unwritten_steps p o (Err fault) old new early = λ none.
    early (neither (is_write fault) (is_memory fault) (is_limit fault) none).0 (neither (is_write fault) (is_memory fault) (is_limit fault) none).1
