-- What is told of the steps of a stored run.
use Rattle.std.proofs.Common.{◌≡◌, ℕ, List, Option, inl, inr, length, refl, subst, sym, arith}
use Rattle.std.specs.Prelude.{Result, Ok, Err}
use Rattle.std.specs.Io.KnownBytes.{Appends}
use Rattle.std.proofs.lemmas.List.{take_all}
use Rattle.ghs_commands.specs.declared.job.StepsOptions.{StepsOptions}
use Rattle.ghs_graph.specs.Graph.{Shape}
use Rattle.peer_machine.specs.Rules.{Rules}
use Rattle.peer_machine.specs.Run.{IsRunUnder}
use Rattle.peer_network.specs.Network.{network_of}
use Rattle.peer_network.specs.Wakes.{may_wake}
use Rattle.peer_network.specs.declared.event.Event.{Event}
use Rattle.peer_runs.specs.Replays.{IsFirstUnlawful}
use Rattle.peer_steps.specs.Lines.{lines}
use Rattle.peer_steps.specs.Shown.{CantShow}
use Rattle.peer_steps.specs.declared.fault.StepsFault.{StepsFault}
use Rattle.peer_steps.specs.declared.fault.StepsFault.TheVariants as steps
use Rattle.peer_words.specs.Words.{Words}
use Rattle.ghs_answers.specs.Fault.{of_steps}
use Rattle.ghs_answers.specs.Stepping.{AreSteps, HasTold}
use Rattle.ghs_answers.specs.declared.fault.ServeFault.{ServeFault}
use Rattle.ghs_answers.specs.declared.fault.ServeFault.TheVariants as serve

-- all lines have gone out
pub all_told : (tells : List ℕ → Type 0) (is_unlawful : ℕ → Type 0) (output : List ℕ) (old new : Option (List ℕ)) →
    tells output →
    Appends old new output →
    HasTold tells is_unlawful old new (Ok tt)
all_told tells is_unlawful output old new told out = (
  output,
  told,
  subst (λ (bytes : List ℕ). Appends old new bytes) (sym (take_all (length output) output (omega arith))) out,
)

-- a fault of the steps is why they aren't told
pub untold_as : (tells : List ℕ → Type 0) (is_unlawful : ℕ → Type 0) (old new : Option (List ℕ)) (Shows : StepsFault → Type 0) →
    ((fault : StepsFault) → Shows fault → HasTold tells is_unlawful old new (Err (of_steps fault))) →
    (result : Result (Unit {0}) ServeFault) (fault : StepsFault) →
    result ≡ Err (of_steps fault) →
    Shows fault →
    HasTold tells is_unlawful old new result
untold_as tells is_unlawful old new Shows cant result fault is has = rw is (cant fault has)

-- of a run by any protocol
module _ {S M : Type 0} (r : Rules S M) (words : Words S M) where
  pub any_told : (o : StepsOptions) (g : Shape) (events : List Event) (old new : Option (List ℕ)) →
      IsRunUnder r (may_wake g o.wake) (network_of g) events →
      Appends old new (lines r words o.form g o.choice events) →
      HasTold (AreSteps r words o g events) (IsFirstUnlawful r g o.wake events) old new (Ok tt)
  any_told o g events old new run out =
      all_told (AreSteps r words o g events) (IsFirstUnlawful r g o.wake events) (lines r words o.form g o.choice events) old new
      (record { run = run; printed = refl }) out

  any_cant_tell : (o : StepsOptions) (g : Shape) (events : List Event) (old new : Option (List ℕ)) (fault : StepsFault) →
      CantShow r g o.wake events (lines r words o.form g o.choice events) old new fault →
      HasTold (AreSteps r words o g events) (IsFirstUnlawful r g o.wake events) old new (Err (of_steps fault))
  any_cant_tell o g events old new (steps.NotLawful k) has = has.0
  any_cant_tell o g events old new steps.Memory (inl none) = inl none
  any_cant_tell o g events old new steps.Memory (inr front) = inr (_, record { run = front.0; printed = refl }, front.1)
  any_cant_tell o g events old new (steps.Write k) has = (_, record { run = has.0; printed = refl }, has.1.0, has.1.1)

  pub any_untold : (o : StepsOptions) (g : Shape) (events : List Event) (old new : Option (List ℕ)) (result : Result (Unit {0}) ServeFault)
      (fault : StepsFault) →
      result ≡ Err (of_steps fault) →
      CantShow r g o.wake events (lines r words o.form g o.choice events) old new fault →
      HasTold (AreSteps r words o g events) (IsFirstUnlawful r g o.wake events) old new result
  any_untold o g events old new =
      untold_as (AreSteps r words o g events) (IsFirstUnlawful r g o.wake events) old new
      (CantShow r g o.wake events (lines r words o.form g o.choice events) old new) (any_cant_tell o g events old new)
