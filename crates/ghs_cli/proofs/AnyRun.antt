-- Runs by any protocol, and stored ones played again.
use Rattle.std.proofs.Common.{◌≡◌, ℕ, Bool, List, subst}
use Rattle.std.specs.Prelude.{IfOk, OnOk, Result, Ok, Err}
use Rattle.ghs_graph.specs.declared.key.Key.{Key}
use Rattle.ghs_graph.specs.Graph.{Shape}
use Rattle.peer_network.specs.declared.event.Event.{Event}
use Rattle.peer_network.specs.Network.{network_of}
use Rattle.peer_network.specs.declared.wake_set.WakeSet.{WakeSet}
use Rattle.peer_network.specs.Wakes.{may_wake}
use Rattle.peer_machine.specs.Net.{Net}
use Rattle.peer_machine.specs.Rules.{Rules}
use Rattle.peer_machine.specs.Run.{IsRunUnder, net_after}
use Rattle.ghs_answers.specs.declared.fault.ServeFault.{ServeFault}
use Rattle.ghs_answers.specs.declared.fault.ServeFault.TheVariants as serve
use Rattle.ghs_cli.specs.AnyRun.{GoesOn, IsReplayed, IsRunCause, IsText}

module _ {S M : Type 0} (r : Rules S M) (has_ended : Shape → Net S M → Type 0) where
  -- a world whose run goes on gives its fault
  pub goes_on : (wake own : WakeSet) (h g : Shape) (done events : List Event) (fault : ServeFault) →
      g ≡ h →
      done ≡ events →
      own ≡ wake →
      IsRunUnder r (may_wake g own) (network_of g) done →
      GoesOn r has_ended g done fault →
      IsRunCause r has_ended wake h events fault
  goes_on wake own h g done events serve.NotEnded graph trace wakes run goes = (
    subst (λ (s : Shape). IsRunUnder r (may_wake s wake) (network_of s) events) graph
        (subst (λ (es : List Event). IsRunUnder r (may_wake g wake) (network_of g) es) trace
        (subst (λ (w : WakeSet). IsRunUnder r (may_wake g w) (network_of g) done) wakes run)),
    subst (λ (s : Shape). has_ended s (net_after r s events) → ⊥) graph
        (subst (λ (es : List Event). has_ended g (net_after r g es) → ⊥) trace goes),
  )
  goes_on wake own h g done events serve.Memory graph trace wakes run goes = tt
  goes_on wake own h g done events fault graph trace wakes run goes = absurd goes

  module _ (kind : ℕ → List ℕ) (bound : Shape → ℕ) (is_branch : S → ℕ → Bool) (found : Shape → List Key → Type 0) where
    -- a world that stands at the end of events has their text
    pub is_replayed : (wake own : WakeSet) (h g : Shape) (done events : List Event) (text : List ℕ) →
        g ≡ h →
        done ≡ events →
        own ≡ wake →
        IsRunUnder r (may_wake g own) (network_of g) done →
        has_ended g (net_after r g done) →
        IsText r has_ended kind bound is_branch found g done text →
        IsReplayed r has_ended kind bound is_branch found wake h events text
    is_replayed wake own h g done events text graph trace wakes run ended printed = record {
      run =
          subst (λ (s : Shape). IsRunUnder r (may_wake s wake) (network_of s) events) graph
          (subst (λ (es : List Event). IsRunUnder r (may_wake g wake) (network_of g) es) trace
          (subst (λ (w : WakeSet). IsRunUnder r (may_wake g w) (network_of g) done) wakes run));
      ended =
          subst (λ (s : Shape). has_ended s (net_after r s events)) graph
          (subst (λ (es : List Event). has_ended g (net_after r g es)) trace ended);
      printed = subst (λ (s : Shape). IsText r has_ended kind bound is_branch found s events text) graph
          (subst (λ (es : List Event). IsText r has_ended kind bound is_branch found g es text) trace printed);
    }

-- what holds at success holds of each value
pub each_by : {A E : Type 0} (r : Result A E) (H : Type 0) (P : A → Type 0) → OnOk r H → IfOk r (λ x. P x → H)
each_by (Ok x) H P h = λ p. h
each_by (Err e) H P h = tt
