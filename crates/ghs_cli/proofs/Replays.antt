-- Stored runs by GHS, played again.
use Rattle.std.proofs.Common.{◌≡◌, ℕ, List, subst}
use Rattle.ghs_graph.specs.Graph.{Shape}
use Rattle.ghs_protocol.specs.Marks.{HasEnded}
use Rattle.ghs_protocol.specs.Run.{IsRunUnder, net_after}
use Rattle.ghs_report.specs.ReportText.{IsReportText}
use Rattle.peer_network.specs.Network.{network_of}
use Rattle.peer_network.specs.Wakes.{may_wake}
use Rattle.peer_network.specs.declared.event.Event.{Event}
use Rattle.peer_network.specs.declared.wake_set.WakeSet.{WakeSet}
use Rattle.ghs_answers.specs.declared.fault.ServeFault.{ServeFault}
use Rattle.ghs_answers.specs.declared.fault.ServeFault.TheVariants as serve
use Rattle.ghs_cli.specs.Running.{GoesOn, IsReplayed, IsRunCause}

-- a world that stands at the end of events has their text
pub is_replayed : (wake own : WakeSet) (h g : Shape) (done events : List Event) (text : List ℕ) →
    g ≡ h →
    done ≡ events →
    own ≡ wake →
    IsRunUnder (may_wake g own) (network_of g) done →
    HasEnded g (net_after g done) →
    IsReportText g (net_after g done) text →
    IsReplayed wake h events text
is_replayed wake own h g done events text graph trace wakes run ended printed = record {
  run =
      subst (λ (s : Shape). IsRunUnder (may_wake s wake) (network_of s) events) graph
      (subst (λ (es : List Event). IsRunUnder (may_wake g wake) (network_of g) es) trace
      (subst (λ (w : WakeSet). IsRunUnder (may_wake g w) (network_of g) done) wakes run));
  ended = subst (λ (s : Shape). HasEnded s (net_after s events)) graph (subst (λ (es : List Event). HasEnded g (net_after g es)) trace ended);
  printed = subst (λ (s : Shape). IsReportText s (net_after s events) text) graph
      (subst (λ (es : List Event). IsReportText g (net_after g es) text) trace printed);
}

-- a world whose run goes on gives its fault
pub goes_on : (wake own : WakeSet) (h g : Shape) (done events : List Event) (fault : ServeFault) →
    g ≡ h →
    done ≡ events →
    own ≡ wake →
    IsRunUnder (may_wake g own) (network_of g) done →
    GoesOn g (net_after g done) fault →
    IsRunCause wake h events fault
goes_on wake own h g done events serve.NotEnded graph trace wakes run goes = (
  subst (λ (s : Shape). IsRunUnder (may_wake s wake) (network_of s) events) graph
      (subst (λ (es : List Event). IsRunUnder (may_wake g wake) (network_of g) es) trace
      (subst (λ (w : WakeSet). IsRunUnder (may_wake g w) (network_of g) done) wakes run)),
  subst (λ (s : Shape). HasEnded s (net_after s events) → ⊥) graph (subst (λ (es : List Event). HasEnded g (net_after g es) → ⊥) trace goes),
)
goes_on wake own h g done events serve.Memory graph trace wakes run goes = tt
goes_on wake own h g done events fault graph trace wakes run goes = absurd goes
