-- What a page of a run comes to.
use Rattle.std.proofs.Common.{◌≡◌, ℕ, List, inl, inr, subst}
use Rattle.std.specs.Prelude.{IfErr, Result, Err}
use Rattle.ghs_graph.specs.Graph.{Shape}
use Rattle.peer_machine.specs.Net.{Net}
use Rattle.peer_machine.specs.Rules.{Rules}
use Rattle.peer_machine.specs.Run.{IsRun}
use Rattle.peer_network.specs.Network.{network_of}
use Rattle.peer_network.specs.declared.event.Event.{Event}
use Rattle.peer_report.specs.Runs.{IsRunThatEnds}
use Rattle.peer_view.specs.PairPage.{IsPairPage}
use Rattle.peer_words.specs.Looks.{Looks}
use Rattle.peer_words.specs.Words.{Words}
use Rattle.peer_report.specs.declared.run.RunEnd.{RunEnd}
use Rattle.peer_report.specs.declared.run.RunEnd.TheVariants.{Ended, Stopped}
use Rattle.ghs_answers.specs.declared.fault.ServeFault.{ServeFault}
use Rattle.ghs_answers.specs.declared.fault.ServeFault.TheVariants as serve
use Rattle.ghs_commands.specs.declared.job.ViewOptions.{ViewOptions}
use Rattle.ghs_cli.specs.AnyView.{HasNoView, IsShownBy}
use Rattle.ghs_cli.specs.Viewing.{HasNoPairView}

-- lack of memory is why there is no page of two runs
pub no_pair_for_memory : {A : Type 0} (r : Result A ServeFault) (fault : ServeFault) (o : ViewOptions) (beside : ℕ) (g : Shape) →
    r ≡ Err fault →
    fault ≡ serve.Memory →
    IfErr r (HasNoPairView o beside g)
no_pair_for_memory r fault o beside g is memory = rw (is, memory) tt

-- nor by any protocol
pub no_view_for_memory : {S M A : Type 0} (r : Rules S M) (has_ended : Shape → Net S M → Type 0) (x : Result A ServeFault) (fault : ServeFault)
    (o : ViewOptions) (g : Shape) → x ≡ Err fault → fault ≡ serve.Memory → IfErr x (HasNoView r has_ended o g)
no_view_for_memory r has_ended x fault o g is memory = rw (is, memory) tt

-- a run by any protocol is shown, however it has come to stand
module _ {S M : Type 0} (r : Rules S M) (has_ended : Shape → Net S M → Type 0) where
  pub shown_run : (seed : ℕ) (o : ViewOptions) (g : Shape) (events : List Event) (end : RunEnd) →
      IsRunThatEnds r has_ended o.schedule_kind seed o.wake o.turns g events end →
      IsShownBy r has_ended seed o g events
  shown_run seed o g events Ended run = inl run
  shown_run seed o g events Stopped run = inr run

-- a run of a graph is one of the same graph
pub run_of_same : {S M : Type 0} (r : Rules S M) (g h : Shape) (es fs : List Event) → g ≡ h → es ≡ fs → IsRun r (network_of h) fs →
    IsRun r (network_of g) es
run_of_same r g h es fs e f run = rw (e, f) run

-- nor does a page of two runs change with what names its graph and its events
module _ {S M : Type 0} (r : Rules S M) (words : Words S M) (looks : Looks) (bound : Shape → ℕ) (from to : ℕ) (text : List ℕ) where
  abbrev IsPage : Shape → List Event → List Event → Type 0
  IsPage g first second = IsPairPage r words looks bound g first second from to text

  pub same_page : (g h : Shape) (a b c d : List Event) → g ≡ h → a ≡ b → c ≡ d → IsPage g a c → IsPage h b d
  same_page g h a b c d e f i page = subst (λ s. IsPage s b d) e (subst (λ es. IsPage g es d) f (subst (λ es. IsPage g a es) i page))
