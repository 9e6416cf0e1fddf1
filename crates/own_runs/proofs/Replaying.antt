-- What has been played again, and what is told of it.
use Rattle.std.proofs.Common.{◌≡◌, ◌∙◌, ℕ, suc, Bool, ap, arith, length, nat_lt, List, [], ◌∷◌, Option, refl, subst}
use Rattle.std.proofs.lemmas.Bool.{lt-ltb}
use Rattle.ghs_choices.specs.declared.check.Check.{Check}
use Rattle.ghs_graph.specs.Graph.{Shape}
use Rattle.peer_machine.specs.Rules.{Rules}
use Rattle.peer_machine.specs.Run.{IsRunUnder}
use Rattle.peer_net.specs.NetState.{network}
use Rattle.peer_network.specs.declared.event.Event.{Event}
use Rattle.peer_network.specs.Network.{network_of}
use Rattle.peer_network.specs.Wakes.{may_wake}
use Rattle.peer_network.specs.declared.wake_set.WakeSet.{WakeSet}
use Rattle.peer_runs.specs.Lawful.{lawful_events}
use Rattle.peer_runs.specs.Replays.{HasReplayed}
use Rattle.peer_runs.specs.WorldState.{WorldState, ready_events, wakers}
use Rattle.own_book.specs.Entry.{Entry}
use Rattle.own_rules.specs.Run.{IsTold}
use Rattle.own_rules.specs.declared.node.Node.{Node}
use Rattle.own_rules.specs.declared.run.BookRun.{BookRun}
use Rattle.own_runs.specs.Again.{IsReplayOf, may_go_on}

module _ {S M : Type 0} (r : Rules S M) (g : Shape) (wake : WakeSet) (es : List Event) (s : WorldState) (is : HasReplayed g wake es s) where
  -- the run of a world that was replayed is that of the stored events
  replayed_run : IsRunUnder r (wakers s) (network s.net) s.net.trace → IsRunUnder r (may_wake g wake) (network_of g) es
  replayed_run run =
      subst (λ ts. IsRunUnder r (may_wake g wake) (network_of g) ts) is.trace
      (subst (λ h. IsRunUnder r (may_wake h wake) (network_of h) s.net.trace) is.graph
      (subst (λ k. IsRunUnder r (may_wake s.net.graph k) (network_of s.net.graph) s.net.trace) is.wake_set run))

  replayed_ready : ready_events r s ≡ lawful_events r (may_wake g wake) g es
  replayed_ready =
      subst (λ ts. ready_events r s ≡ lawful_events r (may_wake g wake) g ts) is.trace
      (subst (λ h. ready_events r s ≡ lawful_events r (may_wake h wake) h s.net.trace) is.graph
      (subst (λ k. ready_events r s ≡ lawful_events r (may_wake s.net.graph k) s.net.graph s.net.trace) is.wake_set refl))

  pub replay_of : (ran : BookRun) → ran.events.items ≡ s.net.trace → IsRunUnder r (wakers s) (network s.net) ran.events.items →
      ran.at_limit ≡ may_go_on (ready_events r s) → IsReplayOf r g wake es ran
  replay_of ran same run stands = record {
    run = replayed_run (subst (λ ts. IsRunUnder r (wakers s) (network s.net) ts) same run);
    same = same ∙ is.trace;
    stands = stands ∙ ap may_go_on replayed_ready;
  }

-- there is an event where they are more than none
pub some_events : (es : List Event) (b : Bool) → b ≡ nat_lt 0 (length es) → b ≡ may_go_on es
some_events [] b is = is
some_events (event ∷ es) b is = is ∙ lt-ltb 0 (suc (length es)) (omega arith)

-- what is told of the world is told of the graph
pub told_again : {M : Type 0} (r : Rules Node M) (name : ℕ → List ℕ) (bound : Shape → ℕ)
    (book : List Entry) (check : Option Check) (g : Shape) (wake : WakeSet) (es : List Event) (s : WorldState) → HasReplayed g wake es s →
    (ran : BookRun) →
    IsTold r name bound book check s.net.graph ran → IsTold r name bound book check g ran
told_again r name bound book check g wake es s is ran told = subst (λ h. IsTold r name bound book check h ran) is.graph told
