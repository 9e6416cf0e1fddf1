-- What a world has run through that was opened and run on by the schedule of a seed.
use Rattle.std.proofs.Common.{◌≡◌, ◌∙◌, ◌<◌, ◌≤◌, ℕ, Bool, false, true, inl, length, List, [], Option, Result, Ok, Err, IfOk, refl, subst, sym}
use Rattle.ghs_graph.specs.Graph.{Shape}
use Rattle.peer_machine.specs.Rules.{Rules}
use Rattle.peer_machine.specs.Run.{IsRunUnder, net_after}
use Rattle.peer_network.specs.declared.event.Event.{Event}
use Rattle.peer_network.specs.Network.{network_of}
use Rattle.peer_network.specs.Wakes.{may_wake}
use Rattle.peer_network.specs.declared.wake_set.WakeSet.{WakeSet}
use Rattle.peer_net.specs.NetState.{NetState, net_of, network}
use Rattle.peer_report.specs.Account.{account_lines}
use Rattle.peer_runs.specs.Picks.{IsSeededRun}
use Rattle.peer_runs.specs.Runs.{HasRun, IsAtLimit, IsWhole}
use Rattle.peer_runs.specs.Lawful.{lawful_events}
use Rattle.peer_runs.specs.WorldState.{WorldState, ready_events, wakers}
use Rattle.peer_schedule.specs.Schedule.{seeded}
use Rattle.own_book.specs.Entry.{Entry}
use Rattle.own_rules.specs.Faults.{faults}
use Rattle.ghs_choices.specs.declared.check.Check.{Check}
use Rattle.own_rules.specs.Check.{IsChecked}
use Rattle.own_rules.specs.Run.{IsRunOf, IsTold, StandsSo}
use Rattle.own_rules.specs.Stops.{lacking, stops_in}
use Rattle.own_rules.specs.declared.node.Node.{Node}
use Rattle.own_rules.specs.declared.run.BookRun.{BookRun}

module _ {S M : Type 0} (r : Rules S M) (seed turns : ℕ) (g : Shape) (wake : WakeSet) (old new : WorldState) (words after : List ℕ)
    (graph : old.net.graph ≡ g) (woken : old.wake ≡ wake) (first : old.net.trace ≡ []) (is : words ≡ seeded seed)
    (ran : HasRun r turns old new words after) where
  -- the whole run from the opening on, by the graph, the wake set and the seed
  pub run_of : (es : List Event) → es ≡ new.net.trace → IsRunUnder r (wakers new) (network new.net) es → IsWhole r turns old new words after →
      IsRunOf r seed turns g wake es
  run_of es same run whole = record {
    run = subst (λ h. IsRunUnder r (may_wake h wake) (network_of h) es) (ran.graph ∙ graph)
        (subst (λ k. IsRunUnder r (may_wake new.net.graph k) (network_of new.net.graph) es) (ran.wake ∙ woken) run);
    words = after;
    whole =
        subst (λ xs. IsSeededRun r (may_wake g wake) g turns [] (seeded seed) xs after) (sym same)
        (subst (λ ws. IsSeededRun r (may_wake g wake) g turns [] ws new.net.trace after) is
        (subst (λ h. IsSeededRun r (may_wake h wake) h turns [] words new.net.trace after) graph
        (subst (λ k. IsSeededRun r (may_wake old.net.graph k) old.net.graph turns [] words new.net.trace after) woken
        (subst (λ ts. IsSeededRun r (wakers old) old.net.graph turns ts words new.net.trace after) first whole))));
  }

  -- where its turns are used nothing more is picked
  pub whole_at_limit : IsAtLimit r turns new → IsWhole r turns old new words after
  whole_at_limit limit = record { picked = ran.picked; over = inl limit.spent }

module _ {S M : Type 0} (r : Rules S M) (turns : ℕ) (g : Shape) (wake : WakeSet) (new : WorldState) (graph : new.net.graph ≡ g)
    (woken : new.wake ≡ wake) (es : List Event) (same : es ≡ new.net.trace) where
  -- what is ready in the world is lawful behind the events
  ready_here : ready_events r new ≡ lawful_events r (may_wake g wake) g es
  ready_here =
      subst (λ ts. ready_events r new ≡ lawful_events r (may_wake g wake) g ts) (sym same)
      (subst (λ h. ready_events r new ≡ lawful_events r (may_wake h wake) h new.net.trace) graph
      (subst (λ k. ready_events r new ≡ lawful_events r (may_wake new.net.graph k) new.net.graph new.net.trace) woken refl))

  pub stands_over : (at : Bool) → at ≡ false → ready_events r new ≡ [] → StandsSo r turns g wake es at
  stands_over at is over = subst (λ b. StandsSo r turns g wake es b) (sym is) (sym ready_here ∙ over)

  pub stands_at_limit : (at : Bool) → at ≡ true → IsAtLimit r turns new → StandsSo r turns g wake es at
  stands_at_limit at is limit =
      subst (λ b. StandsSo r turns g wake es b) (sym is)
      (subst (λ ts. turns ≤ length ts) (sym same) limit.spent, subst (λ xs. 0 < length xs) ready_here limit.ready)

-- the same of the same events
pub stands_so : {S M : Type 0} (r : Rules S M) (turns : ℕ) (g : Shape) (wake : WakeSet) (ts : List Event) (limit : Bool) (es : List Event)
    (at : Bool) →
    es ≡ ts → at ≡ limit → StandsSo r turns g wake ts limit → StandsSo r turns g wake es at
stands_so r turns g wake ts limit es at same is stands =
    subst (λ xs. StandsSo r turns g wake xs at) (sym same) (subst (λ b. StandsSo r turns g wake ts b) (sym is) stands)

-- what holds of a result by two clauses
pub both : {T E : Type 0} (x : Result T E) (P Q : T → Type 0) → IfOk x P → IfOk x Q → IfOk x (λ it. P it × Q it)
both (Ok it) P Q p q = (p, q)
both (Err e) P Q p q = tt

-- what is told of a world's run is told of these events of the graph
pub told_of_run : {M E : Type 0} (r : Rules Node M) (name : ℕ → List ℕ) (bound : Shape → ℕ) (book : List Entry)
    (check : Option Check) (h g : Shape) → h ≡ g → (x : Result BookRun E) → IfOk x (IsTold r name bound book check h) →
    IfOk x (IsTold r name bound book check g)
told_of_run r name bound book check h g same (Ok it) told = subst (λ k. IsTold r name bound book check k it) same told
told_of_run r name bound book check h g same (Err e) told = tt

-- what is told of a net is told of its graph and events
pub told_here : {M : Type 0} (r : Rules Node M) (name : ℕ → List ℕ) (bound : Shape → ℕ) (book : List Entry)
    (check : Option Check) (n : NetState) (ran : BookRun) → ran.events.items ≡ n.trace → ran.stops.items ≡ stops_in (net_of r n).node n.graph.nodes →
    ran.lacking.items ≡ lacking book n.graph ran.stops.items → ran.faults.items ≡ faults book n.graph ran.stops.items →
    ran.account.items ≡ account_lines r name bound n.graph (net_of r n) → IsChecked book n.graph (net_of r n).node check ran.wrong.items →
    IsTold r name bound book check n.graph ran
told_here r name bound book check n ran same stops lacking faults account wrong = record {
  stops = subst (λ ts. ran.stops.items ≡ stops_in (net_after r n.graph ts).node n.graph.nodes) (sym same) stops;
  lacking = lacking;
  faults = faults;
  account = subst (λ ts. ran.account.items ≡ account_lines r name bound n.graph (net_after r n.graph ts)) (sym same) account;
  wrong = subst (λ ts. IsChecked book n.graph (net_after r n.graph ts).node check ran.wrong.items) (sym same) wrong;
}
