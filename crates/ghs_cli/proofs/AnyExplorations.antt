-- What an exploration by any protocol comes to.
use Rattle.std.proofs.Common.{◌≡◌, ℕ, ◌-◌, ◌≤◌, List, Some, arith, length, subst, sym}
use Rattle.std.specs.Prelude.{IfOk, Result, Ok, Err, slice_get}
use Rattle.peer_explore.specs.Ends.{AreEnds, EndsIn, RowsHaveRange}
use Rattle.peer_explore.specs.Explored.{Exploration}
use Rattle.peer_explore.specs.States.{HasStates}
use Rattle.peer_explore.specs.declared.row.EndRow.{EndRow}
use Rattle.ghs_graph.specs.Graph.{IsGraph, Shape}
use Rattle.peer_machine.specs.Rules.{Rules}
use Rattle.peer_network.specs.declared.event.Event.{Event}
use Rattle.peer_network.specs.declared.wake_set.WakeSet.{WakeSet}
use Rattle.ghs_commands.specs.declared.exploring.ExploreOptions.{ExploreOptions}
use Rattle.peer_report.specs.ExploredText.{IsExploredText}
use Rattle.peer_trace.specs.Text.{stored_text}
use Rattle.peer_trace.specs.declared.protocol.Protocol.{Protocol}
use Rattle.ghs_cli.specs.AnyExplore.{AreEndsOf, IsRunOf}
use Rattle.ghs_cli.proofs.Explorations.{there}

module _ {S M : Type 0} (r : Rules S M) where
  -- the run of the row that is asked for, printed
  pub run_printed : (p : Protocol) (o : ExploreOptions) (g : Shape) (x : Exploration) (events : List Event) (text : List ℕ) →
      x.graph ≡ g →
      x.wake ≡ o.wake →
      1 ≤ o.end →
      o.end ≤ length x.rows →
      AreEnds r x.graph x.wake x.rows →
      ((row : EndRow) → slice_get x.rows (o.end - 1) ≡ Some row → EndsIn r x.graph x.wake row events) →
      text ≡ stored_text p events →
      IsRunOf r p o g text
  run_printed p o g x events text graph wake first few ends run printed =
      let found = there x.rows (o.end - 1) (omega arith) in
      subst (λ (s : Shape). IsRunOf r p o s text) graph (record {
        rows = x.rows;
        ends = subst (λ (w : WakeSet). AreEnds r x.graph w x.rows) wake ends;
        place = o.end - 1;
        asked = omega arith;
        row = found.0;
        there = found.1;
        events = events;
        run = subst (λ (w : WakeSet). EndsIn r x.graph w found.0 events) wake (run found.0 found.1);
        printed = printed;
      })

  module _ (kind : ℕ → List ℕ) (bound : Shape → ℕ) where
    -- what the runs of the options' wake set end with, printed
    are_ends : (o : ExploreOptions) (g : Shape) (wake : WakeSet) (rows : List EndRow) (states : ℕ) (text : List ℕ) → wake ≡ o.wake →
        states ≤ o.limit →
        IsGraph g →
        RowsHaveRange r →
        AreEnds r g wake rows →
        HasStates r g wake states →
        IsExploredText r.kinds kind bound g rows states text →
        AreEndsOf r kind bound o g text
    are_ends o g wake rows states text is few graph range ends reached printed = record {
      rows = rows;
      states = states;
      ends = subst (λ (w : WakeSet). AreEnds r g w rows) is ends;
      range = range g o.wake rows graph (subst (λ (w : WakeSet). AreEnds r g w rows) is ends);
      reached = subst (λ (w : WakeSet). HasStates r g w states) is reached;
      few = few;
      printed = printed;
    }

    -- the same of what was explored
    pub ends_printed : {A E : Type 0} (result : Result A E) (text : A → List ℕ) (o : ExploreOptions) (g : Shape) (x : Exploration) →
        x.graph ≡ g →
        x.wake ≡ o.wake →
        x.states ≤ o.limit →
        IsGraph g →
        RowsHaveRange r →
        AreEnds r x.graph x.wake x.rows →
        HasStates r x.graph x.wake x.states →
        IfOk result (λ y. IsExploredText r.kinds kind bound x.graph x.rows x.states (text y)) →
        IfOk result (λ y. AreEndsOf r kind bound o g (text y))
    ends_printed (Err e) text o g x graph wake few is range ends reached printed = tt
    ends_printed (Ok y) text o g x graph wake few is range ends reached printed =
        subst (λ (s : Shape). AreEndsOf r kind bound o s (text y)) graph
        (are_ends o x.graph x.wake x.rows x.states (text y) wake few (subst IsGraph (sym graph) is) range ends reached printed)
