-- What an exploration comes to.
use Rattle.std.proofs.Common.{◌≡◌, ℕ, ◌-◌, ◌<◌, ◌≤◌, List, None, Some, arith, length, ⊎_elim, subst, sym}
use Rattle.std.specs.Prelude.{IfOk, Result, Ok, Err, get_or, slice_get}
use Rattle.std.proofs.lemmas.Option.{slice_get_cases}
use Rattle.ghs_explore.specs.Ends.{AreEnds, EndsIn, RowsHaveRange}
use Rattle.ghs_explore.specs.Explored.{Exploration}
use Rattle.ghs_explore.specs.States.{HasStates}
use Rattle.ghs_explore.specs.Text.{IsExploredText}
use Rattle.ghs_explore.specs.declared.row.EndRow.{EndRow}
use Rattle.ghs_graph.specs.Graph.{IsGraph, Shape}
use Rattle.peer_network.specs.declared.event.Event.{Event}
use Rattle.peer_texts.specs.Text.{trace_text}
use Rattle.peer_network.specs.declared.wake_set.WakeSet.{WakeSet}
use Rattle.ghs_commands.specs.declared.exploring.ExploreOptions.{ExploreOptions}
use Rattle.ghs_cli.specs.Exploring.{AreEndsOf, IsRunOf}

-- what the runs of the options' wake set end with, printed
are_ends : (o : ExploreOptions) (g : Shape) (wake : WakeSet) (rows : List EndRow) (states : ℕ) (text : List ℕ) →
    wake ≡ o.wake →
    states ≤ o.limit →
    IsGraph g →
    RowsHaveRange →
    AreEnds g wake rows →
    HasStates g wake states →
    IsExploredText (record { graph = g; wake = wake; rows = rows; states = states }) text →
    AreEndsOf o g text
are_ends o g wake rows states text is few graph range ends reached printed = record {
  rows = rows;
  states = states;
  ends = subst (λ (w : WakeSet). AreEnds g w rows) is ends;
  range = range g o.wake rows graph (subst (λ (w : WakeSet). AreEnds g w rows) is ends);
  reached = subst (λ (w : WakeSet). HasStates g w states) is reached;
  few = few;
  printed = subst (λ (w : WakeSet). IsExploredText (record { graph = g; wake = w; rows = rows; states = states }) text) is printed;
}

-- the same of what was explored
pub ends_printed : {A E : Type 0} (r : Result A E) (text : A → List ℕ) (o : ExploreOptions) (g : Shape) (x : Exploration) →
    x.graph ≡ g →
    x.wake ≡ o.wake →
    x.states ≤ o.limit →
    IsGraph g →
    RowsHaveRange →
    AreEnds x.graph x.wake x.rows →
    HasStates x.graph x.wake x.states →
    IfOk r (λ y. IsExploredText x (text y)) →
    IfOk r (λ y. AreEndsOf o g (text y))
ends_printed (Err e) text o g x graph wake few is range ends reached printed = tt
ends_printed (Ok y) text o g x graph wake few is range ends reached printed =
    subst (λ (s : Shape). AreEndsOf o s (text y)) graph
    (are_ends o x.graph x.wake x.rows x.states (text y) wake few (subst IsGraph (sym graph) is) range ends reached printed)

-- an element at each place of a list
pub there : {X : Type 0} (xs : List X) (i : ℕ) → i < length xs → (x : X) × (slice_get xs i ≡ Some x)
there {X = X} xs i within =
    ⊎_elim
    (λ (found : (x : X) × (i < length xs) × (slice_get xs i ≡ Some x) × (get_or xs i x ≡ x)). (found.0, found.2))
    (λ (past : (length xs ≤ i) × (slice_get xs i ≡ None)). absurd (let over : length xs ≤ i = past.0 in omega arith))
    (slice_get_cases xs i).1

-- the run of the row that is asked for, printed
pub run_printed : (o : ExploreOptions) (g : Shape) (x : Exploration) (events : List Event) (text : List ℕ) →
    x.graph ≡ g →
    x.wake ≡ o.wake →
    1 ≤ o.end →
    o.end ≤ length x.rows →
    AreEnds x.graph x.wake x.rows →
    ((r : EndRow) → slice_get x.rows (o.end - 1) ≡ Some r → EndsIn x.graph x.wake r events) →
    text ≡ trace_text events →
    IsRunOf o g text
run_printed o g x events text graph wake first few ends run printed =
    let found = there x.rows (o.end - 1) (omega arith) in
    subst (λ (s : Shape). IsRunOf o s text) graph (record {
      rows = x.rows;
      ends = subst (λ (w : WakeSet). AreEnds x.graph w x.rows) wake ends;
      place = o.end - 1;
      asked = omega arith;
      row = found.0;
      there = found.1;
      events = events;
      run = subst (λ (w : WakeSet). EndsIn x.graph w found.0 events) wake (run found.0 found.1);
      printed = printed;
    })
