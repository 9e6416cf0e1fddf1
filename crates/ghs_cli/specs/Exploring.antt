-- Explorations of all runs of a graph.
use Rattle.std.specs.Prelude.{◌≡◌, ℕ, suc, ◌<◌, ◌≤◌, List, length, Some, slice_get}
use Rattle.ghs_explore.specs.Ends.{AreEnds, EndsIn, IsRange, greatest_sum, least_sum}
use Rattle.ghs_explore.specs.Position.{IsSmall}
use Rattle.ghs_explore.specs.States.{HasMoreStates, HasStates}
use Rattle.ghs_explore.specs.Text.{IsExploredText}
use Rattle.ghs_explore.specs.declared.row.EndRow.{EndRow}
use Rattle.ghs_graph.specs.Graph.{Shape}
use Rattle.peer_network.specs.declared.event.Event.{Event}
use Rattle.peer_texts.specs.Text.{trace_text}
use Rattle.ghs_answers.specs.declared.fault.ServeFault.{ServeFault}
use Rattle.ghs_answers.specs.declared.fault.ServeFault.TheVariants as serve
use Rattle.ghs_commands.specs.declared.exploring.ExploreOptions.{ExploreOptions}
use Rattle.ghs_commands.specs.declared.exploring.Finding.{Finding}
use Rattle.ghs_commands.specs.declared.exploring.Finding.TheVariants.{Ends, Run}

-- the lines of all counts with which runs of the graph end, of the least and the greatest sum, and of the states
pub record AreEndsOf (o : ExploreOptions) (g : Shape) (output : List ℕ) : Type 0 where
  pub rows : List EndRow
  pub states : ℕ
  pub ends : AreEnds g o.wake rows
  pub range : IsRange g o.wake (least_sum rows) (greatest_sum rows)
  pub reached : HasStates g o.wake states
  pub few : states ≤ o.limit
  pub printed : IsExploredText (record { graph = g; wake = o.wake; rows = rows; states = states }) output

-- the trace of a run that ends with the counts of the row that is asked for, numbered from 1 on
pub record IsRunOf (o : ExploreOptions) (g : Shape) (output : List ℕ) : Type 0 where
  pub rows : List EndRow
  pub ends : AreEnds g o.wake rows
  pub place : ℕ
  pub asked : o.end ≡ suc place
  pub row : EndRow
  pub there : slice_get rows place ≡ Some row
  pub events : List Event
  pub run : EndsIn g o.wake row events
  pub printed : output ≡ trace_text events

-- what is found
abbrev pub IsFound : Finding → ExploreOptions → Shape → List ℕ → Type 0
IsFound Ends o g output = AreEndsOf o g output
IsFound Run o g output = IsRunOf o g output

-- runs end with the counts of so many rows, and one behind these is asked for
pub record IsBehind (o : ExploreOptions) (g : Shape) (ends : ℕ) : Type 0 where
  pub asked : o.finding ≡ Run
  pub rows : List EndRow
  pub are : AreEnds g o.wake rows
  pub count : ends ≡ length rows
  pub behind : ends < o.end

-- why nothing is: the graph is too large, its runs lead to more states than they may, or there is no such row; that the parts of
-- states have no numbers left, or memory runs out, may come anywhere
abbrev pub FindsNothing : ExploreOptions → Shape → ServeFault → Type 0
FindsNothing o g serve.TooLargeToExplore = IsSmall g → ⊥
FindsNothing o g (serve.StateLimit limit) = (limit ≡ o.limit) × HasMoreStates g o.wake o.limit
FindsNothing o g (serve.NoSuchEnd ends) = IsBehind o g ends
FindsNothing o g serve.PartLimit = Unit {0}
FindsNothing o g serve.Memory = Unit {0}
FindsNothing o g _ = ⊥
