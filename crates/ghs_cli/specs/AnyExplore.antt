-- Explorations of all runs of a graph by any protocol.
use Rattle.std.specs.Prelude.{◌≡◌, ℕ, suc, ◌<◌, ◌≤◌, List, length, Some, slice_get}
use Rattle.ghs_graph.specs.Graph.{Shape}
use Rattle.peer_explore.specs.Ends.{AreEnds, EndsIn, IsRange, greatest_sum, least_sum}
use Rattle.peer_explore.specs.States.{HasMoreStates, HasStates}
use Rattle.peer_explore.specs.declared.row.EndRow.{EndRow}
use Rattle.peer_machine.specs.Explorable.{IsSmall}
use Rattle.peer_machine.specs.Rules.{Rules}
use Rattle.peer_network.specs.declared.event.Event.{Event}
use Rattle.peer_report.specs.ExploredText.{IsExploredText}
use Rattle.peer_trace.specs.Text.{stored_text}
use Rattle.peer_trace.specs.declared.protocol.Protocol.{Protocol}
use Rattle.ghs_commands.specs.declared.exploring.ExploreOptions.{ExploreOptions}
use Rattle.ghs_commands.specs.declared.exploring.Finding.{Finding}
use Rattle.ghs_commands.specs.declared.exploring.Finding.TheVariants.{Ends, Run}
use Rattle.ghs_answers.specs.declared.fault.ServeFault.{ServeFault}
use Rattle.ghs_answers.specs.declared.fault.ServeFault.TheVariants as serve

-- the rules of a protocol
module _ {S M : Type 0} (r : Rules S M) where
  -- runs end with the counts of so many rows, and one behind these is asked for
  pub record IsBehind (o : ExploreOptions) (g : Shape) (ends : ℕ) : Type 0 where
    pub asked : o.finding ≡ Run
    pub rows : List EndRow
    pub are : AreEnds r g o.wake rows
    pub count : ends ≡ length rows
    pub behind : ends < o.end

  -- why nothing is found: the graph is too large, its runs lead to more states than they may, or there is no such row; that the parts
  -- of states have no numbers left, or memory runs out, may come anywhere
  abbrev pub FindsNothing : ExploreOptions → Shape → ServeFault → Type 0
  FindsNothing o g serve.TooLargeToExplore = IsSmall g → ⊥
  FindsNothing o g (serve.StateLimit limit) = (limit ≡ o.limit) × HasMoreStates r g o.wake o.limit
  FindsNothing o g (serve.NoSuchEnd ends) = IsBehind o g ends
  FindsNothing o g serve.PartLimit = Unit {0}
  FindsNothing o g serve.Memory = Unit {0}
  FindsNothing o g _ = ⊥

  -- the stored text of a run of the protocol that ends with the counts of the row that is asked for, numbered from 1 on
  pub record IsRunOf (p : Protocol) (o : ExploreOptions) (g : Shape) (output : List ℕ) : Type 0 where
    pub rows : List EndRow
    pub ends : AreEnds r g o.wake rows
    pub place : ℕ
    pub asked : o.end ≡ suc place
    pub row : EndRow
    pub there : slice_get rows place ≡ Some row
    pub events : List Event
    pub run : EndsIn r g o.wake row events
    pub printed : output ≡ stored_text p events

  -- the names of the kinds of messages, and the bound on them
  module _ (kind : ℕ → List ℕ) (bound : Shape → ℕ) where
    -- the lines of all counts with which runs of the graph end, of the least and the greatest sum, and of the states
    pub record AreEndsOf (o : ExploreOptions) (g : Shape) (output : List ℕ) : Type 0 where
      pub rows : List EndRow
      pub states : ℕ
      pub ends : AreEnds r g o.wake rows
      pub range : IsRange r g o.wake (least_sum rows) (greatest_sum rows)
      pub reached : HasStates r g o.wake states
      pub few : states ≤ o.limit
      pub printed : IsExploredText r.kinds kind bound g rows states output

    -- what is found
    abbrev pub IsFound : Protocol → Finding → ExploreOptions → Shape → List ℕ → Type 0
    IsFound p Ends o g output = AreEndsOf o g output
    IsFound p Run o g output = IsRunOf p o g output
