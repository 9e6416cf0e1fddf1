-- All runs of a graph, as a page is told of them.
use Rattle.std.specs.Prelude.{◌≡◌, ◌⊎◌, ℕ, ◌≤◌, List, [], ◌∷◌, ◌++◌}
use Rattle.ghs_graph.specs.Graph.{Shape}
use Rattle.peer_network.specs.declared.event.Event.{Event}
use Rattle.peer_network.specs.declared.wake_set.WakeSet.{WakeSet}
use Rattle.peer_machine.specs.Explorable.{IsSmall}
use Rattle.peer_machine.specs.Rules.{Rules}
use Rattle.peer_explore.specs.Ends as any
use Rattle.peer_explore.specs.States as any_states
use Rattle.peer_explore.specs.declared.row.EndRow as any_row
use Rattle.peer_report.specs.ExploredText as any_text
use Rattle.ghs_explore.specs.Ends as ghs
use Rattle.ghs_explore.specs.States as ghs_states
use Rattle.ghs_explore.specs.declared.row.EndRow as ghs_row
use Rattle.ghs_explore.specs.Text as ghs_text
use Rattle.peer_trace.specs.Text.{stored_text}
use Rattle.peer_trace.specs.declared.protocol.Protocol.{Protocol}
use Rattle.peer_trace.specs.declared.protocol.Protocol.TheVariants as protocol
use Rattle.boruvka.specs.Words.{words}
use Rattle.boruvka_node.specs.Boruvka.{boruvka}
use Rattle.boruvka_protocol.specs.Bound.{bound_of}
use Rattle.echo.specs.Echo as wave
use Rattle.echo.specs.Words as wave_words
use Rattle.gather.specs.Words as gathering
use Rattle.gather_node.specs.Gather.{gather}
use Rattle.gather_protocol.specs.Bound as gather_bound
use Rattle.peer_hand.specs.Texts.{HasNoGraph, IsTextOf}
use Rattle.peer_hand.specs.Words.{fault_json}
use Rattle.peer_hand.specs.declared.fault.HandFault.{HandFault}
use Rattle.ghs_outcomes.specs.Limit.{at_least_1}
use Rattle.ghs_outcomes.specs.Words.{no_numbers_json, too_large_json, too_many_json}

-- what it is, by a protocol, that rows say how runs end, that their first and last have the least and the greatest sum, that a run
-- ends as a row says, and that so many states can be reached, or more than so many; the text of all this, and that of a stored run
pub record Explores : Type 1 where
  pub Row : Type 0
  pub are_ends : Shape → WakeSet → List Row → Type 0
  pub have_range : Shape → WakeSet → List Row → Type 0
  pub ends_in : Shape → WakeSet → Row → List Event → Type 0
  pub has_states : Shape → WakeSet → ℕ → Type 0
  pub has_more_states : Shape → WakeSet → ℕ → Type 0
  pub is_text : Shape → WakeSet → List Row → ℕ → List ℕ → Type 0
  pub stored : List Event → List ℕ

abbrev pub by_ghs : Explores
by_ghs = record {
  Row = ghs_row.EndRow;
  are_ends = ghs.AreEnds;
  have_range = λ g wake rows. ghs.IsRange g wake (ghs.least_sum rows) (ghs.greatest_sum rows);
  ends_in = ghs.EndsIn;
  has_states = ghs_states.HasStates;
  has_more_states = ghs_states.HasMoreStates;
  is_text = λ g wake rows states. ghs_text.IsExploredText (record { graph = g; wake = wake; rows = rows; states = states });
  stored = stored_text protocol.Ghs;
}

-- by rules with names of kinds and a bound on messages, and the name that stored runs have
module _ {S M : Type 0} (r : Rules S M) (kind : ℕ → List ℕ) (bound : Shape → ℕ) (p : Protocol) where
  abbrev pub by_any : Explores
  by_any = record {
    Row = any_row.EndRow;
    are_ends = any.AreEnds r;
    have_range = λ g wake rows. any.IsRange r g wake (any.least_sum rows) (any.greatest_sum rows);
    ends_in = any.EndsIn r;
    has_states = any_states.HasStates r;
    has_more_states = any_states.HasMoreStates r;
    is_text = λ g wake rows states. any_text.IsExploredText r.kinds kind bound g rows states;
    stored = stored_text p;
  }

-- a further protocol has a line here
abbrev pub explores_by : Protocol → Explores
explores_by protocol.Ghs = by_ghs
explores_by protocol.Boruvka = by_any boruvka words.kind bound_of protocol.Boruvka
explores_by protocol.Echo = by_any wave.echo wave_words.words.kind wave.bound_of protocol.Echo
explores_by protocol.Gather = by_any gather gathering.words.kind gather_bound.bound_of protocol.Gather

module _ (x : Explores) (g : Shape) (wake : WakeSet) where
  -- the texts of runs, one that ends as each row says, in order
  pub data AreRunsOf : List x.Row → List ℕ → Type 0 where
    No_runs : AreRunsOf [] []
    More : (rows : List x.Row) (text : List ℕ) (r : x.Row) (es : List Event) → AreRunsOf rows text → x.ends_in g wake r es →
        AreRunsOf (rows ++ r ∷ []) (text ++ x.stored es)

  -- they stand behind some text
  abbrev pub HasRunsBehind : List x.Row → List ℕ → List ℕ → Type 0
  HasRunsBehind rows old new = (runs : List ℕ) × AreRunsOf rows runs × (new ≡ old ++ runs)

  -- with which counts runs end, the least and the greatest sum, and how many states there are, no more than the limit; and behind
  -- that a run of each row
  pub record AreOutcomes (limit : ℕ) (text : List ℕ) : Type 0 where
    pub rows : List x.Row
    pub states : ℕ
    pub ends : x.are_ends g wake rows
    pub range : x.have_range g wake rows
    pub reached : x.has_states g wake states
    pub few : states ≤ limit
    pub printed : List ℕ
    pub is_text : x.is_text g wake rows states printed
    pub told : HasRunsBehind rows printed text

  -- what is told of all runs of a graph
  pub data IsTold (limit : ℕ) (text : List ℕ) : Type 0 where
    Outcomes : IsSmall g → AreOutcomes limit text → IsTold limit text
    Too_large : (IsSmall g → ⊥) → text ≡ too_large_json → IsTold limit text
    Too_many : IsSmall g → x.has_more_states g wake limit → text ≡ too_many_json limit → IsTold limit text
    No_numbers : IsSmall g → text ≡ no_numbers_json → IsTold limit text

-- that of the graph of a text, or the fault for which there is none
abbrev pub IsOutcomesAnswer : Protocol → WakeSet → ℕ → List ℕ → List ℕ → Type 0
IsOutcomesAnswer p wake limit graph text =
    ((g : Shape) × IsTextOf graph g × IsTold (explores_by p) g wake (at_least_1 limit) text)
    ⊎ ((fault : HandFault) × HasNoGraph graph fault × (text ≡ fault_json fault))
