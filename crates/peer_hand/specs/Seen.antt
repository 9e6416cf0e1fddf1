-- What a page is told of a world.
use Rattle.std.specs.Prelude.{◌≡◌, ◌↔◌, ℕ, Bool, false, IsTrue, List, ◌++◌, length}
use Rattle.std.specs.List.{flat_map}
use Rattle.ghs_graph.specs.Graph.{Shape}
use Rattle.peer_network.specs.declared.event.Event.{Event}
use Rattle.peer_machine.specs.Net.{Net}
use Rattle.peer_machine.specs.Rules.{Rules}
use Rattle.peer_net.specs.NetState.{net_of}
use Rattle.peer_runs.specs.WorldState.{WorldState, ready_events}
use Rattle.peer_view.specs.Data.{data_json}
use Rattle.peer_words.specs.Looks.{Looks}
use Rattle.peer_words.specs.Words.{Words}
use Rattle.peer_hand.specs.Choices.{choice_json, ended_json}

-- an event that may come next: its message isn't put back
abbrev pub offer_json : Event → List ℕ
offer_json e = choice_json e false

-- the data of the run so far, which opens at its end; a line for each event that may come next; and one more exactly where the
-- run has ended
pub record IsSeen {S M : Type 0} (r : Rules S M) (words : Words S M) (looks : Looks) (bound : Shape → ℕ) (has_ended : Shape → Net S M → Type 0)
    (w : WorldState) (text : List ℕ) : Type 0 where
  pub ended : Bool
  pub tells : IsTrue ended ↔ has_ended w.net.graph (net_of r w.net)
  pub told :
      text ≡ data_json r words looks bound w.net.graph (length w.net.trace) (length w.net.trace) w.net.trace
      ++ flat_map offer_json (ready_events r w) ++ ended_json ended
