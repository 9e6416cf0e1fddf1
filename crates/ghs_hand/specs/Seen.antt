-- What a page is told of a world.
use Rattle.std.specs.Prelude.{◌≡◌, ◌↔◌, ℕ, Bool, IsTrue, List, ◌++◌, length}
use Rattle.std.specs.List.{flat_map}
use Rattle.ghs_view.specs.Data.{data_json}
use Rattle.ghs_graph.specs.Bound.{IsBound}
use Rattle.ghs_patient.specs.Patience.{puts_back}
use Rattle.peer_network.specs.declared.event.Event.{Event}
use Rattle.peer_hand.specs.Choices.{choice_json, ended_json}
use Rattle.ghs_protocol.specs.Marks.{HasEnded}
use Rattle.ghs_protocol.specs.Net.{Net}
use Rattle.ghs_world.specs.Ready.{ready_events}
use Rattle.ghs_world.specs.WorldState.{WorldState, home}

-- an event that may come next, and whether it would only put its message back
abbrev pub may_json : Net → Event → List ℕ
may_json w e = choice_json e (puts_back w e)

-- the data of the run so far, which opens at its end
pub record IsSoFar (w : WorldState) (text : List ℕ) : Type 0 where
  pub bound : ℕ
  pub is_bound : IsBound w.net.graph.nodes (length w.net.graph.keys) bound
  pub told : text ≡ data_json w.net.graph bound (length w.net.trace) (length w.net.trace) w.net.trace

-- the data of the run so far, a line for each event that may come next, and one more exactly where the run has ended
pub record IsSeen (w : WorldState) (text : List ℕ) : Type 0 where
  pub run : List ℕ
  pub so_far : IsSoFar w run
  pub ended : Bool
  pub has_ended : IsTrue ended ↔ HasEnded w.net.graph (home w)
  pub told : text ≡ run ++ flat_map (may_json (home w)) (ready_events w) ++ ended_json ended
