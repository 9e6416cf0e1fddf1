-- What the events of a run did.
use Rattle.std.specs.Prelude.{ℕ, List, [], ◌∷◌, ◌++◌, map}
use Rattle.ghs_graph.specs.Graph.{Shape}
use Rattle.peer_network.specs.declared.event.Event.{Event}
use Rattle.ghs_protocol.specs.Ledger.{of_kind}
use Rattle.peer_network.specs.Events.{event_node}
use Rattle.ghs_protocol.specs.Run.{net_after}
use Rattle.ghs_steps.specs.declared.sent.Sent.{Sent}
use Rattle.ghs_steps.specs.Step.{step}
use Rattle.ghs_steps.specs.Told.{Told}

-- a step, and the level of its node once it has reacted: that at which its messages go out
pub record Deed : Type 0 where
  pub step : Told
  pub level : ℕ

-- of an event that comes after these
abbrev pub deed : Shape → List Event → Event → Deed
deed g done e = record { step = step g done e; level = ((net_after g (done ++ e ∷ [])).node (event_node e)).head.level }

-- of the events that come after some
abbrev pub deeds_behind : Shape → List Event → List Event → List Deed
deeds_behind g done [] = []
deeds_behind g done (e ∷ es) = deed g done e ∷ deeds_behind g (done ++ e ∷ []) es

-- those of a run
abbrev pub deeds : Shape → List Event → List Deed
deeds g es = deeds_behind g [] es

-- how many messages of the kind at place k it sent; a message that was put back is none of them
abbrev pub sent_of : ℕ → Deed → ℕ
sent_of k d = of_kind k (map (λ (s : Sent). s.message) d.step.sends)
