-- What each event of a trace does.
use Rattle.std.specs.Prelude.{◌+◌, List, [], ◌∷◌, ◌++◌, length, filter, map, unwrap_or}
use Rattle.ghs_graph.specs.Graph.{Shape}
use Rattle.ghs_node.specs.declared.delta.Delta.{Delta}
use Rattle.ghs_node.specs.declared.work.Work.{Work}
use Rattle.ghs_node.specs.NodeState.{NodeState}
use Rattle.ghs_node.specs.Reaction.{reaction, requeues}
use Rattle.ghs_node.specs.RowName.{row_name}
use Rattle.peer_network.specs.declared.event.Event.{Event}
use Rattle.peer_network.specs.Events.{event_node}
use Rattle.ghs_protocol.specs.Ledger.{in_all}
use Rattle.ghs_protocol.specs.Run.{net_after}
use Rattle.ghs_core.specs.NetState.{work_at}
use Rattle.ghs_choices.specs.declared.choice.Choice.{Choice}
use Rattle.ghs_steps.specs.Changes.{changes}
use Rattle.ghs_choices.specs.Choice.{is_chosen}
use Rattle.peer_steps.specs.Told.{event_far}
use Rattle.ghs_steps.specs.Told.{Told, sent_by}

-- Each event of a run has a rule. Where there is none, this stands in for what the node does.
abbrev pub delta_of : NodeState → Work → Delta
delta_of n k = unwrap_or (reaction n k) (requeues n.head)

-- the step of an event that comes after these
abbrev pub step : Shape → List Event → Event → Told
step g done e =
    let w = net_after g done in
    let n = w.node (event_node e) in
    let k = work_at w e in
    let d = delta_of n k in
    record {
      moment = record {
        number = length done + 1;
        event = e;
        far = event_far g e;
        work = k;
        row = row_name n k;
        fate = d.fate;
        total = in_all (net_after g (done ++ e ∷ [])).sent;
      };
      changes = changes n d;
      sends = map (sent_by g (event_node e)) d.sends;
    }

-- the steps of the events that come after some
abbrev pub steps_behind : Shape → List Event → List Event → List Told
steps_behind g done [] = []
steps_behind g done (e ∷ es) = step g done e ∷ steps_behind g (done ++ e ∷ []) es

-- the steps of a trace
abbrev pub steps : Shape → List Event → List Told
steps g es = steps_behind g [] es

-- those that are chosen
abbrev pub chosen : Choice → List Told → List Told
chosen c ts = filter (λ (t : Told). is_chosen c t.moment.number (event_node t.moment.event)) ts
