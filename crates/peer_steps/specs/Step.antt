-- What each event of a run does.
use Rattle.std.specs.Prelude.{ℕ, ◌+◌, Option, Some, None, List, [], ◌∷◌, ◌++◌, length, map}
use Rattle.ghs_graph.specs.Graph.{Shape}
use Rattle.ghs_graph.specs.Ports.{ports_of}
use Rattle.peer_network.specs.declared.event.Event.{Event}
use Rattle.peer_network.specs.Network.{network_of, port_at}
use Rattle.peer_machine.specs.declared.work.Work.{Work}
use Rattle.peer_machine.specs.declared.work.Work.TheVariants.{Wake, Deliver}
use Rattle.peer_machine.specs.Rules.{Rules, Outcome, Outgoing}
use Rattle.peer_machine.specs.Net.{Net, event_node}
use Rattle.peer_machine.specs.Run.{net_after}
use Rattle.peer_machine.specs.Ledger.{in_all}
use Rattle.peer_net.specs.NetState.{is_deferred, work_at}
use Rattle.peer_words.specs.declared.value.Saying.{Saying}
use Rattle.peer_words.specs.Words.{Words}
use Rattle.peer_steps.specs.declared.change.Change.{Change}
use Rattle.peer_steps.specs.declared.moment.Moment.{Moment}
use Rattle.peer_steps.specs.declared.sent.Sent.{Sent}
use Rattle.peer_steps.specs.Changes.{changes}
use Rattle.peer_steps.specs.Told.{event_far}

-- the message that some work brings, in words
abbrev pub message_of : {S M : Type 0} → Words S M → Work M → Option Saying
message_of words Wake = None
message_of words (Deliver p m) = Some (words.says m)

-- what node v sends on a port, and the node and the port where it will wait
abbrev pub sent_by : {S M : Type 0} → Words S M → Shape → ℕ → ℕ × M → Sent
sent_by words g v s =
    let end = port_at (network_of g) v s.0 in record { port = s.0; to = end.far; at = end.far_port; message = words.says s.1 }

-- Each event of a run has a rule. Where there is none, nothing goes out.
abbrev pub sends_of : {S M : Type 0} → Option (Outcome S M) → Outgoing M
sends_of None = []
sends_of (Some o) = o.sends

-- Of an event that comes after these: when and how it happens, what differs at its node afterwards, what the node sends, and how many messages
-- were sent by then.
module _ {S M : Type 0} (r : Rules S M) (words : Words S M) (g : Shape) (done : List Event) (e : Event) where
  abbrev pub moment_of : Moment
  moment_of =
      let w = net_after r g done in
      let work = work_at w e in
      record {
        number = length done + 1;
        event = e;
        far = event_far g e;
        message = message_of words work;
        row = words.row (w.node (event_node e)) work;
        waits = is_deferred r w e;
      }

  abbrev pub changes_by : List Change
  changes_by =
      changes words ((net_after r g done).node (event_node e)) ((net_after r g (done ++ e ∷ [])).node (event_node e))
      (length (ports_of g.keys (event_node e)))

  abbrev pub sends_by : List Sent
  sends_by =
      let w = net_after r g done in
      map (sent_by words g (event_node e)) (sends_of (r.reaction (w.node (event_node e)) (work_at w e)))

  abbrev pub total_by : ℕ
  total_by = in_all r (net_after r g (done ++ e ∷ [])).sent
