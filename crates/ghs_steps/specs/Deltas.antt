-- The states of a run from what its lines say, without a rule of the protocol.
use Rattle.std.specs.Prelude.{◌≡◌, ℕ, true, List, [], ◌∷◌, ◌++◌, Option, None, Some, slice_set}
use Rattle.ghs_graph.specs.Graph.{Shape}
use Rattle.ghs_node.specs.declared.delta.Fate.{Fate}
use Rattle.ghs_node.specs.declared.message.Message.{Message}
use Rattle.ghs_node.specs.NodeState.{NodeState}
use Rattle.peer_network.specs.declared.event.Event.{Event}
use Rattle.ghs_protocol.specs.Net.{Net, left_of}
use Rattle.peer_network.specs.Events.{event_node}
use Rattle.peer_network.specs.Updates.{put, put_at}
use Rattle.peer_network.specs.Network.{network_of}
use Rattle.ghs_protocol.specs.Run.{IsRun, net_after}
use Rattle.ghs_steps.specs.declared.change.Change.{Change}
use Rattle.ghs_steps.specs.declared.change.Change.TheVariants as change
use Rattle.ghs_steps.specs.declared.sent.Sent.{Sent}
use Rattle.ghs_steps.specs.Step.{steps_behind}
use Rattle.peer_steps.specs.Told.{event_port}
use Rattle.ghs_steps.specs.Told.{Told}

-- the state of each node, and the messages that wait at each port
pub record State : Type 0 where
  pub node : ℕ → NodeState
  pub queue : ℕ → ℕ → List Message

abbrev pub state_of : Net → State
state_of w = record { node = w.node; queue = w.queue }

-- a mark or a variable has its new value
abbrev pub with_change : NodeState → Change → NodeState
with_change n (change.Mark p m) = record n { marks = slice_set n.marks p m }
with_change n (change.Level l) = record n { head = record n.head { level = l } }
with_change n (change.Name f) = record n { head = record n.head { name = f } }
with_change n (change.Phase s) = record n { head = record n.head { phase = s } }
with_change n (change.FindCount c) = record n { head = record n.head { find_count = c } }
with_change n (change.InBranch p) = record n { head = record n.head { in_branch = p } }
with_change n (change.Best b) = record n { head = record n.head { best = b } }
with_change n (change.Probe p) = record n { head = record n.head { probe = p } }
with_change n change.Halted = record n { head = record n.head { halted = true } }

abbrev pub with_changes : NodeState → List Change → NodeState
with_changes n [] = n
with_changes n (c ∷ cs) = with_changes (with_change n c) cs

-- the first message is taken from a queue; where it waits, it is put at the end
abbrev pub taken : Fate → List Message → List Message
taken f [] = []
taken f (m ∷ ms) = left_of f m ms

abbrev pub take_at : ℕ → Option ℕ → Fate → State → State
take_at v None f s = s
take_at v (Some p) f s = record s { queue = put_at s.queue v p (taken f (s.queue v p)) }

abbrev pub change_at : ℕ → List Change → State → State
change_at v cs s = record s { node = put s.node v (with_changes (s.node v) cs) }

-- each message that was sent is put at the end of its queue
abbrev pub arrive : State → List Sent → State
arrive s [] = s
arrive s (m ∷ ms) = arrive (record s { queue = put_at s.queue m.to m.at (s.queue m.to m.at ++ m.message ∷ []) }) ms

-- the state after a step, from the state before it and from what the step's line says
abbrev pub apply_step : State → Told → State
apply_step s t =
    let v = event_node t.moment.event in
    arrive (change_at v t.changes (take_at v (event_port t.moment.event) t.moment.fate s)) t.sends

abbrev pub apply_steps : State → List Told → State
apply_steps s [] = s
apply_steps s (t ∷ ts) = apply_steps (apply_step s t) ts

-- From any moment of a run on, the steps lead to the net after it. At the first moment all nodes sleep and no message waits.
abbrev pub DeltasSuffice : Shape → List Event → List Event → Type 0
DeltasSuffice g done es =
    IsRun (network_of g) (done ++ es) →
    apply_steps (state_of (net_after g done)) (steps_behind g done es) ≡ state_of (net_after g (done ++ es))
