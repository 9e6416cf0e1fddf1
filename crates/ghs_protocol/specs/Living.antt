-- What is always under way, and that no run is ever stuck.
use Rattle.std.specs.Prelude.{◌≡◌, ◌≢◌, ◌↔◌, ℕ, suc, ◌<◌, ◌≤◌, ◌+◌, ◌*◌, Bool, true, false, ◌&&◌, Option, Some, List, [], ◌∷◌, ◌++◌, length, unwrap_or}
use Rattle.std.specs.List.{All, Contains}
use Rattle.ghs_graph.specs.declared.key.Key.{Key}
use Rattle.ghs_graph.specs.Graph.{Shape, IsGraph}
use Rattle.ghs_graph.specs.Bound.{IsBound}
use Rattle.ghs_node.specs.declared.mark.Mark.TheVariants.{Basic}
use Rattle.ghs_node.specs.declared.message.Phase.TheVariants.{Sleeping, Find}
use Rattle.ghs_node.specs.declared.message.Message.{Message}
use Rattle.ghs_node.specs.declared.message.Message.TheVariants.{Connect, Test, Report}
use Rattle.ghs_node.specs.Words.{is_zero, is_missing}
use Rattle.ghs_node.specs.NodeState.{NodeState, mark_at, degree}
use Rattle.peer_network.specs.declared.event.Event.{Event}
use Rattle.peer_network.specs.declared.event.Event.TheVariants.{Wake, Take}
use Rattle.peer_network.specs.Network.{Network, network_of, far, At, InNetwork}
use Rattle.ghs_protocol.specs.Net.{Net, happens}
use Rattle.ghs_protocol.specs.Run.{run, IsAfter}
use Rattle.ghs_protocol.specs.Ledger.{in_all}
use Rattle.ghs_protocol.specs.Steps.{Happens}
use Rattle.ghs_node.specs.declared.delta.Fate.TheVariants.{Requeued}
use Rattle.ghs_node.specs.declared.delta.Delta.{Delta}
use Rattle.ghs_node.specs.declared.work.Work.TheVariants.{Deliver}
use Rattle.ghs_node.specs.Reaction.{reaction}
use Rattle.ghs_protocol.specs.Marks.{HasHalted, Leads, IsBranchLink, IsJoinedLink}
use Rattle.ghs_protocol.specs.Laws.{IsNetOf}
use Rattle.ghs_graph.specs.Links.{Joined, links, InTree}

-- a message at port p that the node, being awake, would put back
pub data Waits (n : NodeState) (p : ℕ) : Message → Type 0 where
  Connect_waits : {l : ℕ} → n.head.phase ≢ Sleeping → n.head.level ≤ l → mark_at n p ≡ Basic → Waits n p (Connect l)
  Test_waits : {l : ℕ} {f : Key} → n.head.phase ≢ Sleeping → n.head.level < l → Waits n p (Test l f)
  Report_waits : {k : Option Key} → n.head.in_branch ≡ Some p → n.head.phase ≡ Find → Waits n p (Report k)

-- a set of nodes that no link leaves, in which one is awake and none has halted
pub record Unended (g : Network) (w : Net) (S : ℕ → Bool) : Type 0 where
  pub closed : (v p : ℕ) → At g v p → S v ≡ true → S (far g v p) ≡ true
  pub node : ℕ
  pub is : InNetwork g node
  pub member : S node ≡ true
  pub awake : (w.node node).head.phase ≢ Sleeping
  pub none_halted : (v : ℕ) → InNetwork g v → S v ≡ true → HasHalted w v → ⊥

-- a queue in the set holds a message that doesn't wait, behind one that waits at most
pub record GoesOn (g : Network) (w : Net) (S : ℕ → Bool) : Type 0 where
  pub node : ℕ
  pub port : ℕ
  pub at : At g node port
  pub member : S node ≡ true
  pub before : List Message
  pub message : Message
  pub behind : List Message
  pub queue : w.queue node port ≡ before ++ message ∷ behind
  pub waiting : All (Waits (w.node node) port) before
  pub few : length before ≤ 1
  pub goes : Waits (w.node node) port message → ⊥

-- where none of the set has halted a message waits in it: nothing under way means that a core node has halted
abbrev pub SilenceIsEnd : Type 0
SilenceIsEnd =
    (g : Shape) (w : Net) → IsNetOf g w →
    (S : ℕ → Bool) → Unended (network_of g) w S →
    (v p : ℕ) × At (network_of g) v p × (S v ≡ true) × (w.queue v p ≢ [])

-- and one that doesn't wait can be had by two Takes at most: no run is ever stuck
abbrev pub NoRunIsStuck : Type 0
NoRunIsStuck = (g : Shape) (w : Net) → IsNetOf g w → (S : ℕ → Bool) → Unended (network_of g) w S → GoesOn (network_of g) w S

-- the first two messages of a queue don't both wait
abbrev pub OneWaits : Type 0
OneWaits =
    (g : Shape) (w : Net) → IsNetOf g w →
    (v p : ℕ) → At (network_of g) v p →
    (m n : Message) (ms : List Message) → w.queue v p ≡ m ∷ n ∷ ms →
    Waits (w.node v) p m → Waits (w.node v) p n → ⊥

-- the event takes a message
abbrev pub IsTake : Event → Type 0
IsTake (Wake v) = ⊥
IsTake (Take v p) = Unit {0}

-- a link is there
abbrev pub AnyLink : ℕ → ℕ → Type 0
AnyLink v p = Unit {0}

-- events that bring each woken component to its end, at most b of them
pub record Finish (g : Network) (w : Net) (b : ℕ) : Type 0 where
  pub events : List Event
  pub takes : All IsTake events
  pub few : length events ≤ b
  pub end_net : Net
  pub run : run g events w ≡ Some end_net
  pub ended : (v : ℕ) → InNetwork g v → (end_net.node v).head.phase ≢ Sleeping → (u : ℕ) × Leads g AnyLink v u × HasHalted end_net u

-- each run can be brought to its end, by twice as many Takes as the bound on messages and the nodes together
abbrev pub EveryRunCanEnd : Type 0
EveryRunCanEnd = (g : Shape) (w : Net) → IsNetOf g w → (b : ℕ) → IsBound g.nodes (length g.keys) b → Finish (network_of g) w (2 * (b + g.nodes))

-- the net after an event, if it can happen, and after several
abbrev pub if_can : Network → Net → Event → Net
if_can g w e = unwrap_or (happens g w e) w

abbrev pub all_that_can : Network → Net → List Event → Net
all_that_can g w [] = w
all_that_can g w (e ∷ es) = all_that_can g (if_can g w e) es

-- the event is one of the list; and stands in it twice at least
pub data Stands (e : Event) : List Event → Type 0 where
  Now : {es : List Event} → Stands e (e ∷ es)
  Soon : {x : Event} {es : List Event} → Stands e es → Stands e (x ∷ es)

pub data StandsTwice (e : Event) : List Event → Type 0 where
  Now_and_soon : {es : List Event} → Stands e es → StandsTwice e (e ∷ es)
  Soon_twice : {x : Event} {es : List Event} → StandsTwice e es → StandsTwice e (x ∷ es)

-- in a round each queue has its turn at least twice, in any order, and between them may be any other events
abbrev pub IsRound : Network → List Event → Type 0
IsRound g es = (v p : ℕ) → At g v p → StandsTwice (Take v p) es

abbrev pub after_rounds : Network → Net → List (List Event) → Net
after_rounds g w [] = w
after_rounds g w (es ∷ rs) = after_rounds g (all_that_can g w es) rs

-- some of the rounds, the first ones, bring each woken component to its end
pub record Comes (g : Network) (w : Net) (rs : List (List Event)) : Type 0 where
  pub first : List (List Event)
  pub others : List (List Event)
  pub whole : rs ≡ first ++ others
  pub ended : (v : ℕ) →
      InNetwork g v →
      ((after_rounds g w first).node v).head.phase ≢ Sleeping →
      (u : ℕ) × Leads g AnyLink v u × HasHalted (after_rounds g w first) u

-- as many rounds as the bound on messages and the nodes together end a run, whatever their events are
abbrev pub FairRunsEnd : Type 0
FairRunsEnd =
    (g : Shape) (w : Net) → IsNetOf g w →
    (b : ℕ) → IsBound g.nodes (length g.keys) b →
    (rs : List (List Event)) → All (IsRound (network_of g)) rs →
    b + g.nodes ≤ length rs →
    Comes (network_of g) w rs

-- where no message waits, links lead from each node that is awake to one that has halted
abbrev pub SilentNetsHaveEnded : Type 0
SilentNetsHaveEnded =
    (g : Shape) (w : Net) → IsNetOf g w →
    ((v p : ℕ) → At (network_of g) v p → w.queue v p ≡ []) →
    (v : ℕ) → InNetwork (network_of g) v →
    (w.node v).head.phase ≢ Sleeping →
    (u : ℕ) × Leads (network_of g) AnyLink v u × HasHalted w u

-- and the links of the tree in such a node's component are Branch at both ends, and no other link there is Branch
abbrev pub SilentNetsAreExact : Type 0
SilentNetsAreExact =
    (g : Shape) (w : Net) → IsNetOf g w →
    ((v p : ℕ) → At (network_of g) v p → w.queue v p ≡ []) →
    (v : ℕ) → InNetwork (network_of g) v →
    (w.node v).head.phase ≢ Sleeping →
    (k : Key) → Contains g.keys k →
    Joined (links g.keys) v k.a →
    (InTree g.keys k → IsJoinedLink (network_of g) w k) × (IsBranchLink (network_of g) w k → InTree g.keys k × IsJoinedLink (network_of g) w k)

-- only requeues make a run longer than its messages and its nodes
abbrev pub RunsAreShort : Type 0
RunsAreShort =
    (g : Shape) → IsGraph g → (es : List Event) (w : Net) → IsAfter (network_of g) es w → length es ≤ in_all w.sent + (w.requeued + g.nodes)

-- a node that is awake puts a message back just where it waits
abbrev pub RequeuesAreWaits : Type 0
RequeuesAreWaits =
    (n : NodeState) (p : ℕ) (m : Message) (d : Delta) → p < degree n →
    n.head.phase ≢ Sleeping →
    reaction n (Deliver p m) ≡ Some d →
    ((d.fate ≡ Requeued) ↔ Waits n p m)

-- the first message m at port p of v, others ms behind it, has gone to the end of its queue; nothing else has changed but that this was counted
pub record Turned (w : Net) (v p : ℕ) (m : Message) (ms : List Message) (w' : Net) : Type 0 where
  pub queue : w'.queue v p ≡ ms ++ m ∷ []
  pub queues : (u q : ℕ) → ((u ≡ v) × (q ≡ p) → ⊥) → w'.queue u q ≡ w.queue u q
  pub nodes : (u : ℕ) → w'.node u ≡ w.node u
  pub sent : (k : ℕ) → w'.sent k ≡ w.sent k
  pub consumed : (k : ℕ) → w'.consumed k ≡ w.consumed k
  pub requeued : w'.requeued ≡ suc w.requeued

-- taking a message that waits does no more than that
abbrev pub WaitingTakesTurn : Type 0
WaitingTakesTurn =
    (g : Shape) (w w' : Net) → IsNetOf g w →
    (v p : ℕ) (m : Message) (ms : List Message) → At (network_of g) v p →
    w.queue v p ≡ m ∷ ms →
    Waits (w.node v) p m →
    Happens (network_of g) w (Take v p) w' →
    Turned w v p m ms w'

-- who searches waits for something, and who has no port has halted, in every net of a run
abbrev pub NodesAwait : Type 0
NodesAwait =
    (g : Shape) (w : Net) → IsNetOf g w → (v : ℕ) →
    ((w.node v).head.phase ≡ Find → (is_zero (w.node v).head.find_count && is_missing (w.node v).head.probe) ≡ false) ×
    ((w.node v).head.phase ≢ Sleeping → ◌≡◌ {A = ℕ} (degree (w.node v)) 0 → HasHalted w v)
