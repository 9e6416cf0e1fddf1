-- A link as it is seen from one of its ends, and what waits there.
use Rattle.std.specs.Prelude.{ℕ, suc, Option, List, [], ◌∷◌}
use Rattle.ghs_graph.specs.declared.key.Key.{Key}
use Rattle.peer_network.specs.Network.{Network, port_at, far, far_port}
use Rattle.boruvka_node.specs.declared.head.Head.{Head}
use Rattle.boruvka_node.specs.declared.mark.Mark.{Mark}
use Rattle.boruvka_node.specs.declared.message.Message.{Message}
use Rattle.boruvka_node.specs.declared.message.Message.TheVariants.{Connect, Initiate, Name, Report, ChangeRoot}
use Rattle.boruvka_node.specs.declared.message.Phase.{Phase}
use Rattle.boruvka_node.specs.declared.port_state.PortState.{PortState}
use Rattle.boruvka_node.specs.State as state
use Rattle.boruvka_node.specs.State.{State}

-- an end of a link: the node, its port and key, and what the node has of level, phase, mark and `out`
pub record Side : Type 0 where
  pub node : ℕ
  pub port : ℕ
  pub key : Key
  pub mark : Mark
  pub level : ℕ
  pub phase : Phase
  pub out : Option ℕ

-- what a node has at one of its ports: what it keeps of the port, and its own variables
pub record AtPort : Type 0 where
  pub port : PortState
  pub head : Head

abbrev pub at_port : State → ℕ → AtPort
at_port n p = record { port = state.port_at n p; head = n.head }

-- the end at port p of node v, where the node has n there
abbrev pub side_of : Network → ℕ → ℕ → AtPort → Side
side_of g v p n = record {
  node = v;
  port = p;
  key = (port_at g v p).key;
  mark = n.port.mark;
  level = n.head.level;
  phase = n.head.phase;
  out = n.head.out;
}

-- the same link's other end, where the node there has m
abbrev pub far_side_of : Network → ℕ → ℕ → AtPort → Side
far_side_of g v p m = side_of g (far g v p) (far_port g v p) m

-- what was heard last at a port
pub record Heard : Type 0 where
  pub level : ℕ
  pub name : Option Key

abbrev pub heard_at : AtPort → Heard
heard_at n = record { level = n.port.level; name = n.port.name }

-- a Name with its level
pub record Told : Type 0 where
  pub level : ℕ
  pub name : Key

-- the Names among messages, in order
abbrev pub names_in : List Message → List Told
names_in [] = []
names_in (Connect l ∷ ms) = names_in ms
names_in (Initiate l f ∷ ms) = names_in ms
names_in (Name l f ∷ ms) = record { level = l; name = f } ∷ names_in ms
names_in (Report w ∷ ms) = names_in ms
names_in (ChangeRoot ∷ ms) = names_in ms

-- the others, in order
abbrev pub calls_in : List Message → List Message
calls_in [] = []
calls_in (Connect l ∷ ms) = Connect l ∷ calls_in ms
calls_in (Initiate l f ∷ ms) = Initiate l f ∷ calls_in ms
calls_in (Name l f ∷ ms) = calls_in ms
calls_in (Report w ∷ ms) = Report w ∷ calls_in ms
calls_in (ChangeRoot ∷ ms) = ChangeRoot ∷ calls_in ms

-- how many Connects, Initiates, Reports and ChangeRoots are among messages
abbrev pub connects_in : List Message → ℕ
connects_in [] = 0
connects_in (Connect l ∷ ms) = suc (connects_in ms)
connects_in (Initiate l f ∷ ms) = connects_in ms
connects_in (Name l f ∷ ms) = connects_in ms
connects_in (Report w ∷ ms) = connects_in ms
connects_in (ChangeRoot ∷ ms) = connects_in ms

abbrev pub initiates_in : List Message → ℕ
initiates_in [] = 0
initiates_in (Connect l ∷ ms) = initiates_in ms
initiates_in (Initiate l f ∷ ms) = suc (initiates_in ms)
initiates_in (Name l f ∷ ms) = initiates_in ms
initiates_in (Report w ∷ ms) = initiates_in ms
initiates_in (ChangeRoot ∷ ms) = initiates_in ms

abbrev pub reports_in : List Message → ℕ
reports_in [] = 0
reports_in (Connect l ∷ ms) = reports_in ms
reports_in (Initiate l f ∷ ms) = reports_in ms
reports_in (Name l f ∷ ms) = reports_in ms
reports_in (Report w ∷ ms) = suc (reports_in ms)
reports_in (ChangeRoot ∷ ms) = reports_in ms

abbrev pub passes_in : List Message → ℕ
passes_in [] = 0
passes_in (Connect l ∷ ms) = passes_in ms
passes_in (Initiate l f ∷ ms) = passes_in ms
passes_in (Name l f ∷ ms) = passes_in ms
passes_in (Report w ∷ ms) = passes_in ms
passes_in (ChangeRoot ∷ ms) = suc (passes_in ms)
