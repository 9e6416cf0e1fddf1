-- What holds of the table of reactions, as one fact a law.
use Rattle.std.specs.Prelude.{◌≡◌, ◌≢◌, ℕ, ◌<◌, ◌≤◌, ◌⊎◌, ◌↔◌, ◌||◌, Option, Some, None}
use Rattle.std.specs.List.{All}
use Rattle.ghs_node.specs.declared.level.TheConstants.{TOP_LEVEL}
use Rattle.ghs_node.specs.declared.mark.Mark.{Mark}
use Rattle.ghs_node.specs.declared.mark.Mark.TheVariants.{Basic, Branch, Rejected}
use Rattle.ghs_node.specs.declared.message.Phase.TheVariants.{Sleeping}
use Rattle.ghs_node.specs.declared.message.Message.{Message}
use Rattle.ghs_node.specs.declared.message.Message.TheVariants.{Connect, Initiate, Test}
use Rattle.ghs_node.specs.declared.delta.Delta.{Delta}
use Rattle.ghs_node.specs.declared.work.Work.{Work}
use Rattle.ghs_node.specs.declared.work.Work.TheVariants.{Wake, Deliver}
use Rattle.ghs_node.specs.NodeState.{NodeState, IsNode, mark_at, degree}
use Rattle.ghs_node.specs.Reaction.{reaction, after, HasPort}
use Rattle.ghs_node.specs.Rows.{Row}
use Rattle.ghs_node.specs.NoRule.{NoRule}

-- a message's level is a level
abbrev pub HasLevel : Message → Type 0
HasLevel (Connect l) = l ≤ TOP_LEVEL
HasLevel (Initiate l f s) = l ≤ TOP_LEVEL
HasLevel (Test l f) = l ≤ TOP_LEVEL
HasLevel _ = Unit {0}

abbrev pub WorkHasLevel : Work → Type 0
WorkHasLevel Wake = Unit {0}
WorkHasLevel (Deliver j m) = HasLevel m

-- work of a port that is there has a row, or is on the list
abbrev pub TableIsWhole : Type 0
TableIsWhole = (n : NodeState) (w : Work) → IsNode n → HasPort n w → ((d : Delta) × Row n w d) ⊎ NoRule n w

-- the row is one
abbrev pub RowIsOne : Type 0
RowIsOne = (n : NodeState) (w : Work) (d e : Delta) → Row n w d → Row n w e → d ≡ e

-- work on the list has no row
abbrev pub ListHasNoRow : Type 0
ListHasNoRow = (n : NodeState) (w : Work) (d : Delta) → NoRule n w → Row n w d → ⊥

-- the row is the reaction
abbrev pub RowIsReaction : Type 0
RowIsReaction = (n : NodeState) (w : Work) (d : Delta) → HasPort n w → (Row n w d ↔ (reaction n w ≡ Some d))

-- how a reaction may change a mark: a port becomes Branch, or a Basic port Rejected
pub data MarkChange (n : NodeState) : Option (ℕ × Mark) → Type 0 where
  Stays : MarkChange n None
  To_branch : (p : ℕ) → p < degree n → MarkChange n (Some (p, Branch))
  To_rejected : (p : ℕ) → p < degree n → mark_at n p ≡ Basic → MarkChange n (Some (p, Rejected))

abbrev pub MarksChangeSo : Type 0
MarksChangeSo = (n : NodeState) (w : Work) (d : Delta) → IsNode n → Row n w d → MarkChange n d.mark

-- a Branch mark stays
abbrev pub BranchStays : Type 0
BranchStays = (n : NodeState) (w : Work) (d : Delta) → IsNode n → Row n w d → (p : ℕ) → mark_at n p ≡ Branch → mark_at (after n d) p ≡ Branch

-- sends go out on ports of the node
abbrev pub SendsHavePorts : Type 0
SendsHavePorts = (n : NodeState) (w : Work) (d : Delta) → IsNode n → Row n w d → All (λ (s : ℕ × Message). s.0 < degree n) d.sends

-- levels in messages are levels
abbrev pub SendsHaveLevels : Type 0
SendsHaveLevels = (n : NodeState) (w : Work) (d : Delta) → IsNode n → WorkHasLevel w → Row n w d → All (λ (s : ℕ × Message). HasLevel s.1) d.sends

-- no level is lost
abbrev pub LevelStays : Type 0
LevelStays = (n : NodeState) (w : Work) (d : Delta) → IsNode n → Row n w d → n.head.level ≤ d.head.level

-- a node that did something is awake
abbrev pub NodeIsAwake : Type 0
NodeIsAwake = (n : NodeState) (w : Work) (d : Delta) → Row n w d → d.head.phase ≢ Sleeping

-- a node has halted where a reaction halted
abbrev pub NodeHalts : Type 0
NodeHalts = (n : NodeState) (w : Work) (d : Delta) → Row n w d → d.head.halted ≡ (n.head.halted || d.halts)

-- what every node keeps, it keeps
abbrev pub NodeStays : Type 0
NodeStays = (n : NodeState) (w : Work) (d : Delta) → IsNode n → WorkHasLevel w → Row n w d → IsNode (after n d)
