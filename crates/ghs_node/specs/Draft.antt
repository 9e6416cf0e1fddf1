-- A reaction that is being worked out.
use Rattle.std.specs.Prelude.{◌≡◌, ℕ, ◌<◌, ◌++◌, ◌∷◌, [], length, Option, Some, None, Result, Ok, Err, if◌then◌else◌}
use Rattle.ghs_node.specs.declared.mark.Mark.{Mark}
use Rattle.ghs_node.specs.declared.mark.Mark.TheVariants.{Branch}
use Rattle.ghs_node.specs.declared.message.Message.TheVariants.{Connect}
use Rattle.ghs_node.specs.declared.delta.Delta.{Delta}
use Rattle.ghs_node.specs.declared.fault.NodeFault.{NodeFault}
use Rattle.ghs_node.specs.declared.fault.NodeFault.TheVariants.{NoPort, Unforeseen, Memory}
use Rattle.ghs_node.specs.Words.{is_sleeping}
use Rattle.ghs_node.specs.NodeState.{NodeState, with_mark}
use Rattle.ghs_node.specs.Reaction.{does, still, woken}

-- the reaction of a node that has woken, and no more yet
abbrev pub waking : NodeState → Delta
waking n = does (woken n).head (Some (0, Branch)) ((0, Connect 0) ∷ [])

-- a node that sleeps wakes first
abbrev pub begun_in : NodeState → Delta
begun_in n = if is_sleeping n.head.phase then waking n else still n

-- the node as a reaction so far has it
abbrev pub drafted : NodeState → Delta → NodeState
drafted n d = record n { head = d.head; marks = with_mark n.marks d.mark }

-- the later of two changes of a mark
abbrev pub later : Option (ℕ × Mark) → Option (ℕ × Mark) → Option (ℕ × Mark)
later m None = m
later m (Some k) = Some k

-- a reaction that goes on from one so far
abbrev pub goes_on : Delta → Option Delta → Option Delta
goes_on d None = None
goes_on d (Some e) = Some (record e { mark = later d.mark e.mark; sends = d.sends ++ e.sends })

-- a reaction by which something is sent
abbrev pub SendsSome : Option Delta → Type 0
SendsSome None = ⊥
SendsSome (Some d) = 0 < length d.sends

-- the answer to work at a port of the node: what the reaction has become is the table's; lack of memory only where something is sent
abbrev pub Answers : Result (Unit {0}) NodeFault → Delta → Option Delta → Type 0
Answers (Ok _) d o = o ≡ Some d
Answers (Err Unforeseen) d o = o ≡ None
Answers (Err Memory) d o = SendsSome o
Answers (Err NoPort) d o = ⊥
