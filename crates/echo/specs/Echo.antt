-- The rules of the echo wave.
use Rattle.std.specs.Prelude.{◌≡◌, ℕ, zero, suc, ◌-◌, ◌*◌, ◌==◌, Bool, true, false, not, nat_lt, Option, None, Some, is_none, ◌&&◌, List, [], ◌∷◌, ◌++◌, length, if◌then◌else◌}
use Rattle.ghs_graph.specs.declared.port.Port.{Port}
use Rattle.ghs_graph.specs.Graph.{Shape}
use Rattle.peer_machine.specs.declared.work.Work.{Work}
use Rattle.peer_machine.specs.declared.work.Work.TheVariants.{Wake, Deliver}
use Rattle.peer_machine.specs.Rules.{Rules, Outcome, Outgoing}
use Rattle.echo.specs.declared.node.Message.{Message}
use Rattle.echo.specs.declared.node.Message.TheVariants.{Explore, Echo}
use Rattle.echo.specs.declared.node.Change.{Change}
use Rattle.echo.specs.declared.node.Change.TheVariants.{Joins, Awaits}
use Rattle.echo.specs.declared.node.Head.{Head}
use Rattle.echo.specs.declared.node.Node.{Node}

abbrev pub with_head : Node → Head → Node
with_head n h = record n { head = h }

-- a node's state after a change
abbrev pub after : Node → Change → Node
after n (Joins parent awaits) = with_head n (record { awake = true; parent = parent; awaits = awaits })
after n (Awaits k) = with_head n (record n.head { awaits = k })

-- p is the port to leave out, if there is one
abbrev pub is_left_out : Option ℕ → ℕ → Bool
is_left_out None p = false
is_left_out (Some q) p = q == p

-- an Explore on each of the first n ports but one to leave out
abbrev pub explores : ℕ → Option ℕ → Outgoing Message
explores zero out = []
explores (suc n) out = explores n out ++ (if is_left_out out n then [] else (n, Explore) ∷ [])

-- where nothing is awaited, an Echo to the parent
abbrev pub echoes : ℕ → Option ℕ → Outgoing Message
echoes zero None = []
echoes zero (Some q) = (q, Echo) ∷ []
echoes (suc n) parent = []

-- a node takes part: it asks on, and awaits so many answers
abbrev pub joined : Node → Option ℕ → ℕ → Outcome Node Message
joined n parent awaits = record {
  state = after n (Joins parent awaits);
  sends = explores n.ports parent ++ echoes awaits parent;
}

-- a node that awaits so many answers hears from one port
abbrev pub answered : Node → ℕ → Outcome Node Message
answered n zero = record { state = n; sends = [] }
answered n (suc k) = record { state = after n (Awaits k); sends = echoes k n.head.parent }

-- a sleeping node wakes and asks all; a message at one of its ports wakes it, and it asks the others; an awake one hears an answer
abbrev pub reaction : Node → Work Message → Option (Outcome Node Message)
reaction n Wake = if n.head.awake then None else Some (joined n None n.ports)
reaction n (Deliver p m) =
    if nat_lt p n.ports then Some (if n.head.awake then answered n n.head.awaits else joined n (Some p) (n.ports - 1)) else None

abbrev pub kind_of : Message → ℕ
kind_of Explore = 0
kind_of Echo = 1

abbrev pub asleep : List Port → Node
asleep ports = record { ports = length ports; head = record { awake = false; parent = None; awaits = 0 } }

-- who woke by itself and awaits nothing has halted; a message is one bit, its kind
abbrev pub echo : Rules Node Message
echo = record {
  opening = λ v ports. asleep ports;
  is_asleep = λ n. not n.head.awake;
  has_halted = λ n. n.head.awake && is_none n.head.parent && n.head.awaits == 0;
  reaction = reaction;
  defers = λ n k. false;
  kinds = 2;
  kind_of = kind_of;
  bits = λ g m. 1;
}

-- how many messages a run sends at most: one over each link in each direction
abbrev pub bound_of : Shape → ℕ
bound_of g = 2 * length g.keys

-- a change and what goes out are those of an outcome
abbrev pub IsAnswer : Node → Change → Outgoing Message → Outcome Node Message → Type 0
IsAnswer n c sends o = record { state = after n c; sends = sends } ≡ o
