-- The rules of knocking.
use Rattle.std.specs.Prelude.{ℕ, zero, suc, Bool, true, false, not, ◌&&◌, Option, None, Some, List, [], ◌∷◌, ◌++◌, length, if◌then◌else◌}
use Rattle.ghs_graph.specs.declared.port.Port.{Port}
use Rattle.peer_machine.specs.declared.work.Work.{Work}
use Rattle.peer_machine.specs.declared.work.Work.TheVariants.{Wake, Deliver}
use Rattle.peer_machine.specs.Rules.{Rules, Outcome, Outgoing}
use Rattle.peer_knock.specs.declared.node.Message.{Message}
use Rattle.peer_knock.specs.declared.node.Message.TheVariants.{Knock}
use Rattle.peer_knock.specs.declared.node.Node.{Node}
use Rattle.peer_knock.specs.declared.node.Change.{Change}

abbrev pub after_knock : Node → Change → Node
after_knock n c = record n { awake = c.awake }

-- a Knock on each of the first n ports
abbrev pub knocks : ℕ → Outgoing Message
knocks zero = []
knocks (suc n) = knocks n ++ (n, Knock) ∷ []

-- a node that wakes knocks at all its neighbors; nobody answers a knock
abbrev pub reaction : Node → Work Message → Option (Outcome Node Message)
reaction n Wake = if n.awake then None else Some (record { state = record n { awake = true }; sends = knocks n.ports })
reaction n (Deliver p m) = Some (record { state = n; sends = [] })

-- a sleeping node defers a knock where sleepers are patient
abbrev pub defers : Bool → Node → Work Message → Bool
defers patient n Wake = false
defers patient n (Deliver p m) = patient && not n.awake

abbrev pub asleep : List Port → Node
asleep ports = record { ports = length ports; awake = false }

-- the rules, by what is known only when a run begins: whether sleepers are patient
abbrev pub knocking : Bool → Rules Node Message
knocking patient = record {
  opening = λ v ports. asleep ports;
  is_asleep = λ n. not n.awake;
  has_halted = λ n. n.awake;
  reaction = reaction;
  defers = defers patient;
  kinds = 1;
  kind_of = λ m. 0;
  bits = λ g m. 1;
}
