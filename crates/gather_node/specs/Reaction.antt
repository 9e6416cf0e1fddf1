-- What a node does.
use Rattle.std.specs.Prelude.{ℕ, zero, suc, ◌-◌, true, Option, None, Some, is_none, List, [], ◌∷◌, ◌++◌, slice_index_or, slice_set, if◌then◌else◌, nat_lt}
use Rattle.ghs_graph.specs.declared.key.Key.{Key}
use Rattle.peer_machine.specs.declared.work.Work.{Work}
use Rattle.peer_machine.specs.declared.work.Work.TheVariants.{Wake, Deliver}
use Rattle.peer_machine.specs.Rules.{Outcome, Outgoing}
use Rattle.gather_node.specs.declared.message.Message.{Message}
use Rattle.gather_node.specs.declared.message.Message.TheVariants.{Explore, Back, Tree}
use Rattle.gather_node.specs.Forest.{forest, common}
use Rattle.gather_node.specs.State.{State, degree, is_in, is_that, known, marks, nothing_brought, would_join}

abbrev pub outcome : State → Outgoing Message → Outcome State Message
outcome n ss = record { state = n; sends = ss }

-- Explore of wave x on each of the first n ports but one to leave out
abbrev pub explores : ℕ → ℕ → Option ℕ → Outgoing Message
explores x zero out = []
explores x (suc n) out = explores x n out ++ (if is_that out n then [] else (n, Explore x) ∷ [])

-- to the child at each of the first n ports, those links of the tree that it had sent
abbrev pub tree_at : List Key → ℕ → Option (List Key) → Outgoing Message
tree_at tree p None = []
tree_at tree p (Some sent) = (p, Tree (common tree sent)) ∷ []

abbrev pub trees : List Key → ℕ → List (Option (List Key)) → Outgoing Message
trees tree zero bs = []
trees tree (suc n) bs = trees tree n bs ++ tree_at tree n (slice_index_or bs n None)

-- the node knows the links of the tree: it marks its own, and halts
abbrev pub settled : State → List Key → State
settled n tree = record n { head = record n.head { halted = true }; branches = marks tree n.keys }

-- and it tells its children
abbrev pub told : State → List Key → Outgoing Message → Outcome State Message
told n tree ss = outcome (settled n tree) (ss ++ trees tree (degree n) n.brought)

-- Where the node awaits no answer: the forest of all that it knows goes to its parent. Without a parent that forest is the tree.
abbrev pub closed : State → ℕ → ℕ → Option ℕ → Outgoing Message → Outcome State Message
closed n x (suc k) parent ss = outcome n ss
closed n x zero (Some q) ss = outcome n (ss ++ (q, Back x (forest (known n))) ∷ [])
closed n x zero None ss = told n (forest (known n)) ss

abbrev pub closes : State → ℕ → Outgoing Message → Outcome State Message
closes n x ss = closed n x n.head.awaits n.head.parent ss

-- an answer from each port but the parent
abbrev pub due : ℕ → Option ℕ → ℕ
due ports None = ports
due ports (Some q) = ports - 1

-- the node in wave x, of which it knows nothing yet
abbrev pub in_wave : State → ℕ → Option ℕ → State
in_wave n x parent = record n {
  head = record { wave = Some x; parent = parent; awaits = due (degree n) parent; halted = n.head.halted };
  brought = nothing_brought (degree n);
}

-- it joins wave x: what other waves brought is forgotten, and it asks on
abbrev pub joins_wave : State → ℕ → Option ℕ → Outcome State Message
joins_wave n x parent = closes (in_wave n x parent) x (explores x (degree n) parent)

-- an answer of wave x has come in
abbrev pub hears : State → ℕ → ℕ → Outcome State Message
hears n x zero = outcome n []
hears n x (suc k) = closes (record n { head = record n.head { awaits = k } }) x []

-- links come with an answer
abbrev pub brings : State → ℕ → List Key → State
brings n p ks = record n { brought = slice_set n.brought p (Some ks) }

-- Explore: into a smaller wave; or the answer of the node's own wave. One of a greater wave is ignored.
abbrev pub explored : State → ℕ → ℕ → Outcome State Message
explored n p x = if would_join n.head.wave x then joins_wave n x (Some p) else (if is_in n x then hears n x n.head.awaits else outcome n [])

-- Back: an answer too, with links. One of a wave that has lost is ignored.
abbrev pub came_back : State → ℕ → ℕ → List Key → Outcome State Message
came_back n p x ks = if is_in n x then hears (brings n p ks) x n.head.awaits else outcome n []

abbrev pub delivered : State → ℕ → Message → Outcome State Message
delivered n p (Explore x) = explored n p x
delivered n p (Back x ks) = came_back n p x ks
delivered n p (Tree ks) = told n ks []

-- who sleeps may wake, into the wave of its own number; a message at a port has a rule
abbrev pub reaction : State → Work Message → Option (Outcome State Message)
reaction n Wake = if is_none n.head.wave then Some (joins_wave n n.number None) else None
reaction n (Deliver p m) = if nat_lt p (degree n) then Some (delivered n p m) else None
