-- One node's reaction, by the rules of Borůvka in step. None: there is no rule.
use Rattle.std.specs.Prelude.{ℕ, suc, Bool, true, false, not, ◌&&◌, ◌==◌, nat_lt, nat_le, Option, Some, None, [], ◌∷◌, ◌++◌, if◌then◌else◌}
use Rattle.ghs_graph.specs.declared.key.Key.{Key}
use Rattle.ghs_graph.specs.Ports.{far_end}
use Rattle.ghs_node.specs.declared.level.TheConstants.{TOP_LEVEL}
use Rattle.ghs_node.specs.Words.{Best, is_at, is_name, best_key, better}
use Rattle.peer_machine.specs.declared.work.Work.{Work}
use Rattle.peer_machine.specs.declared.work.Work.TheVariants.{Wake, Deliver}
use Rattle.peer_machine.specs.Rules as rules
use Rattle.peer_machine.specs.Rules.{Outgoing}
use Rattle.boruvka_node.specs.declared.change.Entry.{Entry}
use Rattle.boruvka_node.specs.declared.mark.Mark.TheVariants.{Asked, Branch, Inside}
use Rattle.boruvka_node.specs.declared.message.Message.{Message}
use Rattle.boruvka_node.specs.declared.message.Message.TheVariants.{Connect, Initiate, Name, Report, ChangeRoot}
use Rattle.boruvka_node.specs.declared.message.Phase.TheVariants.{Rest}
use Rattle.boruvka_node.specs.Words.{is_basic, is_asked, is_branch, is_sleeping, is_search, is_rest}
use Rattle.boruvka_node.specs.State.{State, key_at, port_at, mark_at, degree, set_port, set_mark, missing, least_basic, name_of}
use Rattle.boruvka_node.specs.Entering.{entered, told_from}

-- a node's state behind a reaction, and what goes out
abbrev pub Outcome : Type 0
Outcome = rules.Outcome State Message

-- nothing goes out
abbrev pub silent : State → Option Outcome
silent n = Some (record { state = n; sends = [] })

-- these go out, and then what follows
abbrev pub says : Outgoing Message → Option Outcome → Option Outcome
says ss None = None
says ss (Some o) = Some (record o { sends = ss ++ o.sends })

-- one thing, and then another
abbrev pub and_then : Option Outcome → (State → Option Outcome) → Option Outcome
and_then None f = None
and_then (Some o) f = says o.sends (f o.state)

-- how a node goes out over a port
abbrev pub GoingOut : Type 0
GoingOut = State → ℕ → Option Outcome

-- The moves of the table.

-- moves, to `best` over p: on along a Branch, or out over p
abbrev pub moves_over : GoingOut → State → ℕ → Option Outcome
moves_over go n p = if is_branch (mark_at n p) then says ((p, ChangeRoot) ∷ []) (silent n) else go n p

-- the lesser of `best` and the least Basic port
abbrev pub own_best : State → Option ℕ → Best
own_best n None = n.head.best
own_best n (Some p) = better n.head.best p (Some (key_at n p))

-- the search is over: no Report is owed, and each Basic port was heard at the level or above
abbrev pub is_over : State → Bool
is_over n = is_search n.head.phase && (missing n == 0)

abbrev pub rested : State → State
rested n = record n { head = record n.head { best = own_best n (least_basic n.ports); phase = Rest } }

abbrev pub halted : State → State
halted n = record n { head = record n.head { halted = true } }

-- a root moves to `best`, or halts without one
abbrev pub root_closes : GoingOut → State → Best → Option Outcome
root_closes go n None = silent (halted n)
root_closes go n (Some b) = moves_over go n b.0

-- and a node with a parent reports
abbrev pub reports : GoingOut → State → Option ℕ → Option Outcome
reports go n None = root_closes go n n.head.best
reports go n (Some p) = says ((p, Report (best_key n.head.best)) ∷ []) (silent n)

-- close
abbrev pub closes_by : GoingOut → State → Option Outcome
closes_by go n = if is_over n then reports go (rested n) n.head.parent else silent n

-- the Connect goes out over p, where no Connect has come: so p is no core
abbrev pub connects : GoingOut
connects n p = says ((p, Connect n.head.level) ∷ []) (silent (record n { head = record n.head { out = Some p } }))

-- enters; no port is Asked any more, so that the node meets no core where it goes out at once
abbrev pub enters_by : State → Entry → Option Outcome
enters_by n e = if nat_le e.level TOP_LEVEL then says (told_from e 0 n.ports) (closes_by connects (entered n e)) else None

abbrev pub enters : State → ℕ → Key → Option ℕ → Option Outcome
enters n l f parent = enters_by n (record { level = l; name = f; parent = parent; out = n.head.out })

-- core: the lesser end enters the next level as its root, and the other end waits to be called
abbrev pub core : State → ℕ → Option Outcome
core n p = if nat_lt n.number (far_end n.number (key_at n p)) then enters n (suc n.head.level) (key_at n p) None else silent n

abbrev pub core_if_asked : State → ℕ → Option Outcome
core_if_asked n p = if is_asked (mark_at n p) then core n p else silent n

-- goes out
abbrev pub goes_out : GoingOut
goes_out n p = and_then (connects n p) (λ x. core_if_asked x p)

abbrev pub closes : State → Option Outcome
closes n = closes_by goes_out n

abbrev pub moves : State → Best → Option Outcome
moves n None = None
moves n (Some b) = moves_over goes_out n b.0

-- The rows of the table.

-- to wake
abbrev pub woken : State → State
woken n = record n { head = record n.head { level = 0; phase = Rest } }

-- no Connect has come to a sleeper, so that it meets no core where it goes out
abbrev pub wakes : State → Option Outcome
wakes n = if degree n == 0 then silent (halted (woken n)) else connects (woken n) 0

-- a Connect of its level: where it went out itself is a core
abbrev pub connect_of_its_level : State → ℕ → Option Outcome
connect_of_its_level n j = let x = set_mark n j Asked in if is_at n.head.out j then core x j else silent x

-- a Connect of the level below: its fragment has been called already by this node's, and its sender is so now
abbrev pub late_connect : State → ℕ → Option Outcome
late_connect n j =
    if is_basic (mark_at n j) && is_search n.head.phase
    then says ((j, Initiate n.head.level (name_of n.head)) ∷ []) (silent (set_port n j (record (port_at n j) { mark = Branch; owes = true })))
    else None

abbrev pub connect : State → ℕ → ℕ → Option Outcome
connect n j l = if l == n.head.level then connect_of_its_level n j else (if suc l == n.head.level then late_connect n j else None)

abbrev pub initiate : State → ℕ → ℕ → Key → Option Outcome
initiate n j l f = if is_rest n.head.phase && (l == suc n.head.level) then enters n l f (Some j) else None

-- a Name is of the next level at its port, and from a Basic port of the level above the node's at most
abbrev pub is_next_name : State → ℕ → ℕ → Bool
is_next_name n j l = (l == suc (port_at n j).level) && not (is_basic (mark_at n j) && nat_lt (suc n.head.level) l)

-- the port has heard; a Basic one that leads back into the node's own fragment becomes Inside
abbrev pub heard : State → ℕ → ℕ → Key → State
heard n j l f =
    let own = (l == n.head.level) && is_name n.head.name f in
    set_port n j (record (port_at n j) { level = l; name = Some f; mark = if own && is_basic (mark_at n j) then Inside else mark_at n j })

abbrev pub name : State → ℕ → ℕ → Key → Option Outcome
name n j l f = if is_next_name n j l then closes (heard n j l f) else None

abbrev pub reported : State → ℕ → Option Key → State
reported n j w =
    record (set_port n j (record (port_at n j) { owes = false })) { head = record n.head { best = better n.head.best j w } }

abbrev pub report : State → ℕ → Option Key → Option Outcome
report n j w = if (port_at n j).owes then closes (reported n j w) else None

abbrev pub change_root : State → Option Outcome
change_root n = moves n n.head.best

-- a message at port j of a node that is awake
abbrev pub awake : State → ℕ → Message → Option Outcome
awake n j (Connect l) = connect n j l
awake n j (Initiate l f) = initiate n j l f
awake n j (Name l f) = name n j l f
awake n j (Report w) = report n j w
awake n j ChangeRoot = change_root n

-- a message at port j of a sleeper, which wakes first
abbrev pub asleep : State → ℕ → Message → Option Outcome
asleep n j (Connect l) = and_then (wakes n) (λ x. connect x j l)
asleep n j (Name l f) = and_then (wakes n) (λ x. name x j l f)
asleep n j (Initiate l f) = None
asleep n j (Report w) = None
asleep n j ChangeRoot = None

abbrev pub delivered : State → ℕ → Message → Option Outcome
delivered n j m = if is_sleeping n.head.phase then asleep n j m else awake n j m

-- the reaction; a message at no port has none
abbrev pub reaction : State → Work Message → Option Outcome
reaction n Wake = if is_sleeping n.head.phase then wakes n else None
reaction n (Deliver j m) = if nat_lt j (degree n) then delivered n j m else None
