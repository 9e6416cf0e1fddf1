-- One node's reaction: a table, as a function of the node's state and its work.
use Rattle.std.specs.Prelude.{◌≡◌, ℕ, ◌+◌, ◌-◌, ◌<◌, true, false, not, ◌&&◌, ◌||◌, ◌==◌, nat_lt, nat_le, Option, Some, None, List, [], ◌∷◌, ◌++◌, length, slice_set, if◌then◌else◌, unwrap_or}
use Rattle.ghs_graph.specs.declared.key.Key.{Key}
use Rattle.ghs_node.specs.declared.level.TheConstants.{TOP_LEVEL}
use Rattle.ghs_node.specs.declared.head.Head.{Head}
use Rattle.ghs_node.specs.declared.mark.Mark.{Mark}
use Rattle.ghs_node.specs.declared.mark.Mark.TheVariants.{Basic, Branch, Rejected}
use Rattle.ghs_node.specs.declared.message.Phase.{Phase}
use Rattle.ghs_node.specs.declared.message.Phase.TheVariants.{Sleeping, Find, Found}
use Rattle.ghs_node.specs.declared.message.Message.{Message}
use Rattle.ghs_node.specs.declared.message.Message.TheVariants.{Connect, Initiate, Test, Accept, Reject, Report, ChangeRoot}
use Rattle.ghs_node.specs.declared.delta.Fate.TheVariants.{Consumed, Requeued}
use Rattle.ghs_node.specs.declared.delta.Delta.{Delta}
use Rattle.ghs_node.specs.declared.work.Work.{Work}
use Rattle.ghs_node.specs.declared.work.Work.TheVariants.{Wake, Deliver}
use Rattle.ghs_node.specs.Words.{Outgoing, Best, below, is_name, is_basic, is_sleeping, is_find, is_at, is_missing, is_zero, least_basic, on_branches, best_key, better, find_more}
use Rattle.ghs_node.specs.NodeState.{NodeState, key_at, mark_at, degree, with_mark}
use Rattle.ghs_graph.specs.Key.{no_key}

-- Where a name or a way to the core is missing, these stand in for it; no node that keeps what nodes keep meets them.
abbrev pub name_of : Head → Key
name_of h = unwrap_or h.name no_key

abbrev pub core_port : Head → ℕ
core_port h = unwrap_or h.in_branch 0

-- a reaction that is done with its message
abbrev pub does : Head → Option (ℕ × Mark) → Outgoing → Delta
does h m s = record { head = h; mark = m; sends = s; fate = Consumed; halts = false }

-- a reaction that does nothing but be done with its message
abbrev pub still : NodeState → Delta
still n = does n.head None []

-- the message goes to the end of its queue, and nothing else happens
abbrev pub requeues : Head → Delta
requeues h = record { head = h; mark = None; sends = []; fate = Requeued; halts = false }

-- the node halts as a core node
abbrev pub stops : Head → Delta
stops h = record { head = record h { halted = true }; mark = None; sends = []; fate = Consumed; halts = true }

-- How a reaction of the search ends: the next Test goes out on a port, or the Report goes to the core, or nothing more.
pub data Ending : Type 0 where
  Probing : ℕ → Ending
  Reporting : Ending
  Waiting : Ending

abbrev pub phase_after : Phase → Ending → Phase
phase_after s (Probing p) = s
phase_after s Reporting = Found
phase_after s Waiting = s

abbrev pub probe_after : Option ℕ → Ending → Option ℕ
probe_after o (Probing p) = Some p
probe_after o Reporting = o
probe_after o Waiting = o

abbrev pub last_sends : Head → Ending → Outgoing
last_sends h (Probing p) = (p, Test h.level (name_of h)) ∷ []
last_sends h Reporting = (core_port h, Report (best_key h.best)) ∷ []
last_sends h Waiting = []

abbrev pub ends : Head → Option (ℕ × Mark) → Outgoing → Ending → Delta
ends h m s e =
    record {
      head = record h { phase = phase_after h.phase e; probe = probe_after h.probe e };
      mark = m;
      sends = s ++ last_sends h e;
      fate = Consumed;
      halts = false;
    }

-- close: where no Report is waited for and no Test is out, the node reports
abbrev pub close_ending : Head → Ending
close_ending h = if is_zero h.find_count && is_missing h.probe then Reporting else Waiting

abbrev pub closes : Head → Option (ℕ × Mark) → Outgoing → Delta
closes h m s = ends h m s (close_ending h)

abbrev pub no_probe : Head → Head
no_probe h = record h { probe = None }

-- settle: the least Basic port is tested; where there is none, close
abbrev pub settle_ending : Option ℕ → Head → Ending
settle_ending None h = close_ending h
settle_ending (Some p) h = Probing p

abbrev pub settles : NodeState → Head → Option (ℕ × Mark) → Outgoing → Delta
settles n h m s = ends (no_probe h) m s (settle_ending (least_basic (with_mark n.marks m)) (no_probe h))

-- the port's mark becomes Rejected if it was Basic
abbrev pub reject_at : NodeState → ℕ → Option (ℕ × Mark)
reject_at n j = if is_basic (mark_at n j) then Some (j, Rejected) else None

-- The core moves over the port of the best link: on along a Branch, or out by a Connect over the link itself, which becomes a Branch.
abbrev pub root_mark : Mark → ℕ → Option (ℕ × Mark)
root_mark Basic b = Some (b, Branch)
root_mark Branch b = None
root_mark Rejected b = Some (b, Branch)

abbrev pub root_message : Mark → ℕ → Message
root_message Basic l = Connect l
root_message Branch l = ChangeRoot
root_message Rejected l = Connect l

abbrev pub moves_root : NodeState → ℕ → Delta
moves_root n b = does n.head (root_mark (mark_at n b) b) ((b, root_message (mark_at n b) n.head.level) ∷ [])

abbrev pub root_to : NodeState → Best → Option Delta
root_to n None = None
root_to n (Some b) = Some (moves_root n b.0)

-- a Connect of a lower level: its fragment is absorbed, and joins the search where there is one
abbrev pub absorbs : NodeState → ℕ → Delta
absorbs n j =
    does (record n.head { find_count = find_more n.head.phase n.head.find_count }) (Some (j, Branch))
    ((j, Initiate n.head.level (name_of n.head) n.head.phase) ∷ [])

-- a Connect over a link that this node has chosen too: the two fragments merge
abbrev pub merges : NodeState → ℕ → Delta
merges n j = does n.head None ((j, Initiate (n.head.level + 1) (key_at n j) Find) ∷ [])

-- the head after an Initiate, and what is passed on
abbrev pub initiated : Head → ℕ → ℕ → Key → Phase → ℕ → Head
initiated h j l f s c = record h { level = l; name = Some f; phase = s; in_branch = Some j; best = None; find_count = c }

abbrev pub passed_on : NodeState → ℕ → ℕ → Key → Phase → Outgoing
passed_on n j l f s = on_branches n.marks j (Initiate l f s)

abbrev pub rests : NodeState → ℕ → ℕ → Key → Delta
rests n j l f = does (initiated n.head j l f Found n.head.find_count) None (passed_on n j l f Found)

abbrev pub searching : NodeState → ℕ → ℕ → Key → Head
searching n j l f = initiated n.head j l f Find (n.head.find_count + length (passed_on n j l f Find))

abbrev pub searches : NodeState → ℕ → ℕ → Key → Delta
searches n j l f = settles n (searching n j l f) None (passed_on n j l f Find)

-- what is heard at a port, of a link of this key
abbrev pub answered : Head → ℕ → Option Key → Head
answered h j w = record h { probe = None; best = better h.best j w }

abbrev pub heard : Head → ℕ → ℕ → Option Key → Head
heard h c j w = record h { find_count = c; best = better h.best j w }

-- a rule that would make find_count greater than the number of ports is none
abbrev pub within_degree : NodeState → Delta → Option Delta
within_degree n d = if nat_le d.head.find_count (degree n) then Some d else None

abbrev pub at_initiate : NodeState → ℕ → ℕ → Key → Phase → Option Delta
at_initiate n j l f Sleeping = None
at_initiate n j l f Find = within_degree n (searches n j l f)
at_initiate n j l f Found = Some (rests n j l f)

-- the reaction of a node that is awake
abbrev pub awake : NodeState → ℕ → Message → Option Delta
awake n j (Connect l) =
    if nat_lt l n.head.level
    then within_degree n (absorbs n j)
    else (if is_basic (mark_at n j)
    then Some (requeues n.head)
    else (if nat_lt n.head.level TOP_LEVEL
    then Some (merges n j)
    else None))
awake n j (Initiate l f s) =
    if nat_lt n.head.level l
    then at_initiate n j l f s
    else None
awake n j (Test l f) =
    if nat_lt n.head.level l
    then Some (requeues n.head)
    else (if not (is_name n.head.name f)
    then Some (does n.head None ((j, Accept) ∷ []))
    else (if not (is_at n.head.probe j)
    then Some (does n.head (reject_at n j) ((j, Reject) ∷ []))
    else Some (settles n n.head (reject_at n j) [])))
awake n j Accept =
    if is_at n.head.probe j
    then Some (closes (answered n.head j (Some (key_at n j))) None [])
    else None
awake n j Reject =
    if is_at n.head.probe j
    then Some (settles n n.head (reject_at n j) [])
    else None
awake n j (Report w) =
    if not (is_at n.head.in_branch j)
    then (if is_zero n.head.find_count
    then None
    else Some (closes (heard n.head (n.head.find_count - 1) j w) None []))
    else (if is_find n.head.phase
    then Some (requeues n.head)
    else (if below (best_key n.head.best) w
    then root_to n n.head.best
    else (if below w None || below (best_key n.head.best) None
    then Some (does n.head None [])
    else Some (stops n.head))))
awake n j ChangeRoot = root_to n n.head.best

-- a sleeping node, once it has woken: its least link is a Branch, over which a Connect goes out
abbrev pub woken : NodeState → NodeState
woken n = record n { head = record n.head { level = 0; phase = Found; find_count = 0 }; marks = slice_set n.marks 0 Branch }

abbrev pub wakes : NodeState → Delta
wakes n = does (woken n).head (Some (0, Branch)) ((0, Connect 0) ∷ [])

-- a node without links wakes and halts
abbrev pub wakes_alone : NodeState → Delta
wakes_alone n = stops (record n.head { phase = Found })

abbrev pub at_wake : NodeState → List Mark → Delta
at_wake n [] = wakes_alone n
at_wake n (m ∷ ms) = wakes n

-- the reaction of a sleeping node to a message: it wakes, and then does this
abbrev pub once_woken : Delta → Delta
once_woken d = record d { mark = Some (0, Branch); sends = (0, Connect 0) ∷ d.sends }

abbrev pub asleep : NodeState → ℕ → Message → Option Delta
asleep n j (Connect l) =
    if j == 0
    then Some (once_woken (does (woken n).head None ((0, Initiate 1 (key_at n 0) Find) ∷ [])))
    else Some (once_woken (requeues (woken n).head))
asleep n j (Test l f) =
    if l == 0
    then Some (once_woken (does (woken n).head None ((j, Accept) ∷ [])))
    else Some (once_woken (requeues (woken n).head))
asleep n j (Initiate l f s) = None
asleep n j Accept = None
asleep n j Reject = None
asleep n j (Report w) = None
asleep n j ChangeRoot = None

-- the reaction, and None where there is no rule
abbrev pub reaction : NodeState → Work → Option Delta
reaction n Wake = if is_sleeping n.head.phase then Some (at_wake n n.marks) else None
reaction n (Deliver j m) = if is_sleeping n.head.phase then asleep n j m else awake n j m

-- the state after a reaction
abbrev pub after : NodeState → Delta → NodeState
after n d = record n { head = d.head; marks = with_mark n.marks d.mark }

-- the work is none of a port that the node lacks
abbrev pub HasPort : NodeState → Work → Type 0
HasPort n Wake = Unit {0}
HasPort n (Deliver j m) = j < degree n

-- the delta is the node's reaction to some work
pub record IsReaction (n : NodeState) (d : Delta) : Type 0 where
  pub work : Work
  pub port : HasPort n work
  pub is : reaction n work ≡ Some d
