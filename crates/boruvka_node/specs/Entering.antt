-- A node enters a fragment of the next level: what becomes of each port, and what goes out there.
use Rattle.std.specs.Prelude.{ℕ, suc, not, ◌&&◌, ◌||◌, Option, Some, None, List, [], ◌∷◌, ◌++◌, slice_set, if◌then◌else◌}
use Rattle.ghs_node.specs.Words.{is_at}
use Rattle.peer_machine.specs.Rules.{Outgoing}
use Rattle.boruvka_node.specs.declared.change.Change.{Change}
use Rattle.boruvka_node.specs.declared.change.Entry.{Entry}
use Rattle.boruvka_node.specs.declared.mark.Mark.{Mark}
use Rattle.boruvka_node.specs.declared.mark.Mark.TheVariants.{Basic, Asked, Branch, Inside}
use Rattle.boruvka_node.specs.declared.message.Message.{Message}
use Rattle.boruvka_node.specs.declared.message.Message.TheVariants.{Initiate, Name}
use Rattle.boruvka_node.specs.declared.message.Phase.TheVariants.{Search}
use Rattle.boruvka_node.specs.declared.port_state.PortState.{PortState}
use Rattle.boruvka_node.specs.Words.{is_basic, is_asked, is_branch}
use Rattle.boruvka_node.specs.State.{State, was_heard}

-- `out` and each Asked port become Branch
abbrev pub joined_mark : Entry → ℕ → Mark → Mark
joined_mark e p m = if is_at e.out p || is_asked m then Branch else m

-- the port p by its mark m of now: a Report is owed on each Branch but the parent, and a Basic port where the fragment was heard becomes Inside
abbrev pub entered_port_as : Entry → ℕ → Mark → PortState → PortState
entered_port_as e p m x =
    record x { mark = if is_basic m && was_heard e.level e.name x then Inside else m; owes = is_branch m && not (is_at e.parent p) }

abbrev pub entered_port : Entry → ℕ → PortState → PortState
entered_port e p x = entered_port_as e p (joined_mark e p x.mark) x

-- all ports from p on
abbrev pub entered_from : Entry → ℕ → List PortState → List PortState
entered_from e p [] = []
entered_from e p (x ∷ xs) = entered_port e p x ∷ entered_from e (suc p) xs

-- what is told on port p, by its mark of now: each Branch but the parent is called, each Basic port told the name
abbrev pub told_as : Entry → ℕ → Mark → Outgoing Message
told_as e p Basic = (p, Name e.level e.name) ∷ []
told_as e p Asked = (p, Name e.level e.name) ∷ []
told_as e p Branch = if is_at e.parent p then [] else (p, Initiate e.level e.name) ∷ []
told_as e p Inside = []

abbrev pub told_from : Entry → ℕ → List PortState → Outgoing Message
told_from e p [] = []
told_from e p (x ∷ xs) = told_as e p (joined_mark e p x.mark) ++ told_from e (suc p) xs

-- the node in its new fragment, at the beginning of its search
abbrev pub entered : State → Entry → State
entered n e =
    record n {
      ports = entered_from e 0 n.ports;
      head = record n.head { level = e.level; name = Some e.name; phase = Search; parent = e.parent; best = None; out = None };
    }

abbrev pub with_port : List PortState → Option (ℕ × PortState) → List PortState
with_port ps None = ps
with_port ps (Some x) = slice_set ps x.0 x.1

abbrev pub with_entry : List PortState → Option Entry → List PortState
with_entry ps None = ps
with_entry ps (Some e) = entered_from e 0 ps

-- a node's state after a change
abbrev pub after : State → Change → State
after n c = record n { ports = with_entry (with_port n.ports c.port) c.entry; head = c.head }
