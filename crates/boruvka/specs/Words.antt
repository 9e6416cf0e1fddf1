-- The words of Borůvka in step.
use Rattle.std.specs.Prelude.{ℕ, ◌==◌, if◌then◌else◌, List, [], ◌∷◌, ◌++◌, Option, Some, None, codes, slice_index_or}
use Rattle.ghs_graph.specs.declared.key.Key.{Key}
use Rattle.peer_words.specs.declared.spoken.Touched.{Touched}
use Rattle.peer_words.specs.declared.spoken.Touched.TheVariants.{NoPort, OnePort, AllPorts}
use Rattle.peer_words.specs.declared.value.Said.{Said}
use Rattle.peer_words.specs.declared.value.Saying.{Saying}
use Rattle.peer_words.specs.declared.value.Value.TheVariants.{Best, Flag, Link, Number, Port, Word}
use Rattle.peer_words.specs.Words.{Words}
use Rattle.boruvka_node.specs.declared.change.Change.{Change}
use Rattle.boruvka_node.specs.declared.change.Entry.{Entry}
use Rattle.boruvka_node.specs.declared.head.Head.{Head}
use Rattle.boruvka_node.specs.declared.mark.Mark.{Mark}
use Rattle.boruvka_node.specs.declared.mark.Mark.TheVariants as marks
use Rattle.boruvka_node.specs.declared.message.Message.{Message}
use Rattle.boruvka_node.specs.declared.message.Message.TheVariants.{Connect, Initiate, Name, Report, ChangeRoot}
use Rattle.boruvka_node.specs.declared.message.Phase.{Phase}
use Rattle.boruvka_node.specs.declared.message.Phase.TheVariants.{Sleeping, Search, Rest}
use Rattle.boruvka_node.specs.declared.port_state.PortState.{PortState}
use Rattle.boruvka_node.specs.State.{State, no_port}
use Rattle.boruvka.specs.declared.row_name.RowName.{RowName}
use Rattle.boruvka.specs.declared.row_name.RowName.TheVariants as names
use Rattle.boruvka.specs.RowName.{row_name}

abbrev pub phase_word : Phase → List ℕ
phase_word Sleeping = codes "sleeping"
phase_word Search = codes "search"
phase_word Rest = codes "rest"

abbrev pub mark_word : Mark → List ℕ
mark_word marks.Basic = codes "basic"
mark_word marks.Asked = codes "asked"
mark_word marks.Branch = codes "branch"
mark_word marks.Inside = codes "inside"

-- docs/FORMATS.md says to which line of the rules each name belongs
abbrev pub row_word : RowName → List ℕ
row_word names.Wakes = codes "Wakes"
row_word names.ConnectNoted = codes "Connect_noted"
row_word names.ConnectCore = codes "Connect_core"
row_word names.ConnectLate = codes "Connect_late"
row_word names.InitiateEnters = codes "Initiate_enters"
row_word names.NameHeard = codes "Name_heard"
row_word names.ReportHeard = codes "Report_heard"
row_word names.RootMoves = codes "Root_moves"

-- by number, as the rules count them
abbrev pub kind_word : ℕ → List ℕ
kind_word k =
    if k == 0
    then codes "connect"
    else (if k == 1
    then codes "initiate"
    else (if k == 2
    then codes "name"
    else (if k == 3
    then codes "report"
    else codes "changeroot")))

abbrev pub level_said : ℕ → Said
level_said l = record { name = codes "level"; value = Number l }

abbrev pub key_said : Option Key → Said
key_said k = record { name = codes "key"; value = Link k }

abbrev pub says : Message → Saying
says (Connect l) = record { kind = codes "connect"; carried = level_said l ∷ [] }
says (Initiate l f) = record { kind = codes "initiate"; carried = level_said l ∷ key_said (Some f) ∷ [] }
says (Name l f) = record { kind = codes "name"; carried = level_said l ∷ key_said (Some f) ∷ [] }
says (Report w) = record { kind = codes "report"; carried = key_said w ∷ [] }
says ChangeRoot = record { kind = codes "changeroot"; carried = [] }

-- of the fragment, of the way to its root, and of the search
abbrev pub fragment_variables : Head → List Said
fragment_variables h =
    record { name = codes "level"; value = Number h.level }
    ∷ record { name = codes "name"; value = Link h.name }
    ∷ []

abbrev pub phase_variables : Head → List Said
phase_variables h =
    record { name = codes "phase"; value = Word (phase_word h.phase) }
    ∷ record { name = codes "parent"; value = Port h.parent }
    ∷ []

abbrev pub search_variables : Head → List Said
search_variables h =
    record { name = codes "best"; value = Best h.best }
    ∷ record { name = codes "out"; value = Port h.out }
    ∷ record { name = codes "halted"; value = Flag h.halted }
    ∷ []

abbrev pub mark_of : List PortState → ℕ → List ℕ
mark_of ps p = mark_word (slice_index_or ps p no_port).mark

abbrev pub words : Words State Message
words = record {
  name = codes "boruvka";
  says = says;
  kind = kind_word;
  row = λ n k. row_word (row_name n k);
  variables = λ n. fragment_variables n.head ++ phase_variables n.head ++ search_variables n.head;
  mark = λ n p. mark_of n.ports p;
}

-- all ports of a node that enters a fragment, else one that changes by itself
abbrev pub touched_of : Option (ℕ × PortState) → Option Entry → Touched
touched_of x (Some e) = AllPorts
touched_of None None = NoPort
touched_of (Some x) None = OnePort x.0

abbrev pub touched_by : Change → Touched
touched_by c = touched_of c.port c.entry
