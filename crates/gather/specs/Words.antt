-- The words of Gather.
use Rattle.std.specs.Prelude.{ℕ, ◌==◌, if◌then◌else◌, Bool, true, false, not, is_none, List, [], ◌∷◌, ◌++◌, map, Option, Some, None, codes, slice_index_or}
use Rattle.ghs_graph.specs.declared.key.Key.{Key}
use Rattle.peer_words.specs.declared.spoken.Touched.{Touched}
use Rattle.peer_words.specs.declared.spoken.Touched.TheVariants.{NoPort, OnePort, AllPorts}
use Rattle.peer_words.specs.declared.value.Said.{Said}
use Rattle.peer_words.specs.declared.value.Saying.{Saying}
use Rattle.peer_words.specs.declared.value.Value.TheVariants.{Flag, Links, Number, Port, Word}
use Rattle.peer_words.specs.Words.{Words}
use Rattle.gather_node.specs.declared.change.Change.{Change}
use Rattle.gather_node.specs.declared.head.Head.{Head}
use Rattle.gather_node.specs.declared.message.Message.{Message}
use Rattle.gather_node.specs.declared.message.Message.TheVariants.{Explore, Back, Tree}
use Rattle.gather_node.specs.State.{State}
use Rattle.gather.specs.declared.row_name.RowName.{RowName}
use Rattle.gather.specs.declared.row_name.RowName.TheVariants as names
use Rattle.gather.specs.RowName.{row_name}

abbrev pub row_word : RowName → List ℕ
row_word names.Wakes = codes "Wakes"
row_word names.Joins = codes "Joins"
row_word names.Leaves = codes "Leaves"
row_word names.Hears = codes "Hears"
row_word names.Gathers = codes "Gathers"
row_word names.Ignores = codes "Ignores"
row_word names.Told = codes "Told"

-- by number, as the rules count them
abbrev pub kind_word : ℕ → List ℕ
kind_word k = if k == 0 then codes "explore" else (if k == 1 then codes "back" else codes "tree")

abbrev pub wave_said : ℕ → Said
wave_said x = record { name = codes "wave"; value = Number x }

abbrev pub links_said : List Key → Said
links_said ks = record { name = codes "links"; value = Links ks }

abbrev pub says : Message → Saying
says (Explore x) = record { kind = codes "explore"; carried = wave_said x ∷ [] }
says (Back x ks) = record { kind = codes "back"; carried = wave_said x ∷ links_said ks ∷ [] }
says (Tree ks) = record { kind = codes "tree"; carried = links_said ks ∷ [] }

-- a node sleeps, has asked and awaits answers, or awaits none
abbrev pub phase_word : Head → List ℕ
phase_word h = if is_none h.wave then codes "sleeping" else (if h.awaits == 0 then codes "answered" else codes "asking")

-- nodes, and so waves, count from 1
abbrev pub wave_number : Option ℕ → ℕ
wave_number None = 0
wave_number (Some x) = x

abbrev pub wave_variables : Head → List Said
wave_variables h =
    record { name = codes "phase"; value = Word (phase_word h) }
    ∷ record { name = codes "wave"; value = Number (wave_number h.wave) }
    ∷ record { name = codes "parent"; value = Port h.parent }
    ∷ []

abbrev pub state_variables : Head → List Said
state_variables h =
    record { name = codes "awaits"; value = Number h.awaits }
    ∷ record { name = codes "halted"; value = Flag h.halted }
    ∷ []

-- links have come at the port
abbrev pub has_brought : List (Option (List Key)) → ℕ → Bool
has_brought bs p = not (is_none (slice_index_or bs p None))

-- a link of the tree; else one to a child, which has sent its links
abbrev pub mark_by : List Bool → List (Option (List Key)) → ℕ → List ℕ
mark_by ms bs p = if slice_index_or ms p false then codes "branch" else (if has_brought bs p then codes "child" else codes "basic")

abbrev pub mark_of : State → ℕ → List ℕ
mark_of n p = mark_by n.branches n.brought p

abbrev pub words : Words State Message
words = record {
  name = codes "gather";
  says = says;
  kind = kind_word;
  row = λ n k. row_word (row_name n k);
  variables = λ n. wave_variables n.head ++ state_variables n.head;
  mark = mark_of;
}

-- all ports of a node that forgets what has come, or marks its links of the tree; else that at which links come
abbrev pub touched_of : Bool → Option (ℕ × List Key) → Option (List Key) → Touched
touched_of true x t = AllPorts
touched_of false x (Some ks) = AllPorts
touched_of false None None = NoPort
touched_of false (Some x) None = OnePort x.0

abbrev pub touched_by : Change → Touched
touched_by c = touched_of c.forgets c.brought c.tree
