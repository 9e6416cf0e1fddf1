-- The words of the echo wave.
use Rattle.std.specs.Prelude.{ℕ, zero, suc, ◌==◌, List, [], ◌∷◌, ◌++◌, codes, if◌then◌else◌}
use Rattle.peer_words.specs.declared.spoken.Touched.{Touched}
use Rattle.peer_words.specs.declared.spoken.Touched.TheVariants.{NoPort, AllPorts}
use Rattle.peer_words.specs.declared.value.Said.{Said}
use Rattle.peer_words.specs.declared.value.Saying.{Saying}
use Rattle.peer_words.specs.declared.value.Value.TheVariants.{Flag, Number, Port, Word}
use Rattle.peer_words.specs.Words.{Words}
use Rattle.echo.specs.declared.node.Change.{Change}
use Rattle.echo.specs.declared.node.Change.TheVariants.{Joins, Awaits}
use Rattle.echo.specs.declared.node.Message.{Message}
use Rattle.echo.specs.declared.node.Message.TheVariants.{Explore, Echo}
use Rattle.echo.specs.declared.node.Node.{Node}
use Rattle.echo.specs.declared.row_name.RowName.{RowName}
use Rattle.echo.specs.declared.row_name.RowName.TheVariants as names
use Rattle.echo.specs.Echo.{echo, is_left_out}
use Rattle.echo.specs.RowName.{row_name}

abbrev pub row_word : RowName → List ℕ
row_word names.Wakes = codes "Wakes"
row_word names.Joins = codes "Joins"
row_word names.Hears = codes "Hears"

-- by number, as the rules count them
abbrev pub kind_word : ℕ → List ℕ
kind_word zero = codes "explore"
kind_word (suc k) = codes "echo"

abbrev pub says : Message → Saying
says Explore = record { kind = codes "explore"; carried = [] }
says Echo = record { kind = codes "echo"; carried = [] }

-- a node sleeps, has asked and awaits answers, or awaits none
abbrev pub phase_word : Node → List ℕ
phase_word n = if n.head.awake then (if n.head.awaits == 0 then codes "answered" else codes "asking") else codes "sleeping"

-- of who takes part, and of how far the wave has come
abbrev pub wave_variables : Node → List Said
wave_variables n =
    record { name = codes "phase"; value = Word (phase_word n) }
    ∷ record { name = codes "parent"; value = Port n.head.parent }
    ∷ []

abbrev pub state_variables : Node → List Said
state_variables n =
    record { name = codes "awaits"; value = Number n.head.awaits }
    ∷ record { name = codes "halted"; value = Flag (echo.has_halted n) }
    ∷ []

-- a port of a node that takes part is its parent, or was asked
abbrev pub mark_of : Node → ℕ → List ℕ
mark_of n p = if n.head.awake then (if is_left_out n.head.parent p then codes "parent" else codes "asked") else codes "basic"

abbrev pub words : Words Node Message
words = record {
  name = codes "echo";
  says = says;
  kind = kind_word;
  row = λ n k. row_word (row_name n k);
  variables = λ n. wave_variables n ++ state_variables n;
  mark = mark_of;
}

-- all ports of a node that joins
abbrev pub touched_by : Change → Touched
touched_by (Joins parent awaits) = AllPorts
touched_by (Awaits k) = NoPort
