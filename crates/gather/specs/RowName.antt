-- The row of the rules by which a node reacts.
use Rattle.std.specs.Prelude.{ℕ, Option, Some, None, ◌==◌, nat_lt, if◌then◌else◌}
use Rattle.peer_machine.specs.declared.work.Work.{Work}
use Rattle.peer_machine.specs.declared.work.Work.TheVariants.{Wake, Deliver}
use Rattle.gather_node.specs.declared.message.Message.{Message}
use Rattle.gather_node.specs.declared.message.Message.TheVariants.{Explore, Back, Tree}
use Rattle.gather_node.specs.State.{State, is_that}
use Rattle.gather.specs.declared.row_name.RowName.{RowName}
use Rattle.gather.specs.declared.row_name.RowName.TheVariants as names

-- an Explore of this wave, at a sleeper or at a node of a wave of its own
abbrev pub explore_row : Option ℕ → ℕ → RowName
explore_row None x = names.Joins
explore_row (Some own) x = if nat_lt x own then names.Leaves else (if own == x then names.Hears else names.Ignores)

abbrev pub back_row : Option ℕ → ℕ → RowName
back_row own x = if is_that own x then names.Gathers else names.Ignores

abbrev pub message_row : Option ℕ → Message → RowName
message_row own (Explore x) = explore_row own x
message_row own (Back x ks) = back_row own x
message_row own (Tree ks) = names.Told

abbrev pub row_name : State → Work Message → RowName
row_name n Wake = names.Wakes
row_name n (Deliver p m) = message_row n.head.wave m
