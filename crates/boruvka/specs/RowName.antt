-- The row of the rules by which a node reacts.
use Rattle.std.specs.Prelude.{ℕ, ◌==◌, Option, Some, None, if◌then◌else◌}
use Rattle.ghs_node.specs.Words.{is_at}
use Rattle.peer_machine.specs.declared.work.Work.{Work}
use Rattle.peer_machine.specs.declared.work.Work.TheVariants.{Wake, Deliver}
use Rattle.boruvka_node.specs.declared.message.Message.{Message}
use Rattle.boruvka_node.specs.declared.message.Message.TheVariants.{Connect, Initiate, Name, Report, ChangeRoot}
use Rattle.boruvka_node.specs.Draft.{begun}
use Rattle.boruvka_node.specs.Reaction.{Outcome}
use Rattle.boruvka_node.specs.State.{State}
use Rattle.boruvka.specs.declared.row_name.RowName.{RowName}
use Rattle.boruvka.specs.declared.row_name.RowName.TheVariants as names

-- the state that an outcome leads to
abbrev pub woken_up : Option Outcome → State → State
woken_up None n = n
woken_up (Some o) n = o.state

-- the node as it comes to a message: a sleeper has woken
abbrev pub up : State → State
up n = woken_up (begun n) n

-- over the link that the node has chosen too, or over another one; or late
abbrev pub connect_row : State → ℕ → ℕ → RowName
connect_row n j l = if l == n.head.level then (if is_at n.head.out j then names.ConnectCore else names.ConnectNoted) else names.ConnectLate

abbrev pub message_row : State → ℕ → Message → RowName
message_row n j (Connect l) = connect_row (up n) j l
message_row n j (Initiate l f) = names.InitiateEnters
message_row n j (Name l f) = names.NameHeard
message_row n j (Report w) = names.ReportHeard
message_row n j ChangeRoot = names.RootMoves

abbrev pub row_name : State → Work Message → RowName
row_name n Wake = names.Wakes
row_name n (Deliver j m) = message_row n j m
