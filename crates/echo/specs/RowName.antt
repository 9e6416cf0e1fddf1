-- The row of the rules by which a node reacts.
use Rattle.std.specs.Prelude.{if◌then◌else◌}
use Rattle.peer_machine.specs.declared.work.Work.{Work}
use Rattle.peer_machine.specs.declared.work.Work.TheVariants.{Wake, Deliver}
use Rattle.echo.specs.declared.node.Message.{Message}
use Rattle.echo.specs.declared.node.Node.{Node}
use Rattle.echo.specs.declared.row_name.RowName.{RowName}
use Rattle.echo.specs.declared.row_name.RowName.TheVariants as names

abbrev pub row_name : Node → Work Message → RowName
row_name n Wake = names.Wakes
row_name n (Deliver p m) = if n.head.awake then names.Hears else names.Joins
