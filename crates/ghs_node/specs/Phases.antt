-- Whether two phases are one.
use Rattle.std.specs.Prelude.{Bool, true, false}
use Rattle.ghs_node.specs.declared.message.Phase.{Phase}
use Rattle.ghs_node.specs.declared.message.Phase.TheVariants.{Sleeping, Find, Found}
use Rattle.ghs_node.specs.Words.{is_find, is_sleeping}

abbrev pub same_phase : Phase → Phase → Bool
same_phase Sleeping q = is_sleeping q
same_phase Find q = is_find q
same_phase Found Sleeping = false
same_phase Found Find = false
same_phase Found Found = true
