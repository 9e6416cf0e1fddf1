-- Small words on marks and phases.
use Rattle.std.specs.Prelude.{Bool, true, false}
use Rattle.boruvka_node.specs.declared.mark.Mark.{Mark}
use Rattle.boruvka_node.specs.declared.mark.Mark.TheVariants.{Basic, Asked, Branch, Inside}
use Rattle.boruvka_node.specs.declared.message.Phase.{Phase}
use Rattle.boruvka_node.specs.declared.message.Phase.TheVariants.{Sleeping, Search, Rest}

-- untested as Basic is; an Asked port is so too
abbrev pub is_basic : Mark → Bool
is_basic Basic = true
is_basic Asked = true
is_basic Branch = false
is_basic Inside = false

abbrev pub is_asked : Mark → Bool
is_asked Basic = false
is_asked Asked = true
is_asked Branch = false
is_asked Inside = false

abbrev pub is_branch : Mark → Bool
is_branch Basic = false
is_branch Asked = false
is_branch Branch = true
is_branch Inside = false

abbrev pub is_sleeping : Phase → Bool
is_sleeping Sleeping = true
is_sleeping Search = false
is_sleeping Rest = false

abbrev pub is_search : Phase → Bool
is_search Sleeping = false
is_search Search = true
is_search Rest = false

abbrev pub is_rest : Phase → Bool
is_rest Sleeping = false
is_rest Search = false
is_rest Rest = true
