-- What the end of a run is checked for, as a value.
use Rattle.std.specs.Prelude.{Bool, true, codes, cond, Option, Some, None, is_some}
use Rattle.std.specs.Str.{bytes_eq}
use Rattle.clap.specs.Words.{Text}
use Rattle.ghs_choices.specs.declared.check.Check.{Check}
use Rattle.ghs_choices.specs.declared.check.Check.TheVariants.{Halted, Leader, Spanning, Tree}

-- the check of a name
abbrev pub check_named : Text → Option Check
check_named name =
    cond (bytes_eq name (codes "tree")) (Some Tree)
    (cond (bytes_eq name (codes "spanning")) (Some Spanning)
    (cond (bytes_eq name (codes "leader")) (Some Leader) (cond (bytes_eq name (codes "halted")) (Some Halted) None)))

-- a value that isn't given, or the name of a check
abbrev pub is_check : Option Text → Bool
is_check None = true
is_check (Some name) = is_some (check_named name)
