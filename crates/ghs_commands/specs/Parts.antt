-- The parts by which the messages of a run are counted.
use Rattle.std.specs.Prelude.{Bool, true, false, ◌&&◌, ◌||◌, not, codes, cond, Option, Some, None, is_none, is_some}
use Rattle.std.specs.Str.{bytes_eq}
use Rattle.clap.specs.Words.{Text}
use Rattle.ghs_choices.specs.declared.by.By.{By}
use Rattle.ghs_choices.specs.declared.by.By.TheVariants.{Node, Level, Rule}

-- the part of a name
abbrev pub by_named : Text → Option By
by_named name =
    cond (bytes_eq name (codes "node")) (Some Node)
    (cond (bytes_eq name (codes "level")) (Some Level) (cond (bytes_eq name (codes "rule")) (Some Rule) None))

-- a value that isn't given, or the name of a part
abbrev pub is_part : Option Text → Bool
is_part None = true
is_part (Some name) = is_some (by_named name)

-- the value is this one
abbrev pub is_said : Text → Option Text → Bool
is_said text None = false
is_said text (Some value) = bytes_eq value text

-- Parts are counted run by run, so `--by` goes with lines of runs alone; and a picture has no lines, so it doesn't go with `--json`.
abbrev pub go_together : Option Text → Option Text → Option Text → Bool
go_together sheet by json = (is_none by || is_said (codes "runs") sheet) && not (is_said (codes "chart") sheet && is_said (codes "true") json)
