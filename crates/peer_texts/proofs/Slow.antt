-- A plain, slow way to what a text is.
use Rattle.std.specs.Prelude.{ℕ, cond, ◌==◌, length, List, Option, Some, None, Result, Ok, Err}
use Rattle.ghs_lines.proofs.lemmas.Judging.{first_fault, or_fault}
use Rattle.peer_network.specs.declared.event.Event.{Event}
use Rattle.peer_texts.specs.Line.{meanings}
use Rattle.peer_texts.specs.Reading.{events_in, head_in, judge, of_line}
use Rattle.peer_texts.specs.declared.fault.TraceFault.{TraceFault}
use Rattle.peer_texts.specs.declared.fault.TraceFault.TheVariants.{BadLine, Count}
use Rattle.peer_texts.specs.declared.line.Line.{Line}

-- what sound lines are
abbrev pub sound_lines : List Line → Option ℕ → Result (List Event) TraceFault
sound_lines lines None = Err (BadLine 1)
sound_lines lines (Some said) = let found = length (events_in lines) in cond (said == found) (Ok (events_in lines)) (Err (Count said found))

-- what lines are
abbrev pub slow_lines : List Line → Result (List Event) TraceFault
slow_lines lines = or_fault (first_fault judge of_line lines (length lines)) (sound_lines lines (head_in lines))

-- what a text is
abbrev pub slow_text : List ℕ → Result (List Event) TraceFault
slow_text text = slow_lines (meanings text)
