-- What lines without a fault have said.
use Rattle.std.specs.Prelude.{◌≡◌, length, List}
use Rattle.ghs_lines.specs.Judging.{AreSound}
use Rattle.peer_texts.specs.Reading.{events_in, head_in, judge}
use Rattle.peer_texts.specs.declared.line.Line.{Line}
use Rattle.peer_texts.specs.declared.reading.Reading.{Reading}

-- these lines have been read, and none of them has a fault
pub record HasRead (lines : List Line) (reading : Reading) : Type 0 where
  pub sound : AreSound judge lines
  pub counted : reading.lines ≡ length lines
  pub said : reading.said ≡ head_in lines
  pub events : reading.events.items ≡ events_in lines
