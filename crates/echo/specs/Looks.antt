-- What a page is told of the echo wave, besides its words.
use Rattle.std.specs.Prelude.{ℕ, ◌==◌, if◌then◌else◌, List}
use Rattle.peer_words.specs.Looks.{Looks}
use Rattle.echo.specs.declared.looks.TheConstants.{ECHO, EXPLORE, LOOK, TITLE}

-- of each kind of messages, by number, as the rules count them
abbrev pub kind_look : ℕ → List ℕ
kind_look k = if k == 0 then EXPLORE.now else ECHO.now

abbrev pub looks : Looks
looks = record { title = TITLE.now; kind = kind_look; rest = LOOK.now }
