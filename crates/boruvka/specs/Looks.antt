-- What a page is told of Borůvka in step, besides its words.
use Rattle.std.specs.Prelude.{ℕ, ◌==◌, if◌then◌else◌, List}
use Rattle.peer_words.specs.Looks.{Looks}
use Rattle.boruvka.specs.declared.looks.TheConstants.{CHANGEROOT, CONNECT, INITIATE, LOOK, NAME, REPORT, TITLE}

-- of each kind of messages, by number, as the rules count them
abbrev pub kind_look : ℕ → List ℕ
kind_look k =
    if k == 0
    then CONNECT.now
    else (if k == 1
    then INITIATE.now
    else (if k == 2
    then NAME.now
    else (if k == 3
    then REPORT.now
    else CHANGEROOT.now)))

abbrev pub looks : Looks
looks = record { title = TITLE.now; kind = kind_look; rest = LOOK.now }
