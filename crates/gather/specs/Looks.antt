-- What a page is told of Gather, besides its words.
use Rattle.std.specs.Prelude.{ℕ, ◌==◌, if◌then◌else◌, List}
use Rattle.peer_words.specs.Looks.{Looks}
use Rattle.gather.specs.declared.looks.TheConstants.{BACK, EXPLORE, LOOK, TITLE, TREE}

-- of each kind of messages, by number, as the rules count them
abbrev pub kind_look : ℕ → List ℕ
kind_look k = if k == 0 then EXPLORE.now else (if k == 1 then BACK.now else TREE.now)

abbrev pub looks : Looks
looks = record { title = TITLE.now; kind = kind_look; rest = LOOK.now }
