-- The texts of questions that a run asks.
use Rattle.std.specs.Prelude.{ℕ, ◌≡◌, ◌≤◌, true, codes, decimal, ◌++◌, List, Ok}
use Rattle.std.specs.List.{flat_map}
use Rattle.ghs_graph.specs.declared.port.Port.{Port}
use Rattle.own_book.specs.Question.{asked}
use Rattle.own_book.specs.Words.{is_message, is_state}
use Rattle.own_book.specs.declared.question.Asked.TheVariants.{Wake, Take}
use Rattle.peer_words.specs.Text.{key_text}

unfoldable pub key_behind_blank : Port → List ℕ
key_behind_blank p = codes " " ++ key_text p.key

-- `open NODE KEY ..`: the keys of its ports
unfoldable pub open_text : ℕ → List Port → List ℕ
open_text node ports = codes "open " ++ decimal node ++ flat_map key_behind_blank ports

-- `wake NODE STATE`
abbrev pub wake_text : ℕ → List ℕ → List ℕ
wake_text node state = codes "wake " ++ decimal node ++ codes " " ++ state

-- `take NODE PORT MESSAGE STATE`
abbrev pub take_text : ℕ → ℕ → List ℕ → List ℕ → List ℕ
take_text node port message state = codes "take " ++ decimal node ++ codes " " ++ decimal port ++ codes " " ++ message ++ codes " " ++ state

-- of a number of 32 bits and a state it is a question what a node does that wakes
abbrev pub AsksWake : ℕ → List ℕ → Type 0
AsksWake node state = node ≤ 4294967295 → is_state state ≡ true → asked (wake_text node state) ≡ Ok Wake

-- the same of what it does with a message
abbrev pub AsksTake : ℕ → ℕ → List ℕ → List ℕ → Type 0
AsksTake node port message state =
    node ≤ 4294967295 → port ≤ 4294967295 → is_message message ≡ true → is_state state ≡ true →
    asked (take_text node port message state) ≡ Ok Take
