-- The texts of a book: the states and messages that its answers say, each with a number, and the kinds of its messages.
use Rattle.std.specs.Prelude.{ℕ, codes, find, fold, map, List, [], ◌∷◌, ◌++◌, ◌-◌, suc, length, Option, Some, None, Result, Ok, Err, position, unwrap_or, slice_index_or, if◌then◌else◌}
use Rattle.std.specs.List.{flat_map, list_any, position_or_len}
use Rattle.std.specs.Str.{bytes_eq}
use Rattle.own_book.specs.Sends.{kind_in}
use Rattle.own_book.specs.Answer.{Saying, greets, opens, reacts, gives_up, kinds_in, saying, sends_in}
use Rattle.own_book.specs.Entry.{Entry, told_in}
use Rattle.own_book.specs.Parts.{cut_at}
use Rattle.own_book.specs.Question.{asked}
use Rattle.own_book.specs.declared.fault.LineFault.{LineFault}
use Rattle.own_book.specs.declared.question.Asked.{Asked}
use Rattle.own_book.specs.declared.question.Asked.TheVariants.{Greeting}

abbrev pub Text : Type 0
Text = List ℕ

-- messages without their ports
abbrev pub messages_of : List (ℕ × Text) → List Text
messages_of sends = map (λ (s : ℕ × Text). s.1) sends

-- the states and messages that an answer says, in order
abbrev pub texts_said : Option Saying → List Text
texts_said None = []
texts_said (Some (greets name kinds)) = []
texts_said (Some (opens state)) = state ∷ []
texts_said (Some (reacts state waits sends)) = state ∷ messages_of (sends_in sends)
texts_said (Some (gives_up why)) = []

abbrev pub said_to : Result Asked LineFault → Text → Option Saying
said_to (Err fault) answer = None
said_to (Ok question) answer = saying question answer

abbrev pub texts_in : Entry → List Text
texts_in e = texts_said (said_to (asked e.question) e.answer)

-- a text that is new goes to the end
abbrev pub noted : List Text → Text → List Text
noted texts text = if list_any (bytes_eq text) texts then texts else texts ++ text ∷ []

-- each text once, in the order in which the book first says it
abbrev pub texts_of : List Entry → List Text
texts_of book = fold noted [] (flat_map texts_in book)

-- the number of a text, and the text of a number; a text that the book never says has the number behind all others
abbrev pub number_in : List Text → Text → ℕ
number_in texts text = position_or_len (bytes_eq text) texts

abbrev pub text_at : List Text → ℕ → Text
text_at texts number = slice_index_or texts number []

-- the kinds of messages that the book's greeting names
abbrev pub kinds_greeted : Option Saying → Text
kinds_greeted (Some (greets name kinds)) = kinds
kinds_greeted other = []

abbrev pub kinds_told : Option (ℕ × Text) → Text
kinds_told None = []
kinds_told (Some told) = kinds_greeted (saying Greeting told.1)

abbrev pub kinds_of : List Entry → Text
kinds_of book = kinds_told (told_in book (codes "own 1"))

-- the name that it gives the protocol; a dash where it gives none
abbrev pub name_greeted : Option Saying → Text
name_greeted (Some (greets name kinds)) = name
name_greeted other = codes "-"

abbrev pub name_told : Option (ℕ × Text) → Text
name_told None = codes "-"
name_told (Some told) = name_greeted (saying Greeting told.1)

abbrev pub name_of : List Entry → Text
name_of book = name_told (told_in book (codes "own 1"))

-- the name of each kind, once
abbrev pub names_of : Text → List Text
names_of kinds = fold noted [] (map (λ (k : Text × Text). k.0) (kinds_in kinds))

-- the types of the arguments of the first kind with a name, as the greeting spells them
abbrev pub types_told : Option (Text × Text) → Text
types_told None = []
types_told (Some (name, types)) = types

abbrev pub types_of : Text → Text → Text
types_of kinds name = types_told (find (λ k. bytes_eq k.0 name) (kinds_in kinds))

-- how many kinds there are, one at least
abbrev pub kinds_many : Text → ℕ
kinds_many kinds = suc (length (names_of kinds) - 1)

-- the kind of a message among them; the first where it is of none
abbrev pub kind_among : Text → Text → ℕ
kind_among kinds message = unwrap_or (position (bytes_eq (kind_in message (cut_at 40 message))) (names_of kinds)) 0
