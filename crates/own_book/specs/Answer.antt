-- Answers, and what each says.
use Rattle.std.specs.Prelude.{ℕ, ◌≡◌, Bool, true, false, codes, cond, drop, take, ◌&&◌, List, [], Option, Some, None}
use Rattle.std.specs.List.{filter_map, list_all}
use Rattle.std.specs.Option.{is_some, option_map}
use Rattle.std.specs.Str.{bytes_eq}
use Rattle.own_book.specs.Parts.{closed, cut_at, fields_at, parts_at}
use Rattle.own_book.specs.Words.{is_message, is_state, is_word, plain_number}
use Rattle.own_book.specs.declared.answer.Answer.{Answer}
use Rattle.own_book.specs.declared.answer.Answer.TheVariants as answer
use Rattle.own_book.specs.declared.answer.Sent.{Sent}
use Rattle.own_book.specs.declared.kind.ArgumentType.{ArgumentType}
use Rattle.own_book.specs.declared.kind.ArgumentType.TheVariants as type
use Rattle.own_book.specs.declared.kind.Kind.{Kind}
use Rattle.own_book.specs.declared.question.Asked.{Asked}
use Rattle.own_book.specs.declared.question.Asked.TheVariants as asked

-- what an answer says: the protocol's name and its kinds of messages, the state after an opening, a reaction, or why there is none
pub data Saying : Type 0 where
  greets : (name kinds : List ℕ) → Saying
  opens : (state : List ℕ) → Saying
  reacts : (state : List ℕ) (waits : Bool) (sends : List ℕ) → Saying
  gives_up : (why : List ℕ) → Saying

-- the type of an argument: a word that is known, or how many bits it has
abbrev pub type_of : List ℕ → Option ArgumentType
type_of field =
    cond (bytes_eq field (codes "level")) (Some type.Level)
    (cond (bytes_eq field (codes "node")) (Some type.Node)
    (cond (bytes_eq field (codes "weight")) (Some type.Weight)
    (cond (bytes_eq field (codes "count")) (Some type.Count)
    (cond (bytes_eq field (codes "key")) (Some type.Key)
    (cond (bytes_eq field (codes "key?")) (Some type.MaybeKey)
    (cond (bytes_eq field (codes "keys")) (Some type.Keys)
    (cond (bytes_eq field (codes "bit")) (Some type.Bit)
    (cond (bytes_eq field (codes "text")) (Some type.Text)
    (option_map (λ bits. type.Bits bits) (plain_number field))))))))))

abbrev pub is_type : List ℕ → Bool
is_type field = is_some (type_of field)

-- types, a `,` between two, or nothing
abbrev pub are_types : List ℕ → Bool
are_types types = list_all is_type (fields_at 44 types)

abbrev pub types_in : List ℕ → List ArgumentType
types_in types = filter_map type_of (fields_at 44 types)

-- the name of a kind of messages, and the types of its arguments: `KIND(TYPE,..)`
abbrev pub kind_closed : List ℕ → Option (List ℕ) → Option (List ℕ × List ℕ)
kind_closed name None = None
kind_closed name (Some types) = cond (is_word name && are_types types) (Some (name, types)) None

abbrev pub kind_cut : Option (List ℕ × List ℕ) → Option (List ℕ × List ℕ)
kind_cut None = None
kind_cut (Some (name, rest)) = kind_closed name (closed rest)

abbrev pub kind_of : List ℕ → Option (List ℕ × List ℕ)
kind_of field = kind_cut (cut_at 40 field)

abbrev pub is_kind : List ℕ → Bool
is_kind field = is_some (kind_of field)

abbrev pub are_kinds : List ℕ → Bool
are_kinds kinds = list_all is_kind (fields_at 32 kinds)

abbrev pub kinds_in : List ℕ → List (List ℕ × List ℕ)
kinds_in kinds = filter_map kind_of (fields_at 32 kinds)

-- the port and the message that is sent there: `PORT>MESSAGE`
abbrev pub sent_cut : Option (List ℕ × List ℕ) → Option (ℕ × List ℕ)
sent_cut None = None
sent_cut (Some (port, message)) = cond (is_message message) (option_map {U = ℕ × List ℕ} (λ number. (number, message)) (plain_number port)) None

abbrev pub sent_of : List ℕ → Option (ℕ × List ℕ)
sent_of field = sent_cut (cut_at 62 field)

abbrev pub is_send : List ℕ → Bool
is_send field = is_some (sent_of field)

abbrev pub are_sends : List ℕ → Bool
are_sends sends = list_all is_send (fields_at 32 sends)

-- what is sent, in order
abbrev pub sends_in : List ℕ → List (ℕ × List ℕ)
sends_in sends = filter_map sent_of (fields_at 32 sends)

-- `NAME KIND(TYPE,..) ..`
abbrev pub greeting_said : Option (List ℕ × List ℕ) → Option Saying
greeting_said None = None
greeting_said (Some (name, kinds)) = cond (is_word name && list_all is_kind (parts_at 32 kinds)) (Some (greets name kinds)) None

-- `own 1 ` and what is behind it
abbrev pub greeting_in : List ℕ → Option Saying
greeting_in answer = cond (bytes_eq (take 6 answer) (codes "own 1 ")) (greeting_said (cut_at 32 (drop 6 answer))) None

abbrev pub opening_in : List ℕ → Option Saying
opening_in answer = cond (is_state answer) (Some (opens answer)) None

-- whether the message waits: `done` or `wait`; a wake has no message that could
abbrev pub waits_in : Bool → List ℕ → Option Bool
waits_in has_message verdict =
    cond (bytes_eq verdict (codes "done")) (Some false)
    (cond (bytes_eq verdict (codes "wait") && has_message) (Some true) None)

-- a verdict, and what is sent in order
abbrev pub verdict_said : Bool → List ℕ → List ℕ → Option (List ℕ × List ℕ) → Option Saying
verdict_said has_message state verdict None = option_map (λ waits. reacts state waits []) (waits_in has_message verdict)
verdict_said has_message state rest (Some (verdict, sends)) =
    cond (list_all is_send (parts_at 32 sends)) (option_map (λ waits. reacts state waits sends) (waits_in has_message verdict)) None

-- `STATE done|wait PORT>MESSAGE ..`
abbrev pub reaction_said : Bool → Option (List ℕ × List ℕ) → Option Saying
reaction_said has_message None = None
reaction_said has_message (Some (state, rest)) = cond (is_state state) (verdict_said has_message state rest (cut_at 32 rest)) None

abbrev pub reaction_in : Bool → List ℕ → Option Saying
reaction_in has_message answer = reaction_said has_message (cut_at 32 answer)

-- an answer to what is asked for
abbrev pub answered : Asked → List ℕ → Option Saying
answered asked.Greeting answer = greeting_in answer
answered asked.Opening answer = opening_in answer
answered asked.Wake answer = reaction_in false answer
answered asked.Take answer = reaction_in true answer

-- what an answer says; `! ` and any text is an answer to every question
abbrev pub saying : Asked → List ℕ → Option Saying
saying question answer = cond (bytes_eq (take 2 answer) (codes "! ")) (Some (gives_up (drop 2 answer))) (answered question answer)

-- what a read answer says
abbrev pub said_by : Answer → Saying
said_by (answer.Greeting name kinds) = greets name.now kinds.now
said_by (answer.State state) = opens state.now
said_by (answer.Reaction state waits sends) = reacts state.now waits sends.now
said_by (answer.GivesUp why) = gives_up why.now

-- its kinds, or what it sends, can be read one after the other
abbrev pub IsReadable : Answer → Type 0
IsReadable (answer.Greeting name kinds) = are_kinds kinds.now ≡ true
IsReadable (answer.State state) = Unit {0}
IsReadable (answer.Reaction state waits sends) = are_sends sends.now ≡ true
IsReadable (answer.GivesUp why) = Unit {0}

-- what is read of a send and of a kind
abbrev pub sent_by : Sent → ℕ × List ℕ
sent_by sent = (sent.port, sent.message.now)

abbrev pub kind_by : Kind → List ℕ × List ℕ
kind_by kind = (kind.name.now, kind.types.now)
