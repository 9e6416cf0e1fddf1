-- What a question asks of a node at an event, by its parts.
use Rattle.std.specs.Prelude.{ℕ, codes, cond, List, [], ◌∷◌, Option, Some, None}
use Rattle.std.specs.Option.{option_map}
use Rattle.std.specs.Str.{bytes_eq}
use Rattle.own_book.specs.Parts.{cut_at, parts_at}
use Rattle.own_book.specs.Words.{plain_number}
use Rattle.own_book.specs.declared.question.Query.{Query}
use Rattle.own_book.specs.declared.question.Query.TheVariants as query

-- what this node does in this state when it wakes by itself, or with this message, which came in at this port
pub data Asking : Type 0 where
  wakes : (node : ℕ) (state : List ℕ) → Asking
  takes : (node port : ℕ) (message state : List ℕ) → Asking

-- `NODE STATE`
abbrev pub wake_asking : List (List ℕ) → Option Asking
wake_asking (node ∷ state ∷ []) = option_map (λ v. wakes v state) (plain_number node)
wake_asking _ = None

-- `NODE PORT MESSAGE STATE`
abbrev pub takes_by : Option ℕ → Option ℕ → List ℕ → List ℕ → Option Asking
takes_by (Some node) (Some port) message state = Some (takes node port message state)
takes_by _ _ message state = None

abbrev pub take_asking : List (List ℕ) → Option Asking
take_asking (node ∷ port ∷ message ∷ state ∷ []) = takes_by (plain_number node) (plain_number port) message state
take_asking _ = None

-- the first word says which question it is
abbrev pub asking_by : Option (List ℕ × List ℕ) → Option Asking
asking_by None = None
asking_by (Some (word, rest)) =
    cond (bytes_eq word (codes "wake")) (wake_asking (parts_at 32 rest))
    (cond (bytes_eq word (codes "take")) (take_asking (parts_at 32 rest)) None)

-- what a question asks of a node at an event; none where it asks something else, or is none
abbrev pub asking_of : List ℕ → Option Asking
asking_of question = asking_by (cut_at 32 question)

-- what is read of a question
abbrev pub asked_by : Query → Asking
asked_by (query.Wake node state) = wakes node state.now
asked_by (query.Take node port message state) = takes node port message.now state.now
