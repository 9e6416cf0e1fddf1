-- What the book is asked, and which entry answers.
use Rattle.std.specs.Prelude.{ℕ, Bool, false, find, position, ◌==◌, ◌&&◌, List, Option, Some, None}
use Rattle.std.specs.Option.{option_map}
use Rattle.std.specs.Str.{bytes_eq}
use Rattle.own_book.specs.Asking.{take_text, wake_text}
use Rattle.own_book.specs.Entry.{Entry}
use Rattle.own_book.specs.Query.{Asking, asking_of, takes, wakes}
use Rattle.own_book.specs.declared.question.Asked.{Asked}
use Rattle.own_book.specs.declared.question.Asked.TheVariants as asked
use Rattle.own_rules.specs.Texts.{Text, text_at}
use Rattle.own_rules.specs.declared.node.Lookup.{Lookup}
use Rattle.own_rules.specs.declared.node.Lookup.TheVariants.{Wake, Take}

-- the question of a lookup
abbrev pub lookup_text : List Text → Lookup → Text
lookup_text texts (Wake v s) = wake_text v (text_at texts s)
lookup_text texts (Take v p m s) = take_text v p (text_at texts m) (text_at texts s)

-- what it asks for
abbrev pub asked_for : Lookup → Asked
asked_for (Wake v s) = asked.Wake
asked_for (Take v p m s) = asked.Take

-- a question's lookup, where the book says its texts
abbrev pub take_lookup : ℕ → ℕ → Option ℕ → Option ℕ → Option Lookup
take_lookup v p (Some m) (Some s) = Some (Take v p m s)
take_lookup v p _ _ = None

abbrev pub lookup_by : List Text → Option Asking → Option Lookup
lookup_by texts None = None
lookup_by texts (Some (wakes v state)) = option_map (λ s. Wake v s) (position (bytes_eq state) texts)
lookup_by texts (Some (takes v p message state)) = take_lookup v p (position (bytes_eq message) texts) (position (bytes_eq state) texts)

abbrev pub lookup_of : List Text → Entry → Option Lookup
lookup_of texts e = lookup_by texts (asking_of e.question)

abbrev pub same_lookup : Lookup → Lookup → Bool
same_lookup (Wake v s) (Wake w t) = v == w && s == t
same_lookup (Take v p m s) (Take w q n t) = v == w && (p == q && (m == n && s == t))
same_lookup _ _ = false

-- the entry's question asks just this
abbrev pub is_lookup : Lookup → Option Lookup → Bool
is_lookup l None = false
is_lookup l (Some other) = same_lookup l other

abbrev pub asks : List Text → Lookup → Entry → Bool
asks texts l e = is_lookup l (lookup_of texts e)

-- the first entry of the book that answers it
abbrev pub entry_at : List Text → List Entry → Lookup → Option Entry
entry_at texts book l = find (asks texts l) book

abbrev pub answer_at : List Text → List Entry → Lookup → Option Text
answer_at texts book l = option_map (λ e. e.answer) (entry_at texts book l)
