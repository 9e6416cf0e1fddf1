-- Worked examples of a book's words, and of what a page is told, computed from the definitions.
use Rattle.std.specs.Prelude.{◌≡◌, ℕ, false, true, List, [], ◌∷◌, codes, refl, Some, None}
use Rattle.own_book.specs.Entry.{Entry, entry}
use Rattle.own_rules.specs.Deed.{cost, goes_on, left_then, stops}
use Rattle.own_rules.specs.Looks.{kind_look, letter_of, look_of, title_of, titled}
use Rattle.own_rules.specs.Words.{kind_name, mark_in, says_text, variables_in, verdict_word, variables_at, word_said}
use Rattle.own_rules.specs.declared.node.Reason.TheVariants.{Unanswered}
use Rattle.own_rules.specs.declared.node.State.TheVariants.{Stopped}
use Rattle.own_rules.specs.declared.protocol.TheConstants.{EXPLORING, RUNNING}
use Rattle.peer_words.specs.Json.{member, quoted}

-- a book of the echo wave, of which only the greeting matters here
abbrev book : List Entry
book = entry (codes "own 1") 1 (codes "own 1 echo explore() back(level,key?)") ∷ []

-- messages

a_bare_message : says_text book (codes "explore") ≡ record { kind = codes "explore"; carried = [] }
a_bare_message = refl

a_message_with_values : says_text book (codes "back(3,5:1-2)")
    ≡ record { kind = codes "back"; carried = word_said (codes "values") (codes "3,5:1-2") ∷ [] }
a_message_with_values = refl

second_kind : kind_name book 1 ≡ codes "back"
second_kind = refl

no_third_kind : kind_name book 2 ≡ codes "-"
no_third_kind = refl

-- variables and marks

two_variables : variables_in (codes "asleep=no;parent=") ≡ word_said (codes "asleep") (codes "no") ∷ word_said (codes "parent") [] ∷ []
two_variables = refl

a_value_with_a_sign : variables_in (codes "a=b=c") ≡ word_said (codes "a") (codes "b=c") ∷ []
a_value_with_a_sign = refl

who_has_stopped : variables_at book (Stopped (record { asked = None; reason = Unanswered }))
    ≡ word_said (codes "stopped") (codes "UNANSWERED") ∷ []
who_has_stopped = refl

second_mark : mark_in (codes "level=1;marks=branch,rejected") 1 ≡ codes "rejected"
second_mark = refl

a_port_without_a_mark : mark_in (codes "level=1;marks=branch,rejected") 2 ≡ codes "basic"
a_port_without_a_mark = refl

no_marks : mark_in (codes "level=1") 0 ≡ codes "basic"
no_marks = refl

the_first_marks : mark_in (codes "marks=a;marks=b") 0 ≡ codes "a"
the_first_marks = refl

-- rows

one_waits : verdict_word (goes_on (codes "a=1") true [] RUNNING) ≡ codes "waits"
one_waits = refl

one_goes_on : verdict_word (goes_on (codes "a=1") false [] RUNNING) ≡ codes "goes_on"
one_goes_on = refl

one_stops : verdict_word (stops Unanswered) ≡ codes "stopped"
one_stops = refl

-- allowances

running_deferred : left_then RUNNING (cost {M = ℕ} RUNNING true (1 ∷ 2 ∷ [])) ≡ Some (record { messages = 1048573; deferrals = true })
running_deferred = refl

exploring_deferred : left_then EXPLORING (cost {M = ℕ} EXPLORING true (1 ∷ 2 ∷ [])) ≡ Some (record { messages = 5459; deferrals = false })
exploring_deferred = refl

-- what a page is told

the_title : title_of book ≡ codes "ghs: echo (own)"
unfolding titled
the_title = refl

a_bare_look : kind_look book 0 ≡ codes "\"name\":\"explore\",\"short\":\"explore\",\"letter\":\"e\",\"has\":[],\"types\":\"\""
unfolding look_of member quoted
a_bare_look = refl

a_look_with_types : kind_look book 1 ≡ codes "\"name\":\"back\",\"short\":\"back\",\"letter\":\"b\",\"has\":[],\"types\":\"level,key?\""
unfolding look_of member quoted
a_look_with_types = refl

a_letter_that_is_taken : letter_of (codes "ra") (codes "report") ≡ 101
a_letter_that_is_taken = refl

all_letters_are_taken : letter_of (codes "a") (codes "aa") ≡ 97
all_letters_are_taken = refl

a_kind_without_a_name : kind_look [] 0 ≡ codes "\"name\":\"-\",\"short\":\"-\",\"letter\":\"-\",\"has\":[],\"types\":\"\""
a_kind_without_a_name = refl
