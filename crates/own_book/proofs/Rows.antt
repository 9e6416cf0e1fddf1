-- Worked examples, computed from the definitions. A line feed stands behind each `line`.
use Rattle.std.specs.Prelude.{ℕ, ◌≡◌, false, true, List, [], ◌∷◌, ◌++◌, codes, refl, Some, None, Ok, Err}
use Rattle.ghs_lines.specs.Judging.{fault_at}
use Rattle.own_book.specs.Answer.{gives_up, greets, kinds_in, opens, reacts, saying, sends_in, type_of, types_in}
use Rattle.own_book.specs.Book.{entries_in, judge}
use Rattle.own_book.specs.Entry.{entry, entry_for}
use Rattle.own_book.specs.Line.{bad, meaning, meanings, says}
use Rattle.own_book.specs.Question.{asked}
use Rattle.own_book.specs.Text.{book_text}
use Rattle.own_book.specs.declared.fault.LineFault.TheVariants.{BadLine, Number, Wavers}
use Rattle.own_book.specs.declared.kind.ArgumentType.TheVariants.{Bits, Level, MaybeKey}
use Rattle.own_book.specs.declared.question.Asked.TheVariants.{Greeting, Opening, Wake, Take}

abbrev line : List ℕ → List ℕ
line bytes = bytes ++ (10 ∷ [])

-- questions

greeting : asked (codes "own 1") ≡ Ok Greeting
greeting = refl

opening : asked (codes "open 2 1:1-2 4:2-3") ≡ Ok Opening
opening = refl

opening_without_links : asked (codes "open 1") ≡ Ok Opening
opening_without_links = refl

wakes : asked (codes "wake 1 asleep=yes;marks=") ≡ Ok Wake
wakes = refl

takes : asked (codes "take 2 0 test(1,1:1-2) asleep=no;level=1") ≡ Ok Take
takes = refl

no_answer_to_the_end : asked (codes "end") ≡ Err BadLine
no_answer_to_the_end = refl

another_version : asked (codes "own 2") ≡ Err BadLine
another_version = refl

leading_zero : asked (codes "wake 01 asleep=yes") ≡ Err Number
leading_zero = refl

no_port : asked (codes "take 2 x test asleep=no") ≡ Err Number
no_port = refl

port_missing : asked (codes "take 2 test asleep=no") ≡ Err BadLine
port_missing = refl

two_blanks : asked (codes "wake 1  asleep=yes") ≡ Err BadLine
two_blanks = refl

no_key : asked (codes "open 2 1:1") ≡ Err BadLine
no_key = refl

no_arguments : asked (codes "take 2 0 test() asleep=no") ≡ Err BadLine
no_arguments = refl

-- answers

greets_of_echo : saying Greeting (codes "own 1 echo explore() back()") ≡ Some (greets (codes "echo") (codes "explore() back()"))
greets_of_echo = refl

greets_of_ghs : saying Greeting (codes "own 1 ghs initiate(level,key,bit) report(key?) changeroot() wide(12)") ≡
    Some (greets (codes "ghs") (codes "initiate(level,key,bit) report(key?) changeroot() wide(12)"))
greets_of_ghs = refl

no_kinds : saying Greeting (codes "own 1 echo") ≡ None
no_kinds = refl

unknown_type : saying Greeting (codes "own 1 echo explore(color)") ≡ None
unknown_type = refl

opens_asleep : saying Opening (codes "asleep=yes;halted=no") ≡ Some (opens (codes "asleep=yes;halted=no"))
opens_asleep = refl

no_state : saying Opening (codes "asleep") ≡ None
no_state = refl

blank_in_a_state : saying Opening (codes "a=b c") ≡ None
blank_in_a_state = refl

sends_two : saying Take (codes "asleep=no done 0>accept 1>connect(0)") ≡ Some (reacts (codes "asleep=no") false (codes "0>accept 1>connect(0)"))
sends_two = refl

waits_and_sends : saying Take (codes "asleep=no wait 1>connect(0)") ≡ Some (reacts (codes "asleep=no") true (codes "1>connect(0)"))
waits_and_sends = refl

sends_nothing : saying Wake (codes "asleep=no done") ≡ Some (reacts (codes "asleep=no") false [])
sends_nothing = refl

wake_waits : saying Wake (codes "asleep=no wait") ≡ None
wake_waits = refl

blank_at_the_end : saying Wake (codes "asleep=no done ") ≡ None
blank_at_the_end = refl

without_verdict : saying Wake (codes "asleep=no 0>accept") ≡ None
without_verdict = refl

gives_up_at_once : saying Opening (codes "! AttributeError: on_back (raises.py, line 6)") ≡
    Some (gives_up (codes "AttributeError: on_back (raises.py, line 6)"))
gives_up_at_once = refl

maybe_key : type_of (codes "key?") ≡ Some MaybeKey
maybe_key = refl

twelve_bits : type_of (codes "12") ≡ Some (Bits 12)
twelve_bits = refl

sent_in_order : sends_in (codes "0>accept 12>connect(0)") ≡ (0, codes "accept") ∷ (12, codes "connect(0)") ∷ []
sent_in_order = refl

nothing_sent : sends_in [] ≡ []
nothing_sent = refl

kinds_of_echo : kinds_in (codes "explore() back(level,key?)") ≡ (codes "explore", []) ∷ (codes "back", codes "level,key?") ∷ []
kinds_of_echo = refl

types_of_back : types_in (codes "level,key?,12") ≡ Level ∷ MaybeKey ∷ Bits 12 ∷ []
types_of_back = refl

-- lines

first_sign_parts : meaning (codes "wake 1 a=b = ! x = y") ≡ says (codes "wake 1 a=b") (codes "! x = y")
first_sign_parts = refl

no_sign : meaning (codes "wake 1 a=b= a=b done") ≡ bad BadLine
no_sign = refl

empty_line : meaning [] ≡ bad BadLine
empty_line = refl

tab : meaning (codes "own 1 = ! a" ++ 9 ∷ []) ≡ bad BadLine
tab = refl

answer_to_another : meaning (codes "own 1 = asleep=yes") ≡ bad BadLine
answer_to_another = refl

-- texts

second_entry : entry_for (entries_in (meanings (line (codes "own 1 = own 1 a b()") ++ line (codes "open 1 5:1-2 = asleep=yes"))))
    (codes "open 1 5:1-2") ≡
    Some (entry (codes "open 1 5:1-2") 2 (codes "asleep=yes"))
second_entry = refl

same_answer_again : fault_at judge (meanings (line (codes "open 1 = a=b") ++ codes "open 1 = a=b")) 1 ≡ None
same_answer_again = refl

other_answer : fault_at judge (meanings (line (codes "open 1 = a=b") ++ line (codes "open 2 = a=b") ++ codes "open 1 = a=c")) 2 ≡ Some (Wavers 1)
other_answer = refl

bad_line_between : fault_at judge (meanings (line (codes "open 1 = a=b") ++ line [] ++ codes "open 1 = a=c")) 1 ≡ Some BadLine
bad_line_between = refl

-- texts written

two_lines : book_text (entry (codes "own 1") 1 (codes "own 1 echo back()") ∷ entry (codes "open 1") 3 (codes "a=b") ∷ []) ≡
    line (codes "own 1 = own 1 echo back()") ++ line (codes "open 1 = a=b")
two_lines = refl
