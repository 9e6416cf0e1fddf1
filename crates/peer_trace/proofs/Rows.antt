-- Worked examples, computed from the definitions. A line feed stands behind each `line`.
use Rattle.std.specs.Prelude.{ℕ, ◌≡◌, List, [], ◌∷◌, ◌++◌, codes, refl, Some, None}
use Rattle.std.specs.Fmt.{digits}
use Rattle.peer_network.specs.declared.event.Event.TheVariants as event
use Rattle.peer_texts.specs.declared.line.Line.TheVariants.{Passed, Malformed, Head, Wake, Take}
use Rattle.peer_trace.specs.Head.{mark_in, protocol_in}
use Rattle.peer_trace.specs.Mark.{marked}
use Rattle.peer_trace.specs.Reading.{says}
use Rattle.peer_trace.specs.Text.{own_text, stored_text}
use Rattle.peer_trace.specs.declared.protocol.Protocol.TheVariants.{Ghs, Boruvka, Echo, Gather}

abbrev line : List ℕ → List ℕ
line bytes = bytes ++ (10 ∷ [])

abbrev sum : List ℕ
sum = codes "0123456789abcdef0123456789abcdef0123456789abcdef0123456789abcdef"

-- texts written

of_ghs : stored_text Ghs (event.Wake 12 ∷ []) ≡ line (codes "trace 1") ++ line (codes "wake 12")
unfolding digits
of_ghs = refl

of_boruvka : stored_text Boruvka (event.Wake 12 ∷ []) ≡ line (codes "trace boruvka 1") ++ line (codes "wake 12")
unfolding digits
of_boruvka = refl

of_echo : stored_text Echo (event.Wake 12 ∷ []) ≡ line (codes "trace echo 1") ++ line (codes "wake 12")
unfolding digits
of_echo = refl

of_gather : stored_text Gather (event.Wake 12 ∷ []) ≡ line (codes "trace gather 1") ++ line (codes "wake 12")
unfolding digits
of_gather = refl

of_a_user : own_text (marked (codes "ring") 4 sum) (event.Wake 12 ∷ []) ≡
    line (codes "trace own ring entries 4 sum " ++ sum ++ codes " 1") ++ line (codes "wake 12")
unfolding digits
of_a_user = refl

-- what a head names

ghs_named : protocol_in (line [] ++ codes "trace 3") ≡ Some Ghs
ghs_named = refl

boruvka_named : protocol_in (line (codes " ") ++ line (codes "trace  boruvka x") ++ codes "trace 3") ≡ Some Boruvka
boruvka_named = refl

echo_named : protocol_in (line (codes "trace echo x")) ≡ Some Echo
echo_named = refl

gather_named : protocol_in (line (codes "trace gather x")) ≡ Some Gather
gather_named = refl

none_for_ghs : protocol_in (codes "trace ghs 3") ≡ None
none_for_ghs = refl

none_without_count : protocol_in (codes "trace") ≡ None
none_without_count = refl

-- the count of a run of GHS may be any field
boruvka_as_count : protocol_in (codes "trace boruvka") ≡ Some Ghs
boruvka_as_count = refl

none_in_a_text_without_fields : protocol_in (line (codes " ") ++ line []) ≡ None
none_in_a_text_without_fields = refl

none_behind_another_line : protocol_in (line (codes "wake 1") ++ codes "trace 3") ≡ None
none_behind_another_line = refl

-- which mark a head has

a_mark : mark_in (line [] ++ line (codes "trace own  ring entries 04 sum " ++ sum ++ codes " x")) ≡ Some (marked (codes "ring") 4 sum)
a_mark = refl

no_name_beside_a_mark : protocol_in (line (codes "trace own ring entries 4 sum " ++ sum ++ codes " 1")) ≡ None
no_name_beside_a_mark = refl

no_mark_without_a_number : mark_in (codes "trace own ring entries x sum " ++ sum ++ codes " 1") ≡ None
no_mark_without_a_number = refl

no_mark_with_a_short_sum : mark_in (codes "trace own ring entries 4 sum 0123456789abcdef 1") ≡ None
no_mark_with_a_short_sum = refl

no_mark_in_upper_case : mark_in (codes "trace own ring entries 4 sum 0123456789ABCDEF0123456789ABCDEF0123456789ABCDEF0123456789ABCDEF 1") ≡ None
no_mark_in_upper_case = refl

no_mark_in_a_run_of_ghs : mark_in (codes "trace 3") ≡ None
no_mark_in_a_run_of_ghs = refl

-- what lines say

without_the_name :
    says (line [] ++ line (codes "trace boruvka 02") ++ line (codes "wake 1") ++ line [] ++ codes "take 1 0") ≡
    Passed ∷ Head (Some 2) ∷ Wake (Some 1) ∷ Passed ∷ Take (Some 1) (Some 0) ∷ []
without_the_name = refl

a_name_in_a_later_line : says (line (codes "trace 1") ++ codes "trace boruvka 1") ≡ Head (Some 1) ∷ Malformed ∷ []
a_name_in_a_later_line = refl

a_name_that_is_none : says (codes "trace ghs 1") ≡ Malformed ∷ []
a_name_that_is_none = refl

without_the_mark : says (line (codes "trace own ring entries 4 sum " ++ sum ++ codes " 02") ++ codes "wake 1") ≡ Head (Some 2) ∷ Wake (Some 1) ∷ []
without_the_mark = refl

a_mark_that_is_none : says (codes "trace own ring entries 4 1") ≡ Malformed ∷ []
a_mark_that_is_none = refl
