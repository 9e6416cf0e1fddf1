-- Worked examples, computed from the definitions. A line feed stands behind each `line`.
use Rattle.std.specs.Prelude.{ℕ, ◌≡◌, List, [], ◌∷◌, ◌++◌, codes, refl, Some, None, Ok, Err}
use Rattle.std.specs.Fmt.{digits}
use Rattle.peer_network.specs.declared.event.Event.TheVariants as event
use Rattle.peer_texts.specs.Line.{meanings}
use Rattle.peer_texts.specs.Text.{trace_text}
use Rattle.peer_texts.specs.declared.fault.TraceFault.TheVariants.{BadLine, Number, Count}
use Rattle.peer_texts.specs.declared.line.Line.TheVariants.{Passed, Malformed, Head, Wake, Take}
use Rattle.peer_texts.proofs.Slow.{slow_text}

abbrev line : List ℕ → List ℕ
line bytes = bytes ++ (10 ∷ [])

-- texts written

no_event : trace_text [] ≡ line (codes "trace 0")
unfolding digits
no_event = refl

two_events : trace_text (event.Wake 12 ∷ event.Take 3 0 ∷ []) ≡ line (codes "trace 2") ++ line (codes "wake 12") ++ line (codes "take 3 0")
unfolding digits
two_events = refl

-- texts read

says :
    meanings (line (codes " trace 007") ++ line [] ++ line (codes "wake x") ++ line (codes "take 1 0") ++ codes "take 1") ≡
    Head (Some 7) ∷ Passed ∷ Wake None ∷ Take (Some 1) (Some 0) ∷ Malformed ∷ []
says = refl

nothing : slow_text [] ≡ Err (BadLine 1)
nothing = refl

no_fields : slow_text (line (codes " ") ++ line []) ≡ Err (BadLine 1)
no_fields = refl

head_alone : slow_text (codes "trace 0") ≡ Ok []
head_alone = refl

events_read :
    slow_text (line [] ++ line (codes "trace 2") ++ line (codes "wake 01") ++ line [] ++ codes "take 1 0") ≡ Ok (event.Wake 1 ∷ event.Take 1 0 ∷ [])
events_read = refl

none_found : slow_text (codes "trace 1") ≡ Err (Count 1 0)
none_found = refl

too_few : slow_text (line (codes "trace 2") ++ codes "wake 1") ≡ Err (Count 2 1)
too_few = refl

too_many : slow_text (line (codes "trace 1") ++ line (codes "wake 1") ++ codes "take 1 0") ≡ Err (Count 1 2)
too_many = refl

no_count : slow_text (codes "trace x") ≡ Err (Number 1)
no_count = refl

count_past_the_limit : slow_text (codes "trace 1099511627777") ≡ Err (Number 1)
count_past_the_limit = refl

port_missing : slow_text (line (codes "trace 1") ++ codes "take 1") ≡ Err (BadLine 2)
port_missing = refl

second_head : slow_text (line (codes "trace 1") ++ codes "trace 1") ≡ Err (BadLine 2)
second_head = refl

no_head : slow_text (codes "wake 1") ≡ Err (BadLine 1)
no_head = refl

place_before_number : slow_text (codes "wake x") ≡ Err (BadLine 1)
place_before_number = refl

node_past_32_bits : slow_text (line (codes "trace 1") ++ codes "wake 4294967296") ≡ Err (Number 2)
node_past_32_bits = refl

first_line_decides : slow_text (line (codes "trace 9") ++ line (codes "wake +1") ++ codes "c") ≡ Err (Number 2)
first_line_decides = refl
