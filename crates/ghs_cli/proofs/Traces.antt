-- How many events a text of a trace has.
use Rattle.std.proofs.Common.{◌≡◌, ℕ, ◌≤◌, ◌&&◌, Bool, true, false, codes, cond, List, [], ◌∷◌, Some, None, length, map, refl}
use Rattle.std.specs.Prelude.{nat_le}
use Rattle.std.specs.Str.{all_ascii_digits, bytes_eq}
use Rattle.std.specs.Str.Parse.{digits_value}
use Rattle.std.proofs.lemmas.Bool.{leb-true}
use Rattle.ghs_lines.specs.Fields.{is_nonempty}
use Rattle.peer_network.specs.declared.event.Event.{Event}
use Rattle.peer_texts.specs.Line.{head_of, meaning_of, take_of, wake_of}
use Rattle.peer_texts.specs.Reading.{head_in}
use Rattle.peer_texts.specs.declared.line.Line.{Line}
use Rattle.peer_texts.specs.declared.line.Line.TheVariants.{Passed, Malformed, Head, Wake, Take}
use Rattle.peer_texts.specs.declared.trace.TheConstants.{EVENT_LIMIT}
use Rattle.peer_trace.specs.Head.{fields_in, plain_lines}
use Rattle.peer_trace.specs.Reading.{HasEventsOf}
use Rattle.peer_trace.specs.declared.protocol.Protocol.{Protocol}

-- a head says a number within the limit
abbrev IsSmall : Line → Type 0
IsSmall (Head (Some n)) = n ≤ EVENT_LIMIT
IsSmall _ = Unit {0}

small_either : (b : Bool) (x y : Line) → IsSmall x → IsSmall y → IsSmall (cond b x y)
small_either true x y a c = a
small_either false x y a c = c

last_true : (a b c : Bool) → (a && b && c) ≡ true → c ≡ true
last_true true true c e = e
last_true true false c e = cc
last_true false b c e = cc

small_number : (b : Bool) (v : ℕ) → (b ≡ true → v ≤ EVENT_LIMIT) → IsSmall (Head (cond b (Some v) None))
small_number true v within = within refl
small_number false v within = tt

small_head : (more : List (List ℕ)) → IsSmall (head_of more)
small_head [] = tt
small_head (field ∷ []) =
    small_number (is_nonempty field && all_ascii_digits field && nat_le (digits_value 10 field) EVENT_LIMIT) (digits_value 10 field)
    (λ e. leb-true (digits_value 10 field) EVENT_LIMIT
    (last_true (is_nonempty field) (all_ascii_digits field) (nat_le (digits_value 10 field) EVENT_LIMIT) e))
small_head (field ∷ other ∷ more) = tt

small_wake : (more : List (List ℕ)) → IsSmall (wake_of more)
small_wake [] = tt
small_wake (field ∷ []) = tt
small_wake (field ∷ other ∷ more) = tt

small_take : (more : List (List ℕ)) → IsSmall (take_of more)
small_take [] = tt
small_take (field ∷ []) = tt
small_take (field ∷ other ∷ []) = tt
small_take (field ∷ other ∷ third ∷ more) = tt

small_fields : (fields : List (List ℕ)) → IsSmall (meaning_of fields)
small_fields [] = tt
small_fields (first ∷ more) =
    small_either (bytes_eq first (codes "trace")) (head_of more) _ (small_head more)
    (small_either (bytes_eq first (codes "wake")) (wake_of more) _ (small_wake more)
    (small_either (bytes_eq first (codes "take")) (take_of more) Malformed (small_take more) tt))

small_next : (l : Line) (more : List Line) (n : ℕ) → IsSmall l → (head_in more ≡ Some n → n ≤ EVENT_LIMIT) → head_in (l ∷ more) ≡ Some n →
    n ≤ EVENT_LIMIT
small_next Passed more n small rest e = rest e
small_next Malformed more n small rest e = rest e
small_next (Head None) more n small rest e = rest e
small_next (Head (Some m)) more n small rest e = let is : m ≡ n = cc in rw (← is) small
small_next (Wake v) more n small rest e = rest e
small_next (Take v port) more n small rest e = rest e

small_said : (lines : List (List (List ℕ))) (n : ℕ) → head_in (map meaning_of lines) ≡ Some n → n ≤ EVENT_LIMIT
small_said [] n e = cc
small_said (fields ∷ lines) n e = small_next (meaning_of fields) (map meaning_of lines) n (small_fields fields) (small_said lines n) e

-- a text has as many events as its head says, and that is within the limit
pub few_events : (p : Protocol) (text : List ℕ) (events : List Event) → HasEventsOf p text events → length events ≤ EVENT_LIMIT
few_events p text events has = small_said (plain_lines (fields_in text)) (length events) has.trace.head
