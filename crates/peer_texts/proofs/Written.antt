-- The text of a list of events, read again.
use Rattle.std.proofs.Common.{◌≡◌, ◌<◌, ◌≤◌, ◌^◌, ◌∙◌, ℕ, zero, suc, true, Some, None, List, [], ◌∷◌, ◌++◌, length, map, refl, sym, ap, ap₂, arith, append_assoc, codes, decimal}
use Rattle.std.specs.List.{All, flat_map}
use Rattle.std.proofs.lemmas.Fmt.{decimal_nonempty}
use Rattle.ghs_lines.specs.Judging.{AreSound, fault_at}
use Rattle.ghs_lines.proofs.lemmas.Words.{decimal_plain, fields_of-last, fields_of-word, has_no_feed, has_no_feed-last, has_no_feed-word, lines_of-line, number_of-decimal}
use Rattle.peer_network.specs.declared.event.Event.{Event}
use Rattle.peer_network.specs.declared.event.Event.TheVariants as event
use Rattle.peer_texts.specs.Laws.{IsNarrow, ReadsBack}
use Rattle.peer_texts.specs.Line.{meaning, meaning_of, meanings}
use Rattle.peer_texts.specs.Reading.{HasEvents, IsTrace, events_in, judge}
use Rattle.peer_texts.specs.Text.{event_text, head_text, trace_text}
use Rattle.peer_texts.specs.declared.line.Line.{Line}
use Rattle.peer_texts.specs.declared.line.Line.TheVariants.{Head, Wake, Take}
use Rattle.peer_texts.proofs.Readings.{never_both}

-- the line of an event, without its line feed
abbrev line_text : Event → List ℕ
line_text (event.Wake v) = codes "wake" ++ 32 ∷ decimal v
line_text (event.Take v port) = codes "take" ++ 32 ∷ (decimal v ++ 32 ∷ decimal port)

-- what it says
abbrev line_of : Event → Line
line_of (event.Wake v) = Wake (Some v)
line_of (event.Take v port) = Take (Some v) (Some port)

event_text-line : (e : Event) (rest : List ℕ) → event_text e ++ rest ≡ line_text e ++ 10 ∷ rest
event_text-line (event.Wake v) rest = ap (λ (xs : List ℕ). codes "wake " ++ xs) (append_assoc (decimal v) (10 ∷ []) rest)
event_text-line (event.Take v port) rest = ap (λ (xs : List ℕ). codes "take " ++ xs)
    (append_assoc ((decimal v ++ 32 ∷ []) ++ decimal port) (10 ∷ []) rest ∙
    ap (λ (xs : List ℕ). xs ++ 10 ∷ rest) (append_assoc (decimal v) (32 ∷ []) (decimal port)))

no_feed : (e : Event) → IsNarrow e → has_no_feed (line_text e) ≡ true
no_feed (event.Wake v) h = has_no_feed-word (codes "wake") (32 ∷ decimal v) refl (has_no_feed-last (decimal v) (decimal_plain v (omega arith)))
no_feed (event.Take v port) h =
    let plain_node = decimal_plain v (let a = h.0 in omega arith) in
    let plain_port = decimal_plain port (let a = h.1 in omega arith) in
    has_no_feed-word (codes "take") (32 ∷ (decimal v ++ 32 ∷ decimal port)) refl
    (has_no_feed-word (decimal v) (32 ∷ decimal port) plain_node (has_no_feed-last (decimal port) plain_port))

meaning-line : (e : Event) → IsNarrow e → meaning (line_text e) ≡ line_of e
meaning-line (event.Wake v) h =
    let small : v < 2 ^ 64 = omega arith in
    ap meaning_of (fields_of-word (codes "wake") (decimal v) (omega arith) refl ∙
    ap (λ fs. codes "wake" ∷ fs) (fields_of-last (decimal v) (decimal_nonempty v small) (decimal_plain v small)))
    ∙ ap Wake (number_of-decimal v small 4294967295 h)
meaning-line (event.Take v port) h =
    let small_node : v < 2 ^ 64 = (let a = h.0 in omega arith) in
    let small_port : port < 2 ^ 64 = (let a = h.1 in omega arith) in
    let last = fields_of-last (decimal port) (decimal_nonempty port small_port) (decimal_plain port small_port) in
    let both =
    fields_of-word (decimal v) (decimal port) (decimal_nonempty v small_node) (decimal_plain v small_node) ∙ ap (λ fs. decimal v ∷ fs) last in
    ap meaning_of (fields_of-word (codes "take") (decimal v ++ 32 ∷ decimal port) (omega arith) refl ∙ ap (λ fs. codes "take" ∷ fs) both)
    ∙ ap₂ Take (number_of-decimal v small_node 4294967295 h.0) (number_of-decimal port small_port 4294967295 h.1)

-- the lines of events say them
meanings-events : (es : List Event) → All IsNarrow es → meanings (flat_map event_text es) ≡ map line_of es
meanings-events [] narrow = refl
meanings-events (e ∷ es) narrow =
    let here : IsNarrow e = narrow 0 e (omega arith) in
    ap meanings (event_text-line e (flat_map event_text es))
    ∙ ap (map meaning) (lines_of-line (line_text e) (flat_map event_text es) (no_feed e here))
    ∙ ap₂ (λ x xs. x ∷ xs) (meaning-line e here) (meanings-events es (λ i d l. narrow (suc i) d (omega arith)))

meanings-head : (n : ℕ) (rest : List ℕ) → n ≤ 1099511627776 → meanings (head_text n ++ rest) ≡ Head (Some n) ∷ meanings rest
meanings-head n rest within =
    let small : n < 2 ^ 64 = omega arith in
    let plain = decimal_plain n small in
    let fields = fields_of-word (codes "trace") (decimal n) (omega arith) refl ∙
    ap (λ fs. codes "trace" ∷ fs) (fields_of-last (decimal n) (decimal_nonempty n small) plain) in
    ap meanings (ap (λ (xs : List ℕ). codes "trace " ++ xs) (append_assoc (decimal n) (10 ∷ []) rest))
    ∙ ap (map meaning) (lines_of-line (codes "trace" ++ 32 ∷ decimal n) rest
    (has_no_feed-word (codes "trace") (32 ∷ decimal n) refl (has_no_feed-last (decimal n) plain)))
    ∙ ap (λ l. l ∷ meanings rest) (ap meaning_of fields ∙ ap Head (number_of-decimal n small 1099511627776 within))

events_in-lines : (es : List Event) → events_in (map line_of es) ≡ es
events_in-lines [] = refl
events_in-lines (event.Wake v ∷ es) = ap (λ xs. event.Wake v ∷ xs) (events_in-lines es)
events_in-lines (event.Take v port ∷ es) = ap (λ xs. event.Take v port ∷ xs) (events_in-lines es)

-- behind the head no line of an event has a fault
sound_events : (said : ℕ) (es : List Event) (k : ℕ) → k < length (map line_of es) → fault_at judge (Head (Some said) ∷ map line_of es) (suc k) ≡ None
sound_events said [] k l = absurd (omega arith)
sound_events said (event.Wake v ∷ es) zero l = refl
sound_events said (event.Take v port ∷ es) zero l = refl
sound_events said (e ∷ es) (suc k) l = sound_events said es k (omega arith)

sound_all : (said : ℕ) (es : List Event) → AreSound judge (Head (Some said) ∷ map line_of es)
sound_all said es zero l = refl
sound_all said es (suc k) l = sound_events said es k (omega arith)

has_events : (es : List Event) → All IsNarrow es → length es ≤ 1099511627776 → HasEvents (trace_text es) es
has_events es narrow few =
    let lines = meanings-head (length es) (flat_map event_text es) few ∙ ap (λ xs. Head (Some (length es)) ∷ xs) (meanings-events es narrow) in
    let trace : IsTrace (Head (Some (length es)) ∷ map line_of es) es =
    record { sound = sound_all (length es) es; head = refl; all = sym (events_in-lines es) } in
    rw lines trace

pub reads_back : (es : List Event) → ReadsBack es
reads_back es narrow few =
    let has = has_events es narrow few in
    record {
      has = has;
      alone = λ other h. h.all ∙ sym has.all;
      sound = λ fault h. never_both (meanings (trace_text es)) es fault has h;
    }
