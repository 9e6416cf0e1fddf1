-- The text of a stored run, read again.
use Rattle.std.proofs.Common.{◌≡◌, ◌<◌, ◌≤◌, ◌^◌, ◌∙◌, ◌==◌, ◌&&◌, ◌||◌, ℕ, Bool, List, [], ◌∷◌, ◌++◌, codes, decimal, length, map, refl, sym, ap, subst, arith, append_assoc, true, false, Some, None}
use Rattle.std.specs.List.{AllByRecursion, flat_map, list_all}
use Rattle.std.specs.Prelude.{nat_le}
use Rattle.std.proofs.lemmas.Bool.{and_from, and_parts, cond-true, eqb-true, leb-true, ne_eqb}
use Rattle.std.proofs.lemmas.Fmt.{decimal_nonempty}
use Rattle.std.proofs.lemmas.Option.{same_Some}
use Rattle.std.specs.Option.{is_some}
use Rattle.ghs_lines.specs.Fields.{fields_of, is_nonempty}
use Rattle.ghs_lines.proofs.lemmas.Words.{all_plain, decimal_plain, fields_of-last, fields_of-word, has_no_feed, has_no_feed-last, has_no_feed-word, is_plain, lines_of-line, number_of-decimal}
use Rattle.peer_network.specs.declared.event.Event.{Event}
use Rattle.peer_texts.specs.Laws.{IsReadBack, ReadsBack}
use Rattle.peer_texts.specs.Line.{meaning_of, meanings}
use Rattle.peer_texts.specs.Reading.{HaveFault, IsTrace}
use Rattle.peer_texts.specs.Text.{event_text, trace_text}
use Rattle.peer_trace.specs.Head.{fields_in, head_fields, first_fields, mark_in, named_by, plain_lines, protocol_in}
use Rattle.peer_trace.specs.Mark.{Mark, is_lower_digit, is_name_byte, is_sum, mark_by, marked, marked_by, own_fields}
use Rattle.peer_trace.specs.declared.mark.TheConstants.{ENTRY_LIMIT}
use Rattle.peer_trace.specs.Laws.{IsMark, ReadsBackOf, ReadsBackOwn}
use Rattle.peer_trace.specs.Reading.{HasFaultOf, HasOwnFault, says}
use Rattle.peer_trace.specs.Text.{named_head_text, own_head_text, own_text, stored_text}
use Rattle.peer_trace.specs.declared.fault.StoredFault.{StoredFault}
use Rattle.peer_trace.specs.declared.fault.StoredFault.TheVariants.{Other, Own, Trace}
use Rattle.peer_trace.specs.declared.protocol.Protocol.{Protocol}
use Rattle.peer_trace.specs.declared.protocol.Protocol.TheVariants.{Ghs, Boruvka, Echo, Gather}
use Rattle.peer_trace.proofs.Heads.{meanings-fields, named_head, plain_lines-head, plain_named, plain_of-marked, unmarked}
use Rattle.peer_trace.proofs.Words.{IsWord}

-- the head's line, without its line feed
abbrev head_line : Protocol → ℕ → List ℕ
head_line Ghs count = codes "trace" ++ 32 ∷ decimal count
head_line Boruvka count = codes "trace" ++ 32 ∷ (codes "boruvka" ++ 32 ∷ decimal count)
head_line Echo count = codes "trace" ++ 32 ∷ (codes "echo" ++ 32 ∷ decimal count)
head_line Gather count = codes "trace" ++ 32 ∷ (codes "gather" ++ 32 ∷ decimal count)

head_text-line : (protocol : Protocol) (count : ℕ) (rest : List ℕ) → named_head_text protocol count ++ rest ≡ head_line protocol count ++ 10 ∷ rest
head_text-line Ghs count rest = ap (λ (xs : List ℕ). codes "trace " ++ xs) (append_assoc (decimal count) (10 ∷ []) rest)
head_text-line Boruvka count rest = ap (λ (xs : List ℕ). codes "trace boruvka " ++ xs) (append_assoc (decimal count) (10 ∷ []) rest)
head_text-line Echo count rest = ap (λ (xs : List ℕ). codes "trace echo " ++ xs) (append_assoc (decimal count) (10 ∷ []) rest)
head_text-line Gather count rest = ap (λ (xs : List ℕ). codes "trace gather " ++ xs) (append_assoc (decimal count) (10 ∷ []) rest)

module _ (count : ℕ) (small : count < 2 ^ 64) where
  head_line_free : (protocol : Protocol) → has_no_feed (head_line protocol count) ≡ true
  head_line_free Ghs = has_no_feed-word (codes "trace") (32 ∷ decimal count) refl (has_no_feed-last (decimal count) (decimal_plain count small))
  head_line_free Boruvka =
      has_no_feed-word (codes "trace") (32 ∷ (codes "boruvka" ++ 32 ∷ decimal count)) refl
      (has_no_feed-word (codes "boruvka") (32 ∷ decimal count) refl (has_no_feed-last (decimal count) (decimal_plain count small)))
  head_line_free Echo =
      has_no_feed-word (codes "trace") (32 ∷ (codes "echo" ++ 32 ∷ decimal count)) refl
      (has_no_feed-word (codes "echo") (32 ∷ decimal count) refl (has_no_feed-last (decimal count) (decimal_plain count small)))
  head_line_free Gather =
      has_no_feed-word (codes "trace") (32 ∷ (codes "gather" ++ 32 ∷ decimal count)) refl
      (has_no_feed-word (codes "gather") (32 ∷ decimal count) refl (has_no_feed-last (decimal count) (decimal_plain count small)))

  last_field : fields_of (decimal count) ≡ decimal count ∷ []
  last_field = fields_of-last (decimal count) (decimal_nonempty count small) (decimal_plain count small)

  fields_of-head_line : (protocol : Protocol) → fields_of (head_line protocol count) ≡ head_fields protocol (decimal count)
  fields_of-head_line Ghs = fields_of-word (codes "trace") (decimal count) (omega arith) refl ∙ ap (λ fs. codes "trace" ∷ fs) last_field
  fields_of-head_line Boruvka =
      fields_of-word (codes "trace") (codes "boruvka" ++ 32 ∷ decimal count) (omega arith) refl
      ∙ ap (λ fs. codes "trace" ∷ fs) (fields_of-word (codes "boruvka") (decimal count) (omega arith) refl
      ∙ ap (λ fs. codes "boruvka" ∷ fs) last_field)
  fields_of-head_line Echo =
      fields_of-word (codes "trace") (codes "echo" ++ 32 ∷ decimal count) (omega arith) refl
      ∙ ap (λ fs. codes "trace" ∷ fs) (fields_of-word (codes "echo") (decimal count) (omega arith) refl
      ∙ ap (λ fs. codes "echo" ∷ fs) last_field)
  fields_of-head_line Gather =
      fields_of-word (codes "trace") (codes "gather" ++ 32 ∷ decimal count) (omega arith) refl
      ∙ ap (λ fs. codes "trace" ∷ fs) (fields_of-word (codes "gather") (decimal count) (omega arith) refl
      ∙ ap (λ fs. codes "gather" ∷ fs) last_field)

  fields_in-head : (protocol : Protocol) (rest : List ℕ) →
      fields_in (named_head_text protocol count ++ rest) ≡ head_fields protocol (decimal count) ∷ fields_in rest
  fields_in-head protocol rest =
      ap fields_in (head_text-line protocol count rest)
      ∙ ap (map fields_of) (lines_of-line (head_line protocol count) rest (head_line_free protocol))
      ∙ ap (λ fields. fields ∷ fields_in rest) (fields_of-head_line protocol)

pub stored_named : (protocol : Protocol) (events : List Event) → length events < 2 ^ 64 → protocol_in (stored_text protocol events) ≡ Some protocol
stored_named protocol events small =
    ap (λ lines. named_by (first_fields lines)) (fields_in-head (length events) small protocol (flat_map event_text events))
    ∙ named_head protocol (decimal (length events)) (fields_in (flat_map event_text events))

-- it says what the trace's text says
pub stored_says : (protocol : Protocol) (events : List Event) → length events < 2 ^ 64 →
    meanings (trace_text events) ≡ says (stored_text protocol events)
stored_says protocol events small =
    let rest = flat_map event_text events in
    let count = length events in
    sym (meanings-fields (trace_text events))
    ∙ ap (map meaning_of) (fields_in-head count small Ghs rest
    ∙ sym (ap plain_lines (fields_in-head count small protocol rest) ∙ plain_named protocol (decimal count) (fields_in rest)))

stored_sound : (protocol : Protocol) (events : List Event) (fault : StoredFault) → length events < 2 ^ 64 → IsReadBack events →
    HasFaultOf protocol (stored_text protocol events) fault → ⊥
stored_sound protocol events (Other other) small back h = h.1 (same_Some other protocol (sym h.0 ∙ stored_named protocol events small))
stored_sound protocol events Own small back h =
    let no : is_some (mark_in (stored_text protocol events)) ≡ false =
    ap is_some (unmarked (stored_text protocol events) protocol (stored_named protocol events small)) in
    cc
stored_sound protocol events (Trace fault) small back h =
    back.sound fault (subst (λ lines. HaveFault lines fault) (sym (stored_says protocol events small)) h.2)

pub reads_back_of : ((events : List Event) → ReadsBack events) → ReadsBackOf
reads_back_of law protocol events narrow few =
    let small : length events < 2 ^ 64 = omega arith in
    let back = law events narrow few in
    let lines = stored_says protocol events small in
    let named = stored_named protocol events small in
    record {
      has = record { named = named; trace = subst (λ ls. IsTrace ls events) lines back.has };
      alone = λ others h. back.alone others (subst (λ ls. IsTrace ls others) (sym lines) h.trace);
      sound = λ fault h. stored_sound protocol events fault small back h;
      refused = λ other apart. (named, λ same. apart (sym same));
      refused_own = named;
    }

-- a run of a user's own protocol

-- words, each with a blank behind it, in front of a last one
abbrev line_of : List (List ℕ) → List ℕ → List ℕ
line_of [] last = last
line_of (word ∷ words) last = word ++ 32 ∷ line_of words last

line_of-free : (words : List (List ℕ)) (last : List ℕ) → AllByRecursion IsWord words → IsWord last → has_no_feed (line_of words last) ≡ true
line_of-free [] last h l = has_no_feed-last last l.1
line_of-free (word ∷ words) last h l = has_no_feed-word word (32 ∷ line_of words last) h.0.1 (line_of-free words last h.1 l)

fields_of-line_of : (words : List (List ℕ)) (last : List ℕ) → AllByRecursion IsWord words → IsWord last →
    fields_of (line_of words last) ≡ words ++ last ∷ []
fields_of-line_of [] last h l = fields_of-last last l.0 l.1
fields_of-line_of (word ∷ words) last h l =
    fields_of-word word (line_of words last) h.0.0 h.0.1 ∙ ap (λ fs. word ∷ fs) (fields_of-line_of words last h.1 l)

-- the words of the head's line, without the count
abbrev own_words : Mark → List (List ℕ)
own_words mark =
    codes "trace" ∷ codes "own" ∷ mark.name ∷ codes "entries" ∷ decimal mark.entries ∷ codes "sum" ∷ mark.sum ∷ []

own_head-line : (mark : Mark) (count : ℕ) (rest : List ℕ) →
    own_head_text mark count ++ rest ≡ line_of (own_words mark) (decimal count) ++ 10 ∷ rest
own_head-line mark count rest = simp append_assoc

low_digit : (b : ℕ) (d : Bool) → (nat_le 48 b && nat_le b 57) ≡ d → (d || nat_le 97 b && nat_le b 102) ≡ true → 48 ≤ b
low_digit b true e h = leb-true 48 b (and_parts (nat_le 48 b) (nat_le b 57) e).0
low_digit b false e h = let low = leb-true 97 b (and_parts (nat_le 97 b) (nat_le b 102) h).0 in omega (arith, low)

lower_plain : (b : ℕ) → is_lower_digit b ≡ true → is_plain b ≡ true
lower_plain b h =
    let low = low_digit b (nat_le 48 b && nat_le b 57) refl h in
    rw (
      ne_eqb b 32 (λ z. absurd (omega (arith, low, z))),
      ne_eqb b 9 (λ z. absurd (omega (arith, low, z))),
      ne_eqb b 13 (λ z. absurd (omega (arith, low, z))),
      ne_eqb b 10 (λ z. absurd (omega (arith, low, z))),
    )

sum_plain : (digits : List ℕ) → list_all is_lower_digit digits ≡ true → all_plain digits ≡ true
sum_plain [] h = refl
sum_plain (b ∷ digits) h =
    let parts = and_parts (is_lower_digit b) (list_all is_lower_digit digits) h in
    and_from (is_plain b) (all_plain digits) (lower_plain b parts.0) (sum_plain digits parts.1)

name_plain : (name : List ℕ) → list_all is_name_byte name ≡ true → all_plain name ≡ true
name_plain [] h = refl
name_plain (b ∷ name) h =
    let parts = and_parts (is_name_byte b) (list_all is_name_byte name) h in
    and_from (is_plain b) (all_plain name) parts.0 (name_plain name parts.1)

name_some : (name : List ℕ) → is_nonempty name ≡ true → 0 < length name
name_some [] h = cc
name_some (b ∷ name) h = omega arith

module _ (mark : Mark) (is : IsMark mark) where
  entries_small : mark.entries < 2 ^ 64
  entries_small = let few = is.few in omega (arith, few)

  name_word : IsWord mark.name
  name_word =
      let parts = and_parts (is_nonempty mark.name) (list_all is_name_byte mark.name) is.name in
      (name_some mark.name parts.0, name_plain mark.name parts.1)

  sum_word : IsWord mark.sum
  sum_word =
      let parts = and_parts (length mark.sum == 64) (list_all is_lower_digit mark.sum) is.sum in
      let many = eqb-true (length mark.sum) 64 parts.0 in
      (omega (arith, many), sum_plain mark.sum parts.1)

  words : AllByRecursion IsWord (own_words mark)
  words =
      let number : IsWord (decimal mark.entries) = (decimal_nonempty mark.entries entries_small, decimal_plain mark.entries entries_small) in
      ((omega arith, refl), ((omega arith, refl), (name_word, ((omega arith, refl), (number, ((omega arith, refl), (sum_word, tt)))))))

  module _ (count : ℕ) (small : count < 2 ^ 64) where
    fields_in-own : (rest : List ℕ) →
        fields_in (own_head_text mark count ++ rest) ≡ own_fields mark (decimal mark.entries) (decimal count) ∷ fields_in rest
    fields_in-own rest =
        let last : IsWord (decimal count) = (decimal_nonempty count small, decimal_plain count small) in
        ap fields_in (own_head-line mark count rest)
        ∙ ap (map fields_of)
        (lines_of-line (line_of (own_words mark) (decimal count)) rest (line_of-free (own_words mark) (decimal count) words last))
        ∙ ap (λ fields. fields ∷ fields_in rest) (fields_of-line_of (own_words mark) (decimal count) words last)

  -- its fields are a head with this mark, and name no protocol
  own_marked : (count : List ℕ) → marked_by (own_fields mark (decimal mark.entries) count) ≡ Some mark
  own_marked count =
      ap (λ number. mark_by mark.name number mark.sum) (number_of-decimal mark.entries entries_small ENTRY_LIMIT is.few)
      ∙ cond-true (is_sum mark.sum) (Some (marked mark.name mark.entries mark.sum)) None is.sum

  module _ (events : List Event) (small : length events < 2 ^ 64) where
    own_lines : fields_in (own_text mark events)
        ≡ own_fields mark (decimal mark.entries) (decimal (length events)) ∷ fields_in (flat_map event_text events)
    own_lines = fields_in-own (length events) small (flat_map event_text events)

    own_mark_in : mark_in (own_text mark events) ≡ Some mark
    own_mark_in = ap (λ lines. marked_by (first_fields lines)) own_lines ∙ own_marked (decimal (length events))

    own_unnamed : protocol_in (own_text mark events) ≡ None
    own_unnamed = ap (λ lines. named_by (first_fields lines)) own_lines

    own_says : meanings (trace_text events) ≡ says (own_text mark events)
    own_says =
        let rest = flat_map event_text events in
        let count = decimal (length events) in
        let fields = own_fields mark (decimal mark.entries) count in
        let plain : plain_lines (fields ∷ fields_in rest) ≡ (codes "trace" ∷ count ∷ []) ∷ fields_in rest =
        plain_lines-head fields count (fields_in rest) (plain_of-marked fields mark count (own_marked count) refl) in
        sym (meanings-fields (trace_text events))
        ∙ ap (map meaning_of) (fields_in-head (length events) small Ghs rest ∙ sym (ap plain_lines own_lines ∙ plain))

own_sound : (mark : Mark) (events : List Event) (fault : StoredFault) → IsMark mark → length events < 2 ^ 64 → IsReadBack events →
    HasOwnFault (own_text mark events) fault → ⊥
own_sound mark events (Other other) is small back h = let no : None ≡ Some other = sym (own_unnamed mark is events small) ∙ h in cc
own_sound mark events Own is small back h = h
own_sound mark events (Trace fault) is small back h =
    back.sound fault (subst (λ lines. HaveFault lines fault) (sym (own_says mark is events small)) h.1)

pub reads_back_own : ((events : List Event) → ReadsBack events) → ReadsBackOwn
reads_back_own law mark events is narrow few =
    let small : length events < 2 ^ 64 = omega arith in
    let back = law events narrow few in
    let lines = own_says mark is events small in
    let here = own_mark_in mark is events small in
    record {
      has = record { marked = here; trace = subst (λ ls. IsTrace ls events) lines back.has };
      alone = λ other others h.
          (same_Some other mark (sym h.marked ∙ here), back.alone others (subst (λ ls. IsTrace ls others) (sym lines) h.trace));
      sound = λ fault h. own_sound mark events fault is small back h;
      refused = λ protocol. ap is_some here;
    }
