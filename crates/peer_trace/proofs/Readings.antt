-- Each text is one thing to who asks for a run of a protocol.
use Rattle.std.proofs.Common.{◌≡◌, ◌≢◌, ◌⊎◌, ◌∙◌, ℕ, suc, Bool, true, false, codes, cond, List, [], ◌∷◌, length, map, refl, sym, ap, subst, arith, inl, inr, ⊎_elim, Option, Some, None}
use Rattle.std.specs.Str.{bytes_eq}
use Rattle.std.proofs.lemmas.Bool.{cond-true}
use Rattle.std.proofs.lemmas.Option.{same_Some}
use Rattle.std.specs.Option.{is_some}
use Rattle.peer_network.specs.declared.event.Event.{Event}
use Rattle.peer_texts.specs.Laws.{IsOneReading}
use Rattle.peer_texts.specs.Line.{head_of, meaning_of, meanings, take_of, wake_of}
use Rattle.peer_texts.specs.Reading.{HaveFault, IsTrace, line_fault}
use Rattle.peer_texts.specs.declared.fault.TraceFault.{TraceFault}
use Rattle.peer_texts.specs.declared.line.Line.{Line}
use Rattle.peer_texts.specs.declared.line.Line.TheVariants.{Passed, Malformed}
use Rattle.peer_trace.specs.Head.{fields_in, first_fields, has_name, mark_in, named_by, plain_lines, protocol_in}
use Rattle.peer_trace.specs.Mark.{Mark}
use Rattle.peer_trace.specs.Laws.{AreReadAsBefore, HasOneProtocol, IsOneOwnReading, IsOneReadingOf}
use Rattle.peer_trace.specs.Reading.{HasEventsOf, HasFaultOf, HasOwnEvents, HasOwnFault, IsNoOther, says}
use Rattle.peer_trace.specs.declared.fault.StoredFault.{StoredFault}
use Rattle.peer_trace.specs.declared.fault.StoredFault.TheVariants.{Other, Own, Trace}
use Rattle.peer_trace.specs.declared.protocol.Protocol.{Protocol}
use Rattle.peer_trace.specs.declared.protocol.Protocol.TheVariants.{Ghs, Boruvka, Echo, Gather}
use Rattle.peer_trace.proofs.Heads.{meanings-fields, plain_lines-words, says-plain, says-same, unmarked}
use Rattle.peer_trace.proofs.Words.{fields_are_words, fields_in-text, text_of}

-- the head of a trace names GHS

-- no event stands in front of the head
event_first : (wake take : Bool) (more : List (List ℕ)) → line_fault None (cond wake (wake_of more) (cond take (take_of more) Malformed)) ≡ None → ⊥
event_first true take [] e = cc
event_first true take (node ∷ []) e = cc
event_first true take (node ∷ other ∷ more) e = cc
event_first false true [] e = cc
event_first false true (node ∷ []) e = cc
event_first false true (node ∷ port ∷ []) e = cc
event_first false true (node ∷ port ∷ other ∷ more) e = cc
event_first false false more e = cc

head_first : (head wake take : Bool) (first : List ℕ) (more : List (List ℕ)) → bytes_eq first (codes "trace") ≡ head →
    line_fault None (cond head (head_of more) (cond wake (wake_of more) (cond take (take_of more) Malformed))) ≡ None →
    named_by (first ∷ more) ≡ Some Ghs
head_first true wake take first [] is e = cc
head_first true wake take first (count ∷ []) is e = cond-true (bytes_eq first (codes "trace")) _ _ is
head_first true wake take first (name ∷ count ∷ more) is e = cc
head_first false wake take first more is e = absurd (event_first wake take more e)

behind_blank : (lines : List Line) (events : List Event) → IsTrace (Passed ∷ lines) events → IsTrace lines events
behind_blank lines events trace = record { sound = λ k l. trace.sound (suc k) (omega arith); head = trace.head; all = trace.all }

head_named : (lines : List (List (List ℕ))) (events : List Event) → IsTrace (map meaning_of lines) events → named_by (first_fields lines) ≡ Some Ghs
head_named [] events trace = let no : None ≡ Some (length events) = trace.head in cc
head_named ([] ∷ lines) events trace = head_named lines events (behind_blank (map meaning_of lines) events trace)
head_named ((first ∷ more) ∷ lines) events trace =
    head_first (bytes_eq first (codes "trace")) (bytes_eq first (codes "wake")) (bytes_eq first (codes "take")) first more refl
    (trace.sound 0 (omega arith))

-- what the lines say is one thing, as it is what the lines of a text say

abbrev AreOne : List Line → Type 0
AreOne lines =
    (((events : List Event) × IsTrace lines events) ⊎ ((fault : TraceFault) × HaveFault lines fault))
    × ((events others : List Event) → IsTrace lines events → IsTrace lines others → events ≡ others)
    × ((fault other : TraceFault) → HaveFault lines fault → HaveFault lines other → fault ≡ other)
    × ((events : List Event) (fault : TraceFault) → IsTrace lines events → HaveFault lines fault → ⊥)

plain_text : List ℕ → List ℕ
plain_text text = text_of (plain_lines (fields_in text))

plain_text_says : (text : List ℕ) → meanings (plain_text text) ≡ says text
unfolding plain_text
plain_text_says text = says-plain (text_of (plain_lines (fields_in text))) text
    (fields_in-text (plain_lines (fields_in text)) (plain_lines-words (fields_in text) (fields_are_words text)))

one_of_lines : ((text : List ℕ) → IsOneReading text) → (text : List ℕ) → AreOne (says text)
one_of_lines law text =
    let one = law (plain_text text) in
    subst AreOne (plain_text_says text) (one.some, one.one_list, one.one_fault, one.never_both)

-- protocols

same_or_not : (protocol other : Protocol) → (protocol ≡ other) ⊎ (protocol ≢ other)
same_or_not Ghs Ghs = inl refl
same_or_not Ghs Boruvka = inr (λ e. cc)
same_or_not Ghs Echo = inr (λ e. cc)
same_or_not Ghs Gather = inr (λ e. cc)
same_or_not Boruvka Ghs = inr (λ e. cc)
same_or_not Boruvka Boruvka = inl refl
same_or_not Boruvka Echo = inr (λ e. cc)
same_or_not Boruvka Gather = inr (λ e. cc)
same_or_not Echo Ghs = inr (λ e. cc)
same_or_not Echo Boruvka = inr (λ e. cc)
same_or_not Echo Echo = inl refl
same_or_not Echo Gather = inr (λ e. cc)
same_or_not Gather Ghs = inr (λ e. cc)
same_or_not Gather Boruvka = inr (λ e. cc)
same_or_not Gather Echo = inr (λ e. cc)
same_or_not Gather Gather = inl refl

abbrev HasReading : Protocol → List ℕ → Type 0
HasReading protocol text =
    ((events : List Event) × HasEventsOf protocol text events) ⊎ ((fault : StoredFault) × HasFaultOf protocol text fault)

pub own : (protocol : Protocol) (text : List ℕ) → protocol_in text ≡ Some protocol → IsNoOther protocol (protocol_in text)
own protocol text e = subst (IsNoOther protocol) (sym e) refl

pub unnamed : (protocol : Protocol) (text : List ℕ) → protocol_in text ≡ None → IsNoOther protocol (protocol_in text)
unnamed protocol text e = subst (IsNoOther protocol) (sym e) tt

-- whose name is another is none that may be asked for
another : (protocol other : Protocol) (text : List ℕ) → protocol_in text ≡ Some other → IsNoOther protocol (protocol_in text) → other ≡ protocol
another protocol other text e h = subst (IsNoOther protocol) e h

-- the lines of a trace name the protocol, or have a mark
pub trace_named : (text : List ℕ) (events : List Event) → IsTrace (says text) events → mark_in text ≡ None → protocol_in text ≡ None → ⊥
trace_named text events trace markless none =
    let lines = meanings-fields text ∙ says-same text markless (ap has_name none) in
    let named = head_named (fields_in text) events (subst (λ ls. IsTrace ls events) (sym lines) trace) in
    let no : None ≡ Some Ghs = sym none ∙ named in
    cc

-- a text with a mark names no protocol
marked_unnamed : (text : List ℕ) (mark : Mark) (protocol : Protocol) → mark_in text ≡ Some mark → protocol_in text ≡ Some protocol → ⊥
marked_unnamed text mark protocol e named =
    let no : None ≡ Some mark = sym (unmarked text protocol named) ∙ e in
    cc

some_named : (protocol named : Protocol) (text : List ℕ) → protocol_in text ≡ Some named → (protocol ≡ named) ⊎ (protocol ≢ named) →
    AreOne (says text) → HasReading protocol text
some_named protocol named text e (inl same) one = ⊎_elim
    (λ read. inl (read.0, record { named = e ∙ ap Some (sym same); trace = read.1 }))
    (λ faulty. inr (Trace faulty.0, (own protocol text (e ∙ ap Some (sym same)), unmarked text named e, faulty.1)))
    one.0
some_named protocol named text e (inr other) one = inr (Other named, (e, λ same. other (sym same)))

some_unnamed : (protocol : Protocol) (text : List ℕ) (mark : Option Mark) → protocol_in text ≡ None → mark_in text ≡ mark → AreOne (says text) →
    HasReading protocol text
some_unnamed protocol text None e markless one = ⊎_elim
    (λ read. absurd (trace_named text read.0 read.1 markless e))
    (λ faulty. inr (Trace faulty.0, (unnamed protocol text e, markless, faulty.1)))
    one.0
some_unnamed protocol text (Some mark) e marked one = inr (Own, ap is_some marked)

some_reading : (protocol : Protocol) (text : List ℕ) (named : Option Protocol) → protocol_in text ≡ named → AreOne (says text) →
    HasReading protocol text
some_reading protocol text None e one = some_unnamed protocol text (mark_in text) e refl one
some_reading protocol text (Some named) e one = some_named protocol named text e (same_or_not protocol named) one

-- what has a mark is named by none, and so isn't faulty otherwise
mark_or_none : (mark : Option Mark) → is_some mark ≡ true → mark ≡ None → ⊥
mark_or_none None is none = cc
mark_or_none (Some mark) is none = cc

marked_or_named : (text : List ℕ) (protocol : Protocol) → is_some (mark_in text) ≡ true → protocol_in text ≡ Some protocol → ⊥
marked_or_named text protocol is named = mark_or_none (mark_in text) is (unmarked text protocol named)

one_fault : (protocol : Protocol) (text : List ℕ) (fault other : StoredFault) → AreOne (says text) →
    HasFaultOf protocol text fault → HasFaultOf protocol text other → fault ≡ other
one_fault protocol text (Other named) (Other again) one h i = ap Other (same_Some named again (sym h.0 ∙ i.0))
one_fault protocol text (Other named) Own one h i = absurd (marked_or_named text named i h.0)
one_fault protocol text (Other named) (Trace fault) one h i = absurd (h.1 (another protocol named text h.0 i.0))
one_fault protocol text Own (Other named) one h i = absurd (marked_or_named text named h i.0)
one_fault protocol text Own Own one h i = refl
one_fault protocol text Own (Trace fault) one h i = absurd (mark_or_none (mark_in text) h i.1)
one_fault protocol text (Trace fault) (Other named) one h i = absurd (i.1 (another protocol named text i.0 h.0))
one_fault protocol text (Trace fault) Own one h i = absurd (mark_or_none (mark_in text) i h.1)
one_fault protocol text (Trace fault) (Trace other) one h i = ap Trace (one.2 fault other h.2 i.2)

never_both : (protocol : Protocol) (text : List ℕ) (events : List Event) (fault : StoredFault) → AreOne (says text) →
    HasEventsOf protocol text events → HasFaultOf protocol text fault → ⊥
never_both protocol text events (Other named) one h i = i.1 (same_Some named protocol (sym i.0 ∙ h.named))
never_both protocol text events Own one h i = marked_or_named text protocol i h.named
never_both protocol text events (Trace fault) one h i = one.3 events fault h.trace i.2

pub one_reading_of : ((text : List ℕ) → IsOneReading text) → (protocol : Protocol) (text : List ℕ) → IsOneReadingOf protocol text
one_reading_of law protocol text =
    let one = one_of_lines law text in
    record {
      some = some_reading protocol text (protocol_in text) refl one;
      one_list = λ events others h i. one.1 events others h.trace i.trace;
      one_fault = λ fault other h i. one_fault protocol text fault other one h i;
      never_both = λ events fault h i. never_both protocol text events fault one h i;
    }

pub one_protocol : (text : List ℕ) → HasOneProtocol text
one_protocol text protocol other events others h i = same_Some protocol other (sym h.named ∙ i.named)

-- runs of GHS

ghs_has_no_name : (named : Option Protocol) → IsNoOther Ghs named → has_name named ≡ false
ghs_has_no_name None h = refl
ghs_has_no_name (Some named) h = ap (λ p. has_name (Some p)) h

own_lines : (text : List ℕ) → mark_in text ≡ None → IsNoOther Ghs (protocol_in text) → says text ≡ meanings text
own_lines text markless h = sym (says-same text markless (ghs_has_no_name (protocol_in text) h))

pub read_as_before : (text : List ℕ) → AreReadAsBefore text
read_as_before text = record {
  events = λ events. (
    (λ h. subst (λ lines. IsTrace lines events) (own_lines text (unmarked text Ghs h.named) (own Ghs text h.named)) h.trace),
    λ h.
        let named = head_named (fields_in text) events (subst (λ lines. IsTrace lines events) (sym (meanings-fields text)) h) in
        record {
          named = named;
          trace = subst (λ lines. IsTrace lines events) (sym (own_lines text (unmarked text Ghs named) (own Ghs text named))) h;
        },
  );
  fault = λ fault. (
    (λ h. (h.0, h.1, subst (λ lines. HaveFault lines fault) (own_lines text h.1 h.0) h.2)),
    λ h. (h.0, h.1, subst (λ lines. HaveFault lines fault) (sym (own_lines text h.1 h.0)) h.2),
  );
}

-- a trace whose head names no other protocol is a run of this one
pub own_run : (protocol : Protocol) (text : List ℕ) (events : List Event) (named : Option Protocol) → named ≡ protocol_in text →
    mark_in text ≡ None → IsNoOther protocol named → IsTrace (says text) events → HasEventsOf protocol text events
own_run protocol text events None is markless own trace = absurd (trace_named text events trace markless (sym is))
own_run protocol text events (Some named) is markless own trace = record { named = sym is ∙ ap Some own; trace = trace }

-- runs of a user's own protocol

abbrev HasOwnReading : List ℕ → Type 0
HasOwnReading text = ((mark : Mark) × (events : List Event) × HasOwnEvents text mark events) ⊎ ((fault : StoredFault) × HasOwnFault text fault)

some_marked : (text : List ℕ) (mark : Option Mark) → mark_in text ≡ mark → protocol_in text ≡ None → AreOne (says text) → HasOwnReading text
some_marked text None markless none one = ⊎_elim
    (λ read. absurd (trace_named text read.0 read.1 markless none))
    (λ faulty. inr (Trace faulty.0, (none, faulty.1)))
    one.0
some_marked text (Some mark) marked none one = ⊎_elim
    (λ read. inl (mark, read.0, record { marked = marked; trace = read.1 }))
    (λ faulty. inr (Trace faulty.0, (none, faulty.1)))
    one.0

some_own : (text : List ℕ) (named : Option Protocol) → protocol_in text ≡ named → AreOne (says text) → HasOwnReading text
some_own text None none one = some_marked text (mark_in text) refl none one
some_own text (Some protocol) named one = inr (Other protocol, named)

one_own_fault : (text : List ℕ) (fault other : StoredFault) → AreOne (says text) → HasOwnFault text fault → HasOwnFault text other → fault ≡ other
one_own_fault text (Other named) (Other again) one h i = ap Other (same_Some named again (sym h ∙ i))
one_own_fault text (Other named) Own one h i = absurd i
one_own_fault text (Other named) (Trace fault) one h i = let no : None ≡ Some named = sym i.0 ∙ h in cc
one_own_fault text Own other one h i = absurd h
one_own_fault text (Trace fault) (Other named) one h i = let no : None ≡ Some named = sym h.0 ∙ i in cc
one_own_fault text (Trace fault) Own one h i = absurd i
one_own_fault text (Trace fault) (Trace other) one h i = ap Trace (one.2 fault other h.1 i.1)

never_both_own : (text : List ℕ) (mark : Mark) (events : List Event) (fault : StoredFault) → AreOne (says text) → HasOwnEvents text mark events →
    HasOwnFault text fault → ⊥
never_both_own text mark events (Other named) one h i = marked_unnamed text mark named h.marked i
never_both_own text mark events Own one h i = i
never_both_own text mark events (Trace fault) one h i = one.3 events fault h.trace i.1

pub one_own_reading : ((text : List ℕ) → IsOneReading text) → (text : List ℕ) → IsOneOwnReading text
one_own_reading law text =
    let one = one_of_lines law text in
    record {
      some = some_own text (protocol_in text) refl one;
      one_mark = λ mark other events others h i. same_Some mark other (sym h.marked ∙ i.marked);
      one_list = λ mark other events others h i. one.1 events others h.trace i.trace;
      one_fault = λ fault other h i. one_own_fault text fault other one h i;
      never_both = λ mark events fault h i. never_both_own text mark events fault one h i;
    }
