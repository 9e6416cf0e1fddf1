-- How lines are read one after the other, and what they are in the end.
use Rattle.std.proofs.Common.{◌≡◌, ◌+◌, ◌⊎◌, ◌∙◌, ◌==◌, ℕ, Bool, true, false, List, [], ◌∷◌, ◌++◌, length, refl, sym, ap, arith, subst, inl, inr, ⊎_elim, Option, Some, None, Result, Ok, Err, cond}
use Rattle.std.specs.Option.{option_or}
use Rattle.std.proofs.lemmas.Bool.{eqb-false, eqb-true}
use Rattle.std.proofs.lemmas.List.{length-append}
use Rattle.std.proofs.lemmas.List.Elements.{filter_map-append}
use Rattle.ghs_lines.specs.Judging.{AreSound, IsFirstFault}
use Rattle.ghs_lines.proofs.lemmas.Judging.{FirstBelow, Passes, first_below, first_fault, not_sound, or_fault, same_fault, sound_more}
use Rattle.peer_network.specs.declared.event.Event.{Event}
use Rattle.peer_texts.specs.Laws.{IsOneReading}
use Rattle.peer_texts.specs.Line.{meanings}
use Rattle.peer_texts.specs.Reading.{HaveFault, IsMiscount, IsTrace, LacksHead, event_in, events_in, head_in, judge, line_fault, of_line}
use Rattle.peer_texts.specs.Reads.{HasRead}
use Rattle.peer_texts.specs.declared.fault.LineFault.{LineFault}
use Rattle.peer_texts.specs.declared.fault.LineFault.TheVariants.{BadLine, Number}
use Rattle.peer_texts.specs.declared.fault.TraceFault.{TraceFault}
use Rattle.peer_texts.specs.declared.fault.TraceFault.TheVariants as trace
use Rattle.peer_texts.specs.declared.line.Line.{Line}
use Rattle.peer_texts.specs.declared.line.Line.TheVariants as line
use Rattle.peer_texts.specs.declared.reading.Reading.{Reading}
use Rattle.peer_texts.proofs.Slow.{slow_text, sound_lines}

-- lines, and more lines behind them

head_in-append : (xs ys : List Line) → head_in (xs ++ ys) ≡ option_or (head_in xs) (head_in ys)
head_in-append [] ys = refl
head_in-append (line.Passed ∷ xs) ys = head_in-append xs ys
head_in-append (line.Malformed ∷ xs) ys = head_in-append xs ys
head_in-append (line.Head None ∷ xs) ys = head_in-append xs ys
head_in-append (line.Head (Some count) ∷ xs) ys = refl
head_in-append (line.Wake v ∷ xs) ys = head_in-append xs ys
head_in-append (line.Take v port ∷ xs) ys = head_in-append xs ys

-- a line that says nothing has no fault
passes : Passes judge
passes said = refl

-- one more line without a fault
pub reads_more : (ls : List Line) (l : Line) (old new : Reading) → HasRead ls old → line_fault old.said l ≡ None
    → new.said ≡ option_or old.said (head_in (l ∷ [])) → new.events.items ≡ old.events.items ++ events_in (l ∷ []) → new.lines ≡ old.lines + 1
    → HasRead (ls ++ l ∷ []) new
reads_more ls l old new read sound said events lines = record {
  sound = sound_more judge ls l read.sound (ap (λ head. line_fault head l) (sym read.said) ∙ sound);
  counted = omega (arith, read.counted, lines, length-append ls (l ∷ []));
  said = said ∙ ap (λ head. option_or head (head_in (l ∷ []))) read.said ∙ sym (head_in-append ls (l ∷ []));
  events = events ∙ ap (λ es. es ++ events_in (l ∷ [])) read.events ∙ sym (filter_map-append event_in ls (l ∷ []));
}

-- each text is something: what the slow way finds

HaveFault-of_line : (ls : List Line) (f : LineFault) (n : ℕ) → IsFirstFault judge ls n f → HaveFault ls (of_line f n)
HaveFault-of_line ls BadLine n h = inl h
HaveFault-of_line ls Number n h = h

-- what lines are: the text of a trace, or this fault
abbrev LinesAre : List Line → Result (List Event) TraceFault → Type 0
LinesAre ls (Ok events) = IsTrace ls events
LinesAre ls (Err fault) = HaveFault ls fault

counted : (ls : List Line) (said : ℕ) (b : Bool) → AreSound judge ls → head_in ls ≡ Some said → b ≡ (said == length (events_in ls))
    → LinesAre ls (cond b (Ok (events_in ls)) (Err (trace.Count said (length (events_in ls)))))
counted ls said true sound head e =
    record { sound = sound; head = head ∙ ap (λ n. Some n) (eqb-true said (length (events_in ls)) (sym e)); all = refl }
counted ls said false sound head e = record { sound = sound; head = head; counted = refl; other = eqb-false said (length (events_in ls)) (sym e) }

found_sound : (ls : List Line) (head : Option ℕ) → AreSound judge ls → head_in ls ≡ head → LinesAre ls (sound_lines ls head)
found_sound ls None sound e = inr (record { sound = sound; none = e }, refl)
found_sound ls (Some said) sound e = counted ls said (said == length (events_in ls)) sound e refl

found_at : (ls : List Line) (o : Option TraceFault) → FirstBelow judge of_line ls (length ls) o →
    LinesAre ls (or_fault o (sound_lines ls (head_in ls)))
found_at ls None h = found_sound ls (head_in ls) h refl
found_at ls (Some g) h = subst (HaveFault ls) (sym h.3) (HaveFault-of_line ls h.1 h.0 h.2)

-- the slow way finds what a text is
pub found : (text : List ℕ) → LinesAre (meanings text) (slow_text text)
found text = let ls = meanings text in found_at ls (first_fault judge of_line ls (length ls)) (first_below judge of_line ls (length ls))

abbrev AreSome : List Line → Type 0
AreSome ls = ((events : List Event) × IsTrace ls events) ⊎ ((fault : TraceFault) × HaveFault ls fault)

are_some : (ls : List Line) (r : Result (List Event) TraceFault) → LinesAre ls r → AreSome ls
are_some ls (Ok events) h = inl (events, h)
are_some ls (Err fault) h = inr (fault, h)

-- no text is two things

data Kind (ls : List Line) (fault : TraceFault) : Type 0 where
  faulty : (n : ℕ) (f : LineFault) → IsFirstFault judge ls n f → fault ≡ of_line f n → Kind ls fault
  lacking : LacksHead ls → fault ≡ trace.BadLine 1 → Kind ls fault
  miscounted : (said found : ℕ) → IsMiscount ls said found → fault ≡ trace.Count said found → Kind ls fault

kind_of : (ls : List Line) (fault : TraceFault) → HaveFault ls fault → Kind ls fault
kind_of ls (trace.BadLine n) h = ⊎_elim
    (λ first. faulty n BadLine first refl)
    (λ lack. lacking lack.0 (ap (λ m. trace.BadLine m) lack.1)) h
kind_of ls (trace.Number n) h = faulty n Number h refl
kind_of ls (trace.Count said found) h = miscounted said found h refl
kind_of ls trace.Memory h = absurd h

same_kind : (ls : List Line) (a b : TraceFault) → Kind ls a → Kind ls b → a ≡ b
same_kind ls a b (faulty n f h e) (faulty m g i d) = e ∙ same_fault judge of_line ls n m f g h i ∙ sym d
same_kind ls a b (faulty n f h e) (lacking i d) = absurd (not_sound judge passes ls n f h i.sound)
same_kind ls a b (faulty n f h e) (miscounted said found i d) = absurd (not_sound judge passes ls n f h i.sound)
same_kind ls a b (lacking h e) (faulty m g i d) = absurd (not_sound judge passes ls m g i h.sound)
same_kind ls a b (lacking h e) (lacking i d) = e ∙ sym d
same_kind ls a b (lacking h e) (miscounted said found i d) = let x : None ≡ Some said = sym h.none ∙ i.head in cc
same_kind ls a b (miscounted said found h e) (faulty m g i d) = absurd (not_sound judge passes ls m g i h.sound)
same_kind ls a b (miscounted said found h e) (lacking i d) = let x : None ≡ Some said = sym i.none ∙ h.head in cc
same_kind ls a b (miscounted said found h e) (miscounted other number i d) =
    let x : Some said ≡ Some other = sym h.head ∙ i.head in
    let same : said ≡ other = cc in
    e ∙ ap (λ n. trace.Count n found) same ∙ ap (λ n. trace.Count other n) (h.counted ∙ sym i.counted) ∙ sym d

not_faulty : (ls : List Line) (events : List Event) (fault : TraceFault) → IsTrace ls events → Kind ls fault → ⊥
not_faulty ls events fault h (faulty m g i d) = not_sound judge passes ls m g i h.sound
not_faulty ls events fault h (lacking i d) = let x : None ≡ Some (length events) = sym i.none ∙ h.head in cc
not_faulty ls events fault h (miscounted said found i d) =
    let x : Some said ≡ Some (length events) = sym i.head ∙ h.head in
    let same : said ≡ length events = cc in
    i.other (same ∙ ap length h.all ∙ sym i.counted)

pub never_both : (ls : List Line) (events : List Event) (fault : TraceFault) → IsTrace ls events → HaveFault ls fault → ⊥
never_both ls events fault h i = not_faulty ls events fault h (kind_of ls fault i)

pub one_reading : (text : List ℕ) → IsOneReading text
one_reading text = record {
  some = are_some (meanings text) (slow_text text) (found text);
  one_list = λ events other h i. h.all ∙ sym i.all;
  one_fault = λ fault other h i. same_kind (meanings text) fault other (kind_of (meanings text) fault h) (kind_of (meanings text) other i);
  never_both = λ events fault h i. never_both (meanings text) events fault h i;
}
