-- What can come of asking the book.
use Rattle.std.proofs.Common.{◌≡◌, ℕ, Bool, true, false, ◌&&◌, cond, List, Option, Some, None, refl, sym, subst}
use Rattle.std.specs.Bool.{Decides}
use Rattle.std.proofs.lemmas.Bool.Decides.{Decides-and, Decides-like, not_from_Decides}
use Rattle.own_book.specs.declared.answer_fault.AnswerFault.{AnswerFault}
use Rattle.own_book.specs.Answer.{Saying, gives_up, greets, opens, reacts, saying}
use Rattle.own_book.specs.Entry.{Entry, told_in}
use Rattle.own_book.specs.declared.question.Asked.TheVariants as asked
use Rattle.own_judge.proofs.Same.{sends_decide}
use Rattle.own_judge.specs.Deed.{DeedState, agree, deed_in, is_same, same_sends}
use Rattle.own_judge.specs.Laws.{Answers, AgreesRightly, AsksRightly, DiffersRightly, DoesTheSame, HasDiffered, HasReacted, IsIn}
use Rattle.own_judge.specs.Look.{Asking, by_answer, by_first, by_opening, by_reaction, in_state, judged, look_by, reaction_fault}
use Rattle.own_book.specs.Asking.{open_text}
use Rattle.own_judge.specs.Question.{work_asked, work_text}
use Rattle.own_judge.specs.declared.look.Amiss.{Amiss}
use Rattle.own_judge.specs.declared.look.Difference.{Difference}
use Rattle.own_judge.specs.declared.look.Look.{Look}
use Rattle.own_judge.specs.declared.look.Look.TheVariants as look
use Rattle.own_judge.specs.declared.look.Own.{Own}
use Rattle.own_judge.specs.declared.look.Own.TheVariants as own

same_decides : (b c : Bool) → Decides (is_same b c) (b ≡ c)
same_decides true true = (λ _. refl, λ _. refl)
same_decides true false = (λ h. cc, λ e. cc)
same_decides false true = (λ h. cc, λ e. cc)
same_decides false false = (λ _. refl, λ _. refl)

pub agree_decides : (one other : DeedState) → Decides (agree one other) (DoesTheSame one other)
agree_decides one other =
    Decides-like (agree one other) (λ h. record { waits = h.0.0; sends = h.1; halts = h.0.1 }) (λ h. ((h.waits, h.halts), h.sends))
    (Decides-and (is_same one.waits other.waits && is_same one.halts other.halts) (same_sends one.sends other.sends)
    (Decides-and (is_same one.waits other.waits) (is_same one.halts other.halts) (same_decides one.waits other.waits)
    (same_decides one.halts other.halts))
    (sends_decide one.sends other.sends))

module _ (P : Look → Type 0) (book : List Entry) (a : Asking) (asks : (q : List ℕ) → told_in book q ≡ None → P (look.Open q))
    (fails : (am : Amiss) → P (look.Fails am)) where
  module _ (before : List ℕ)
      (agrees : (after : List ℕ) (deed : DeedState) → Answers book a before after deed → DoesTheSame deed a.theirs → P (look.Agrees after))
      (differs : (d : Difference) (after : List ℕ) → d.before ≡ before → Answers book a before after d.deed → (DoesTheSame d.deed a.theirs → ⊥) →
      P (look.Differs d)) where
    by_test : (line : ℕ) (after : List ℕ) (deed : DeedState) (b : Bool) → agree deed a.theirs ≡ b → Answers book a before after deed →
        P (cond b (look.Agrees after) (look.Differs (record { before = before; line = line; deed = deed })))
    by_test line after deed true same answers = agrees after deed answers ((agree_decides deed a.theirs).0 same)
    by_test line after deed false other answers =
        differs (record { before = before; line = line; deed = deed }) after refl answers
        (not_from_Decides (agree deed a.theirs) (agree_decides deed a.theirs) other)

    by_fault : (question : List ℕ) (told : ℕ × List ℕ) (after : List ℕ) (waits : Bool) (sends : List ℕ) (fault : Option AnswerFault) →
        Answers book a before after (deed_in before after waits sends) → P (judged a question before told after waits sends fault)
    by_fault question told after waits sends (Some fault) answers = fails _
    by_fault question told after waits sends None answers =
        by_test told.0 after (deed_in before after waits sends) (agree (deed_in before after waits sends) a.theirs) refl answers

    by_saying : (told : ℕ × List ℕ) (said : Option Saying) → told_in book (work_text a.node a.work before) ≡ Some told →
        saying (work_asked a.work) told.1 ≡ said → P (by_reaction a (work_text a.node a.work before) before told said)
    by_saying told None is says = fails _
    by_saying told (Some (greets name kinds)) is says = fails _
    by_saying told (Some (opens state)) is says = fails _
    by_saying told (Some (gives_up why)) is says = fails _
    by_saying told (Some (reacts after waits sends)) is says =
        by_fault (work_text a.node a.work before) told after waits sends (reaction_fault a after sends)
        (record { line = told.0; answer = told.1; waits = waits; sends = sends; told = is; says = says; does = refl })

    by_told : (told : Option (ℕ × List ℕ)) → told_in book (work_text a.node a.work before) ≡ told →
        P (by_answer a (work_text a.node a.work before) before told)
    by_told None is = asks (work_text a.node a.work before) is
    by_told (Some told) is = by_saying told (saying (work_asked a.work) told.1) is refl

    in_cases : P (in_state book a before)
    in_cases = by_told (told_in book (work_text a.node a.work before)) refl

-- what comes of an event, by all that can
module _ (P : Look → Type 0) (book : List Entry) (a : Asking) (here : Own) (asks : (q : List ℕ) → told_in book q ≡ None → P (look.Open q))
    (fails : (am : Amiss) → P (look.Fails am)) (silent : here ≡ own.Unknown → P look.Silent)
    (agrees : (before after : List ℕ) (deed : DeedState) → IsIn book a here before → Answers book a before after deed → DoesTheSame deed a.theirs →
    P (look.Agrees after))
    (differs : (d : Difference) (after : List ℕ) → IsIn book a here d.before → Answers book a d.before after d.deed →
    (DoesTheSame d.deed a.theirs → ⊥) → P (look.Differs d)) where
  known : (state : List ℕ) → IsIn book a here state → P (in_state book a state)
  known state is =
      in_cases P book a asks fails state (λ after deed answers same. agrees state after deed is answers same)
      (λ d after same answers other.
      differs d after (subst (IsIn book a here) (sym same) is)
      (subst (λ b. Answers book a b after d.deed) (sym same) answers) other)

  by_opens : (told : ℕ × List ℕ) (said : Option Saying) → told_in book (open_text a.node a.ports) ≡ Some told →
      saying asked.Opening told.1 ≡ said → here ≡ own.Unopened → P (by_opening book a (open_text a.node a.ports) told said)
  by_opens told None is says e = fails _
  by_opens told (Some (greets name kinds)) is says e = fails _
  by_opens told (Some (gives_up why)) is says e = fails _
  by_opens told (Some (reacts after waits sends)) is says e = fails _
  by_opens told (Some (opens state)) is says e =
      known state
      (subst (λ o. IsIn book a o state) (sym e) (record { line = told.0; answer = told.1; told = is; says = says }))

  by_first_told : (told : Option (ℕ × List ℕ)) → told_in book (open_text a.node a.ports) ≡ told → here ≡ own.Unopened →
      P (by_first book a (open_text a.node a.ports) told)
  by_first_told None is e = asks (open_text a.node a.ports) is
  by_first_told (Some told) is e = by_opens told (saying asked.Opening told.1) is refl e

  by_own : (o : Own) → here ≡ o → P (look_by book a o)
  by_own (own.Known state) e = known state (subst (λ o. IsIn book a o state) (sym e) refl)
  by_own own.Unopened e = by_first_told (told_in book (open_text a.node a.ports)) refl e
  by_own own.Unknown e = silent e

  pub look_cases : P (look_by book a here)
  look_cases = by_own here refl

pub agrees_rightly : (book : List Entry) (a : Asking) (here : Own) → AgreesRightly book a here
agrees_rightly book a here after =
    look_cases (λ l. l ≡ look.Agrees after → HasReacted book a here after) book a here (λ q none e. cc) (λ am e. cc) (λ is e. cc)
    (λ before later deed state answers same e.
    let is : later ≡ after = cc in
    record { before = before; deed = deed; state = state; answers = subst (λ t. Answers book a before t deed) is answers; same = same })
    (λ d later state answers other e. cc)

pub differs_rightly : (book : List Entry) (a : Asking) (here : Own) → DiffersRightly book a here
differs_rightly book a here d =
    look_cases (λ l. l ≡ look.Differs d → HasDiffered book a here d) book a here (λ q none e. cc) (λ am e. cc) (λ is e. cc)
    (λ before later deed state answers same e. cc)
    (λ x later state answers other e.
    let is : x ≡ d = cc in
    subst (λ (y : Difference). HasDiffered book a here y) is (record { after = later; state = state; answers = answers; other = other }))

pub asks_rightly : (book : List Entry) (a : Asking) (here : Own) → AsksRightly book a here
asks_rightly book a here question =
    look_cases (λ l. l ≡ look.Open question → told_in book question ≡ None) book a here
    (λ q none e. let is : q ≡ question = cc in subst (λ t. told_in book t ≡ None) is none) (λ am e. cc) (λ is e. cc)
    (λ before later deed state answers same e. cc) (λ d later state answers other e. cc)

-- only of a node of which nothing is known nothing is asked
pub silent_own : (book : List Entry) (a : Asking) (here : Own) → look_by book a here ≡ look.Silent → here ≡ own.Unknown
silent_own book a here =
    look_cases (λ l. l ≡ look.Silent → here ≡ own.Unknown) book a here (λ q none e. cc) (λ am e. cc) (λ is e. is)
    (λ before later deed state answers same e. cc) (λ d later state answers other e. cc)
