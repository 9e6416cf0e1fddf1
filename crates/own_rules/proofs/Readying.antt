-- What is ready is what the answer does.
use Rattle.std.proofs.Common.{◌≡◌, ◌∙◌, ◌++◌, ◌+◌, ◌-◌, ◌≤◌, ◌&&◌, cond, ℕ, Bool, true, false, List, [], ◌∷◌, length, refl, sym, ap, subst, get_or, zero, suc, arith, Option, Some, None, IfSome, IfOk, Result, Ok, Err, nat_le, ltb-true, length-append}
use Rattle.std.specs.Option.{is_some}
use Rattle.std.specs.Prelude.{nat_lt, position, slice_get}
use Rattle.std.proofs.lemmas.Bool.{cond-false, cond-true, le-leb, lt-ltb}
use Rattle.std.proofs.lemmas.List.{length-map}
use Rattle.std.proofs.lemmas.List.Quantifiers.{position-Some}
use Rattle.std.proofs.lemmas.Option.{same_Some, slice_get-get_or}
use Rattle.own_book.specs.Answer.{Saying, reacts, saying, sends_in}
use Rattle.own_book.specs.Entry.{Entry, entry}
use Rattle.own_book.specs.Sends.{Sending, names_kind, sends_fault}
use Rattle.own_book.specs.Variables.{says_asleep}
use Rattle.own_book.specs.declared.answer_fault.AnswerFault.TheVariants.{NoKind, NoPort, StillAsleep}
use Rattle.own_rules.specs.Deed.{cost, deed_by, deed_of, deed_said, goes_on, left_then, paid, paid_by, reaction_fault, unless_faulty}
use Rattle.own_rules.specs.Questions.{asked_for, asks, is_lookup, lookup_of}
use Rattle.own_rules.specs.Ready.{AnswersSo, AreReady, Does, IsReady, price}
use Rattle.own_rules.specs.Rules.{message_in, numbered}
use Rattle.own_rules.specs.Texts.{Text, kinds_of, number_in, texts_of}
use Rattle.own_rules.specs.declared.node.Allowance.{Allowance}
use Rattle.own_rules.specs.declared.node.Lookup.{Lookup}
use Rattle.own_rules.specs.declared.ready.Ready.{Ready}
use Rattle.own_rules.proofs.Placing.{answer_is, same_is}

-- with more ports there is no other fault

module _ (kinds : Text) (few many : ℕ) (le : few ≤ many) where
  send_more : (s : Sending) (more : List Sending) (b c : Bool) → nat_lt s.0 few ≡ b → names_kind kinds s.1 ≡ c →
      sends_fault kinds few (s ∷ more) ≡ None → (sends_fault kinds few more ≡ None → sends_fault kinds many more ≡ None) →
      sends_fault kinds many (s ∷ more) ≡ None
  send_more s more false c e f h rest = let no : Some NoPort ≡ None = sym (cond-false (nat_lt s.0 few) _ _ e) ∙ h in cc
  send_more s more true false e f h rest =
      let no : Some NoKind ≡ None = sym (cond-false (names_kind kinds s.1) _ _ f) ∙ sym (cond-true (nat_lt s.0 few) _ _ e) ∙ h in cc
  send_more s more true true e f h rest =
      let here = ltb-true s.0 few e in
      cond-true (nat_lt s.0 many) _ _ (lt-ltb s.0 many (omega (arith, here, le))) ∙ cond-true (names_kind kinds s.1) _ _ f
      ∙ rest (sym (cond-true (names_kind kinds s.1) _ _ f) ∙ sym (cond-true (nat_lt s.0 few) _ _ e) ∙ h)

  sends_more : (sends : List Sending) → sends_fault kinds few sends ≡ None → sends_fault kinds many sends ≡ None
  sends_more [] h = refl
  sends_more (s ∷ more) h = send_more s more (nat_lt s.0 few) (names_kind kinds s.1) refl refl h (sends_more more)

  fault_by : (after : Text) (sends : List Sending) (b : Bool) → says_asleep after ≡ b → reaction_fault kinds few after sends ≡ None →
      reaction_fault kinds many after sends ≡ None
  fault_by after sends true e h = let no : Some StillAsleep ≡ None = sym (cond-true (says_asleep after) _ _ e) ∙ h in cc
  fault_by after sends false e h =
      cond-false (says_asleep after) _ _ e ∙ sends_more sends (sym (cond-false (says_asleep after) _ _ e) ∙ h)

pub none_of : {X : Type 0} (o : Option X) → is_some o ≡ false → o ≡ None
none_of None h = refl
none_of (Some x) h = cc

-- a reaction is ready

module _ (texts : List Text) (kinds : Text) (r : Ready) where
  pub reaction_ready : (after sends : Text) → reaction_fault kinds r.ports after (sends_in sends) ≡ None →
      r.after ≡ number_in texts after → r.sends.items ≡ numbered texts (sends_in sends) →
      IsReady texts kinds (Some (reacts after r.waits sends)) r
  reaction_ready after sends none state list ports left wide rich =
      let c = cost left r.waits (sends_in sends) in
      let many : length r.sends.items ≡ length (sends_in sends) = ap length list ∙ length-map (sends_in sends) (message_in texts) in
      let same : price left r ≡ c = ap (λ n. n + cond (r.waits && left.deferrals) 1 0) many in
      let fine : reaction_fault kinds ports after (sends_in sends) ≡ None =
      fault_by kinds r.ports ports wide after (sends_in sends) (says_asleep after) refl none in
      let pays : left_then left c ≡ Some (record left { messages = left.messages - c }) =
      cond-true (nat_le c left.messages) _ _ (le-leb c left.messages (omega (arith, rich, same))) in
      let does : deed_said kinds ports left (Some (reacts after r.waits sends))
      ≡ goes_on after r.waits (sends_in sends) (record left { messages = left.messages - c }) =
      ap (λ f. unless_faulty f (paid left after r.waits (sends_in sends))) fine ∙ ap (paid_by after r.waits (sends_in sends)) pays in
      subst (Does texts r left) (sym does ∙ refl)
      (subst (λ n. Does texts r left (goes_on after r.waits (sends_in sends) (record left { messages = left.messages - n }))) same
      (record { pays = rich; state = λ l. rw (sym state) refl; sends = sym list; waits = refl }))

-- the lookup of an entry is the one that it answers
pub answers_so : (texts : List Text) (kinds : Text) (e : Entry) (k : Lookup) (r : Ready) → lookup_of texts e ≡ Some k →
    IsReady texts kinds (saying (asked_for k) e.answer) r → AnswersSo texts kinds e r
answers_so texts kinds e k r at is l h =
    let same = same_is l k (sym (ap (is_lookup l) at) ∙ h) in
    subst (λ x. IsReady texts kinds (saying (asked_for x) e.answer) r) (sym same) is

-- what stands in a list with one more stood there before, or is that one
module _ {X : Type 0} where
  push_cases : (xs : List X) (y : X) (i : ℕ) (x : X) → slice_get (xs ++ y ∷ []) i ≡ Some x →
      {P : Type 0} → (slice_get xs i ≡ Some x → P) → (i ≡ length xs → y ≡ x → P) → P
  push_cases [] y zero x h old new = new refl (same_Some _ _ h)
  push_cases [] y (suc i) x h old new = cc
  push_cases (z ∷ zs) y zero x h old new = old h
  push_cases (z ∷ zs) y (suc i) x h old new = push_cases zs y i x h old (λ e. new (ap suc e))

  there_is : (test : X → Bool) (xs : List X) (i : ℕ) → position test xs ≡ Some i → (x : X) × (slice_get xs i ≡ Some x) × (test x ≡ true)
  there_is test [] i h = cc
  there_is test (d ∷ ds) i h =
      let p = position-Some test (d ∷ ds) i d h in (get_or (d ∷ ds) i d, slice_get-get_or (d ∷ ds) i d p.0, p.1)

pub ready_more : (texts : List Text) (kinds : Text) (book : List Entry) (all : List (Option Ready)) (o : Option Ready) →
    AreReady texts kinds book all →
    ((r : Ready) → o ≡ Some r → (e : Entry) → slice_get book (length all) ≡ Some e → AnswersSo texts kinds e r) →
    AreReady texts kinds book (all ++ o ∷ [])
ready_more texts kinds book all o are new i e r at here =
    push_cases all o i (Some r) here (are i e r at) (λ j same. new r same e (ap (slice_get book) (sym j) ∙ at))

-- what stands at the place of a lookup is what the book does
pub deed_ready : (book : List Entry) (all : List (Option Ready)) (l : Lookup) (i ports : ℕ) (left : Allowance) (r : Ready) →
    AreReady (texts_of book) (kinds_of book) book all → position (asks (texts_of book) l) book ≡ Some i → slice_get all i ≡ Some (Some r) →
    r.ports ≤ ports → price left r ≤ left.messages → Does (texts_of book) r left (deed_of book ports left l)
deed_ready book all l i ports left r are p here wide rich =
    let it = there_is (asks (texts_of book) l) book i p in
    subst (λ o. Does (texts_of book) r left (deed_by (kinds_of book) ports left l o)) (sym (answer_is (texts_of book) book l i it.0 p it.1))
    (are i it.0 r it.1 here l it.2 ports left wide rich)

-- what is ready of an answer is ready of the entry that says it
entry_ready : (texts : List Text) (kinds : Text) (book : List Entry) (i number : ℕ) (k : Lookup) (question answer : Text) (o : Option Saying)
    (it : Option Ready) →
    ((e : Entry) → slice_get book i ≡ Some e → Some k ≡ lookup_of texts e) → slice_get book i ≡ Some (entry question number answer) →
    o ≡ saying (asked_for k) answer → IfSome it (IsReady texts kinds o) →
    IfSome it (λ r. (e : Entry) → slice_get book i ≡ Some e → AnswersSo texts kinds e r)
entry_ready texts kinds book i number k question answer o None looks at says is = tt
entry_ready texts kinds book i number k question answer o (Some r) looks at says is = λ e there.
    let said = ap (λ (x : Entry). x.answer) (same_Some _ _ (sym at ∙ there)) in
    answers_so texts kinds e k r (sym (looks e there))
    (subst (λ x. IsReady texts kinds x r) (says ∙ ap (saying (asked_for k)) said) is)

pub ready_where : {E : Type 0} (texts : List Text) (kinds : Text) (book : List Entry) (i number : ℕ) (k : Lookup)
    (question answer : Text) (o : Option Saying) (r : Result (Option Ready) E) →
    ((e : Entry) → slice_get book i ≡ Some e → Some k ≡ lookup_of texts e) → slice_get book i ≡ Some (entry question number answer) →
    o ≡ saying (asked_for k) answer → IfOk r (λ it. IfSome it (IsReady texts kinds o)) →
    IfOk r (λ it. IfSome it (λ x. (e : Entry) → slice_get book i ≡ Some e → AnswersSo texts kinds e x))
ready_where texts kinds book i number k question answer o (Ok it) looks at says is =
    entry_ready texts kinds book i number k question answer o it looks at says is
ready_where texts kinds book i number k question answer o (Err e) looks at says is = tt

pub next_ready : (texts : List Text) (kinds : Text) (book : List Entry) (old new : List (Option Ready)) (o : Option Ready) (i : ℕ) →
    length old ≡ i → AreReady texts kinds book old → new ≡ old ++ o ∷ [] →
    IfSome o (λ r. (e : Entry) → slice_get book i ≡ Some e → AnswersSo texts kinds e r) →
    (length new ≡ i + 1) × AreReady texts kinds book new
next_ready texts kinds book old new o i many are grown is =
    let longer = length-append old (o ∷ []) in
    let count = ap length grown in (
      omega (arith, many, longer, count),
      subst (AreReady texts kinds book) (sym grown)
          (ready_more texts kinds book old o are
          (λ r so e at.
          subst (λ x. IfSome x (λ y. (f : Entry) → slice_get book i ≡ Some f → AnswersSo texts kinds f y)) so is e
          (ap (slice_get book) (sym many) ∙ at))),
    )

-- by the fields of a book made ready
pub deed_at : (inside now : List Entry) (said : List Text) (greeted : Text) (all : List (Option Ready)) (l : Lookup) (i ports : ℕ)
    (left : Allowance) (r : Ready) → said ≡ texts_of inside → greeted ≡ kinds_of inside → inside ≡ now → AreReady said greeted inside all →
    position (asks said l) inside ≡ Some i → slice_get all i ≡ Some (Some r) → r.ports ≤ ports →
    price left r ≤ left.messages → Does (texts_of now) r left (deed_of now ports left l)
deed_at inside now said greeted all l i ports left r texts kinds same are p here wide rich =
    subst (λ b. Does (texts_of b) r left (deed_of b ports left l)) same
    (deed_ready inside all l i ports left r (subst (λ k. AreReady (texts_of inside) k inside all) kinds
    (subst (λ ts. AreReady ts greeted inside all) texts are))
    (subst (λ ts. position (asks ts l) inside ≡ Some i) texts p) here wide rich)
