-- The rules of a book keep what a protocol promises. (What an impl has to prove of its members has to stand in specs/; no clause cites it.)
use Rattle.std.proofs.Common.{◌≡◌, ◌≢◌, ◌&&◌, ℕ, suc, ◌+◌, ◌-◌, ◌*◌, ◌<◌, ◌≤◌, ◌^◌, Bool, true, false, cond, nat_le, nat_lt, Option, Some, None, IsSome, List, [], ◌∷◌, length, refl, sym, ◌∙◌, ap, subst, ⊎_elim, arith, leb-true, ltb-true}
use Rattle.std.specs.Prelude.{unwrap_or}
use Rattle.std.specs.List.{position_or_len}
use Rattle.std.specs.Str.{bytes_eq}
use Rattle.std.proofs.lemmas.Bool.{and_from, and_parts, cases_eq, cond-false, cond-true}
use Rattle.std.proofs.lemmas.List.{length-map}
use Rattle.std.proofs.lemmas.Nat.{mul-le}
use Rattle.std.proofs.lemmas.Option.{same_Some}
use Rattle.own_book.specs.Sends.{Sending, kind_in, names_kind, sends_fault}
use Rattle.own_book.specs.Variables.{says_asleep}
use Rattle.own_book.specs.declared.answer_fault.AnswerFault.{AnswerFault}
use Rattle.own_book.specs.declared.answer_fault.AnswerFault.TheVariants.{Garbled, GivesUp, NoKind, NoPort, StillAsleep}
use Rattle.own_book.specs.Answer.{Saying, greets, opens, reacts, gives_up, saying, sends_in}
use Rattle.own_book.specs.Entry.{Entry, told_in}
use Rattle.own_book.specs.Parts.{cut_at}
use Rattle.own_book.specs.declared.question.Asked.TheVariants as asked
use Rattle.peer_network.specs.declared.event.Event.{Event}
use Rattle.peer_network.specs.declared.event.Event.TheVariants as events
use Rattle.peer_network.specs.Network.{Network, network_of, is_port}
use Rattle.peer_machine.specs.declared.work.Work.{Work}
use Rattle.peer_machine.specs.declared.work.Work.TheVariants as work
use Rattle.peer_machine.specs.Budget.{PaysFrom}
use Rattle.peer_machine.specs.Net.{Net, opening as opening_net, is_lawful, are_on_ports, reacted as reacted_net, take_first, if_reacted, takes_from, effect}
use Rattle.peer_machine.specs.Protocol.{HasRules, IsBoundedBy, FitsGraphs, StaysAwake}
use Rattle.peer_machine.specs.Rules.{Outcome, Outgoing, HasKinds}
use Rattle.peer_machine.specs.Run.{IsAfter}
use Rattle.peer_machine.specs.Steps.{Happens, Woke, Took}
use Rattle.peer_machine.proofs.lemmas.Budget.{sends_within}
use Rattle.peer_machine.proofs.lemmas.Runs.{run_keeps}
use Rattle.peer_machine.proofs.lemmas.Sends.{node_here, node_there}
use Rattle.own_rules.specs.Deed.{Deed, cost, deed_by, deed_of, deed_said, paid, paid_by, reaction_fault, stops, unless_faulty}
use Rattle.own_book.specs.Asking.{open_text}
use Rattle.own_rules.specs.Questions.{answer_at, asked_for}
use Rattle.own_rules.specs.Rules.{deferred, lookup_at, message_in, next, numbered, opened, opened_by, reacted, rules_of, sends_by, sent, sleeps, state_by, waits_by}
use Rattle.own_rules.specs.Texts.{Text, kinds_of, names_of, text_at, texts_of}
use Rattle.own_rules.specs.declared.node.Allowance.{Allowance}
use Rattle.own_rules.specs.declared.node.Lookup.{Lookup}
use Rattle.own_rules.specs.declared.node.Message.{Message}
use Rattle.own_rules.specs.declared.node.Node.{Node}
use Rattle.own_rules.specs.declared.node.Reason.{Reason}
use Rattle.own_rules.specs.declared.node.Reason.TheVariants.{Unanswered, Fails, Spent}
use Rattle.own_rules.specs.declared.node.State.{State}
use Rattle.own_rules.specs.declared.node.State.TheVariants.{Runs, Stopped}
use Rattle.own_rules.specs.declared.protocol.TheConstants.{RUNNING}

-- kinds

among : (n count : ℕ) (b : Bool) → nat_lt n count ≡ b → unwrap_or (cond b (Some n) None) 0 < suc (count - 1)
among n count true e = let lt = ltb-true n count e in omega (arith, lt)
among n count false e = omega arith

pub told_kinds : (book : List Entry) (most : Allowance) → HasKinds (rules_of book most)
told_kinds book most m =
    let names = names_of (kinds_of book) in
    let text = text_at (texts_of book) m.text in
    among (position_or_len (bytes_eq (kind_in text (cut_at 40 text))) names) (length names) _ refl

-- what a node may still send

abbrev pub left_of : State → ℕ
left_of (Runs text asleep left) = left.messages
left_of (Stopped s) = 0

abbrev pub budget : Node → ℕ
budget n = left_of n.state

-- whether deferrals count for it; one that has stopped defers nothing
abbrev pub counts : State → Bool
counts (Runs text asleep left) = left.deferrals
counts (Stopped s) = true

module _ (book : List Entry) (most : Allowance) where
  opened_said : (o : Option Saying) → left_of (opened_by book most o) ≤ most.messages
  opened_said None = omega arith
  opened_said (Some (greets name kinds)) = omega arith
  opened_said (Some (opens state)) = omega arith
  opened_said (Some (reacts state waits sends)) = omega arith
  opened_said (Some (gives_up why)) = omega arith

  opened_left : (o : Option (ℕ × Text)) → left_of (opened book most o) ≤ most.messages
  opened_left None = omega arith
  opened_left (Some told) = opened_said (saying asked.Opening told.1)

  -- where deferrals count, they count for each node that opens
  counts_said : most.deferrals ≡ true → (o : Option Saying) → counts (opened_by book most o) ≡ true
  counts_said count None = refl
  counts_said count (Some (greets name kinds)) = refl
  counts_said count (Some (opens state)) = count
  counts_said count (Some (reacts state waits sends)) = refl
  counts_said count (Some (gives_up why)) = refl

  pub opened_counts : most.deferrals ≡ true → (o : Option (ℕ × Text)) → counts (opened book most o) ≡ true
  opened_counts count None = refl
  opened_counts count (Some told) = counts_said count (saying asked.Opening told.1)

-- A deed of a node with this allowance costs no more, leaves it awake, and sends at its ports. Where deferrals count, they count on.
module _ (book : List Entry) (most : Allowance) (ports : ℕ) (left : Allowance) where
  abbrev OnPorts : Outgoing Message → Type 0
  OnPorts ss = (g : Network) (v : ℕ) → ports ≡ length (g.ports v) → are_on_ports (rules_of book most) g v ss ≡ true

  record IsDeed (l : Lookup) (d : Deed) : Type 0 where
    pub pays : cost left (waits_by d) (sends_by (texts_of book) d) + left_of (state_by (texts_of book) l d) ≤ left.messages
    pub count : left.deferrals ≡ true → counts (state_by (texts_of book) l d) ≡ true
    pub awake : sleeps book (state_by (texts_of book) l d) ≡ false
    pub fits : OnPorts (sends_by (texts_of book) d)

  stops_is : (l : Lookup) (why : Reason) → IsDeed l (stops why)
  stops_is l why = record { pays = omega arith; count = λ h. refl; awake = refl; fits = λ g v e. refl }

  -- no send without a fault is at a port that isn't there
  send_by : (kinds : Text) (s : Sending) (more : List Sending) (b c : Bool) → nat_lt s.0 ports ≡ b → names_kind kinds s.1 ≡ c →
      sends_fault kinds ports (s ∷ more) ≡ None → (sends_fault kinds ports more ≡ None → OnPorts (numbered (texts_of book) more)) →
      OnPorts (numbered (texts_of book) (s ∷ more))
  send_by kinds s more false c e f h inner = let no : Some NoPort ≡ None = sym (cond-false (nat_lt s.0 ports) _ _ e) ∙ h in cc
  send_by kinds s more true false e f h inner =
      let no : Some NoKind ≡ None = sym (cond-false (names_kind kinds s.1) _ _ f) ∙ sym (cond-true (nat_lt s.0 ports) _ _ e) ∙ h in cc
  send_by kinds s more true true e f h inner = λ g v z.
      and_from _ _ (subst (λ x. nat_lt s.0 x ≡ true) z e)
      (inner (sym (cond-true (names_kind kinds s.1) _ _ f) ∙ sym (cond-true (nat_lt s.0 ports) _ _ e) ∙ h) g v z)

  sends_on : (kinds : Text) (sends : List Sending) → sends_fault kinds ports sends ≡ None → OnPorts (numbered (texts_of book) sends)
  sends_on kinds [] h = λ g v e. refl
  sends_on kinds (s ∷ more) h =
      send_by kinds s more (nat_lt s.0 ports) (names_kind kinds s.1) refl refl h (sends_on kinds more)

  unfaulty : (kinds after : Text) (sends : List Sending) (b : Bool) → says_asleep after ≡ b →
      reaction_fault kinds ports after sends ≡ None →
      sends_fault kinds ports sends ≡ None
  unfaulty kinds after sends true e h = let no : Some StillAsleep ≡ None = sym (cond-true (says_asleep after) _ _ e) ∙ h in cc
  unfaulty kinds after sends false e h = sym (cond-false (says_asleep after) _ _ e) ∙ h

  paid_is : (l : Lookup) (after : Text) (waits : Bool) (sends : List Sending) (b : Bool) →
      nat_le (cost left waits sends) left.messages ≡ b → OnPorts (numbered (texts_of book) sends) → IsDeed l (paid left after waits sends)
  paid_is l after waits sends false e fits =
      subst (λ o. IsDeed l (paid_by after waits sends o)) (sym (cond-false (nat_le (cost left waits sends) left.messages) _ _ e)) (stops_is l Spent)
  paid_is l after waits sends true e fits =
      let few = leb-true (cost left waits sends) left.messages e in
      let same = length-map sends (message_in (texts_of book)) in
      subst (λ o. IsDeed l (paid_by after waits sends o)) (sym (cond-true (nat_le (cost left waits sends) left.messages) _ _ e))
      (record { pays = omega (arith, few, same); count = λ h. h; awake = refl; fits = fits })

  faulty_is : (kinds : Text) (l : Lookup) (after : Text) (waits : Bool) (sends : List Sending) (f : Option AnswerFault) →
      reaction_fault kinds ports after sends ≡ f → IsDeed l (unless_faulty f (paid left after waits sends))
  faulty_is kinds l after waits sends (Some fault) e = stops_is l (Fails fault)
  faulty_is kinds l after waits sends None e =
      paid_is l after waits sends (nat_le (cost left waits sends) left.messages) refl
      (sends_on kinds sends (unfaulty kinds after sends (says_asleep after) refl e))

  said_is : (kinds : Text) (l : Lookup) (o : Option Saying) → IsDeed l (deed_said kinds ports left o)
  said_is kinds l None = stops_is l (Fails Garbled)
  said_is kinds l (Some (greets name others)) = stops_is l (Fails Garbled)
  said_is kinds l (Some (opens state)) = stops_is l (Fails Garbled)
  said_is kinds l (Some (gives_up why)) = stops_is l (Fails GivesUp)
  said_is kinds l (Some (reacts after waits sends)) =
      faulty_is kinds l after waits (sends_in sends) (reaction_fault kinds ports after (sends_in sends)) refl

  answer_is : (kinds : Text) (l : Lookup) (o : Option Text) → IsDeed l (deed_by kinds ports left l o)
  answer_is kinds l None = stops_is l Unanswered
  answer_is kinds l (Some answer) = said_is kinds l (saying (asked_for l) answer)

  deed_is : (l : Lookup) → IsDeed l (deed_of book ports left l)
  deed_is l = answer_is (kinds_of book) l (answer_at (texts_of book) book l)

module _ (book : List Entry) (most : Allowance) where
  -- a reaction of a node in any state pays, leaves it awake, and sends at its ports
  next_pays : (v ports : ℕ) (k : Work Message) (s : State) → length (sent book v ports k s) + left_of (next book v ports k s) ≤ left_of s
  next_pays v ports k (Runs text asleep left) = let d = (deed_is book most ports left (lookup_at v text k)).pays in omega (arith, d)
  next_pays v ports k (Stopped s) = omega arith

  and_one : (b : Bool) → ◌≡◌ {A = ℕ} (cond (b && true) 1 0) (cond b 1 0)
  and_one true = refl
  and_one false = refl

  -- where deferrals count, it pays for one, and they count on
  pub next_defers : (v ports : ℕ) (k : Work Message) (s : State) → counts s ≡ true →
      length (sent book v ports k s) + cond (deferred book v ports k s) 1 0 + left_of (next book v ports k s) ≤ left_of s
  next_defers v ports work.Wake s count = let paid = next_pays v ports work.Wake s in omega (arith, paid)
  next_defers v ports (work.Deliver p m) (Runs text asleep left) count =
      let l = lookup_at v text (work.Deliver p m) in
      let waits = waits_by (deed_of book ports left l) in
      let paid = (deed_is book most ports left l).pays in
      let one = ap (λ b. cond (waits && b) 1 0) count ∙ and_one waits in
      omega (arith, paid, one)
  next_defers v ports (work.Deliver p m) (Stopped s) count = omega arith

  pub next_counts : (v ports : ℕ) (k : Work Message) (s : State) → counts s ≡ true → counts (next book v ports k s) ≡ true
  next_counts v ports k (Runs text asleep left) count = (deed_is book most ports left (lookup_at v text k)).count count
  next_counts v ports k (Stopped s) count = refl

  next_awake : (v ports : ℕ) (k : Work Message) (s : State) → sleeps book (next book v ports k s) ≡ false
  next_awake v ports k (Runs text asleep left) = (deed_is book most ports left (lookup_at v text k)).awake
  next_awake v ports k (Stopped s) = refl

  sent_fits : (v ports : ℕ) (k : Work Message) (s : State) → OnPorts book most ports most (sent book v ports k s)
  sent_fits v ports k (Runs text asleep left) = (deed_is book most ports left (lookup_at v text k)).fits
  sent_fits v ports k (Stopped s) = λ g v e. refl

  pub told_pays : PaysFrom (rules_of book most) budget most.messages
  told_pays = record {
    opens = λ v ports. opened_left book most (told_in book (open_text v ports));
    pays = λ n k o h. subst
        (λ (x : Outcome Node Message). length x.sends + budget x.state ≤ budget n)
        (same_Some _ _ h) (next_pays n.number n.ports k n.state);
  }

  pub told_bound : IsBoundedBy (rules_of book most) (λ g. g.nodes * most.messages)
  told_bound = sends_within (rules_of book most) (told_kinds book most) budget most.messages told_pays

  -- each node has its ports in every net of a run
  abbrev HasPorts : Network → Net Node Message → Type 0
  HasPorts g w = (v : ℕ) → (w.node v).ports ≡ length (g.ports v)

  module _ (g : Network) where
    put_ports : (v : ℕ) (o : Outcome Node Message) (k : Work Message) (w x : Net Node Message) → HasPorts g w → x.node ≡ w.node →
        Some (reacted book (w.node v) k) ≡ Some o → HasPorts g (reacted_net (rules_of book most) g v o x)
    put_ports v o k w x i same h u = ⊎_elim here there (cases_eq u v)
      where
        here : u ≡ v → ((reacted_net (rules_of book most) g v o x).node u).ports ≡ length (g.ports u)
        here e =
            ap (λ y. ((reacted_net (rules_of book most) g v o x).node y).ports) e
            ∙ ap (λ (n : Node). n.ports) (node_here (rules_of book most) g v o x)
            ∙ ap (λ (y : Outcome Node Message). y.state.ports) (sym (same_Some _ _ h)) ∙ i v ∙ ap (λ y. length (g.ports y)) (sym e)

        there : u ≢ v → ((reacted_net (rules_of book most) g v o x).node u).ports ≡ length (g.ports u)
        there ne =
            ap (λ (n : Node). n.ports) (node_there (rules_of book most) g v o x u ne) ∙ ap (λ (f : ℕ → Node). (f u).ports) same ∙ i u

    event_ports : (w w' : Net Node Message) (e : Event) → HasPorts g w → Happens (rules_of book most) g w e w' → HasPorts g w'
    event_ports w _ _ i (Woke v o lo hi s e t) = put_ports v o work.Wake w w i refl e
    event_ports w _ _ i (Took v p m ms o at q e t) =
        put_ports v o (work.Deliver p m) w (take_first (rules_of book most) g v p m ms w) i refl e

    after_ports : (es : List Event) (w : Net Node Message) → IsAfter (rules_of book most) g es w → HasPorts g w
    after_ports es w h =
        run_keeps (rules_of book most) g (HasPorts g) event_ports es (opening_net (rules_of book most) g) w (λ v. refl) h

    some_effect : (v : ℕ) (k : Work Message) (w x : Net Node Message) → HasPorts g w →
        IsSome (if_reacted (rules_of book most) g v (Some (reacted book (w.node v) k)) x)
    some_effect v k w x i =
        let t = sent_fits (w.node v).number (w.node v).ports k (w.node v).state g v (i v) in rw t refl

    lawful_some : (w : Net Node Message) → HasPorts g w → (e : Event) → is_lawful (rules_of book most) g w e ≡ true →
        IsSome (effect (rules_of book most) g w e)
    lawful_some w i (events.Wake v) h = some_effect v work.Wake w w i
    lawful_some w i (events.Take v p) h = go (w.queue v p) (and_parts (is_port g v p) (nat_lt 0 (length (w.queue v p))) h).1
      where
        go : (q : List Message) → nat_lt 0 (length q) ≡ true → IsSome (takes_from (rules_of book most) g w v p q)
        go [] z = absurd (let y = ltb-true 0 0 z in omega (arith, y))
        go (m ∷ ms) z = some_effect v (work.Deliver p m) w (take_first (rules_of book most) g v p m ms w) i

  pub told_rules : HasRules (rules_of book most)
  told_rules g w is e h = lawful_some (network_of g) w (after_ports (network_of g) is.events w is.run) e h

  -- who has got work is awake
  awake_by : (g : Network) (v : ℕ) (o : Outcome Node Message) (k : Work Message) (n : Node) (x : Net Node Message) →
      Some (reacted book n k) ≡ Some o → sleeps book ((reacted_net (rules_of book most) g v o x).node v).state ≡ false
  awake_by g v o k n x h =
      ap (λ (m : Node). sleeps book m.state) (node_here (rules_of book most) g v o x)
      ∙ ap (λ (y : Outcome Node Message). sleeps book y.state.state) (sym (same_Some _ _ h)) ∙ next_awake n.number n.ports k n.state

  pub told_awake : StaysAwake (rules_of book most)
  told_awake g w _ _ is (Woke v o lo hi s e t) = awake_by (network_of g) v o work.Wake (w.node v) w e
  told_awake g w _ _ is (Took v p m ms o at q e t) =
      awake_by (network_of g) v o (work.Deliver p m) (w.node v) (take_first (rules_of book most) (network_of g) v p m ms w) e

pub told_fits : (most : Allowance) → most.messages < 2 ^ 32 → FitsGraphs (λ g. g.nodes * most.messages)
told_fits most few g ok =
    let nodes = ok.nodes in
    let much = mul-le g.nodes most.messages 1048576 4294967295 (omega (arith, nodes)) (omega (arith, few)) in
    omega (arith, much)

pub none_are_few : 0 < 2 ^ 32
none_are_few = omega arith

pub runs_are_few : RUNNING.messages < 2 ^ 32
runs_are_few = omega arith
