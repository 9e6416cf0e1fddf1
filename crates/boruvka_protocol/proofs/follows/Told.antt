-- What a reaction makes of its node's ports, and where it tells Names: read off the table, row by row.
use Rattle.std.proofs.Common.{◌≡◌, ◌≢◌, ◌⊎◌, inl, inr, ℕ, suc, ◌<◌, ◌==◌, ◌&&◌, nat_lt, Bool, true, false, Option, Some, None, List, [], ◌∷◌, ◌++◌, length, refl, sym, ◌∙◌, ap, subst, cond, arith, eqb-true, ltb-true, length-set, get_or-set_same, get_or-set_other}
use Rattle.std.specs.Prelude.{slice_index_or, slice_set}
use Rattle.ghs_graph.specs.declared.key.Key.{Key}
use Rattle.ghs_node.specs.Words.{is_at, is_name}
use Rattle.ghs_node.proofs.lemmas.{at_is}
use Rattle.peer_machine.specs.Rules.{Outgoing}
use Rattle.peer_machine.specs.declared.work.Work.TheVariants.{Wake, Deliver}
use Rattle.boruvka_node.specs.declared.change.Entry.{Entry}
use Rattle.boruvka_node.specs.declared.mark.Mark.{Mark}
use Rattle.boruvka_node.specs.declared.mark.Mark.TheVariants.{Basic, Asked, Branch, Inside}
use Rattle.boruvka_node.specs.declared.message.Message.{Message}
use Rattle.boruvka_node.specs.declared.message.Message.TheVariants.{Connect, Initiate, Name, Report, ChangeRoot}
use Rattle.boruvka_node.specs.declared.message.Phase.TheVariants.{Sleeping}
use Rattle.boruvka_node.specs.declared.port_state.PortState.{PortState}
use Rattle.boruvka_node.specs.Words.{is_basic, is_sleeping}
use Rattle.boruvka_node.specs.State.{State, no_port, degree, port_at, mark_at, set_mark}
use Rattle.boruvka_node.specs.Entering.{entered, entered_from, told_from}
use Rattle.boruvka_node.specs.Reaction.{Outcome, rested, woken, heard, reported, and_then, wakes, connect, name, asleep, reaction}
use Rattle.boruvka_protocol.proofs.invariant.Sides.{names_in, calls_in}
use Rattle.boruvka_protocol.proofs.Unlike.{asked_is_inside, asked_is_basic, branch_is_inside, branch_is_basic, false_is_true, none_is_some}
use Rattle.boruvka_protocol.proofs.rows.Table.{said, gone, core_entry, call_entry, Moving, Passes, Goes, Closing, Goes_on, Reports, Halts, Moves, Connecting, Connects, Enters, Meeting, Waits, Begins, Going, Goes_out, Meets, Waking, Alone, Wakes, Row, Noted, Met, Late, Called, Named, Told, Moved}
use Rattle.boruvka_protocol.proofs.rows.Sends.{sent_on, sent_append, sent_elsewhere}
use Rattle.boruvka_protocol.proofs.rows.Read.{read_if, read_says, waking, row_of}
use Rattle.boruvka_protocol.proofs.rows.Grows.{sleeping_tells}
use Rattle.boruvka_protocol.proofs.follows.Cases.{asked_is}
use Rattle.boruvka_protocol.proofs.follows.Ordered.{none_more}

-- no Name goes out
abbrev pub TellsNone : Outgoing Message → Type 0
TellsNone ss = (i : ℕ) → names_in (sent_on ss i) ≡ []

one_none : (p : ℕ) (m : Message) → names_in (m ∷ []) ≡ [] → TellsNone ((p, m) ∷ [])
one_none p m none i = go (p == i)
  where
    go : (b : Bool) → names_in (cond b (m ∷ []) []) ≡ []
    go true = none
    go false = refl

both_none : (a b : Outgoing Message) → TellsNone a → TellsNone b → TellsNone (a ++ b)
both_none a b p q i = ap names_in (sent_append a b i) ∙ none_more (sent_on a i) (sent_on b i) (p i) (q i)

elsewhere : (p : ℕ) (m : Message) (i : ℕ) → p ≢ i → sent_on ((p, m) ∷ []) i ≡ []
elsewhere p m i ne = sent_elsewhere (p, m) [] i ne

-- the port p of a list
abbrev pub port_in : List PortState → ℕ → PortState
port_in xs p = slice_index_or xs p no_port

-- The node has taken its message, has these ports and this level, and then: it keeps the ports and tells nobody, or enters the next level.
-- C p: it was out over p before, and is called.
pub data Fares (C : ℕ → Type 0) (xs : List PortState) (l : ℕ) (o : Outcome) : Type 0 where
  Stays : o.state.ports ≡ xs → TellsNone o.sends → Fares C xs l o
  Rises : (e : Entry) (before behind : Outgoing Message) → o.state.ports ≡ entered_from e 0 xs → o.state.head.level ≡ e.level → e.level ≡ suc l →
      o.sends ≡ before ++ (told_from e 0 xs ++ behind) → TellsNone before → TellsNone behind → ((i : ℕ) → e.out ≢ Some i → sent_on before i ≡ []) →
      ((p : ℕ) → is_at e.out p ≡ true → ((port_in xs p).mark ≡ Asked) ⊎ C p) → Fares C xs l o

-- a node that has gone out over a port
pub out_at : (n : State) (j : ℕ) → is_at n.head.out j ≡ true → n.head.out ≡ Some j
out_at n j = at_is n.head.out j

-- the ports stay, and the level, and no Name goes out
record Plain (n : State) (o : Outcome) : Type 0 where
  ports : o.state.ports ≡ n.ports
  level : o.state.head.level ≡ n.head.level
  sends : TellsNone o.sends

plain_closing : (n : State) (o : Outcome) → Closing Connecting n o → Plain n o
plain_closing n o (Goes_on b) = record { ports = refl; level = refl; sends = λ i. refl }
plain_closing n o (Reports p b up) = record { ports = refl; level = refl; sends = one_none p _ refl }
plain_closing n o (Halts b up none) = record { ports = refl; level = refl; sends = λ i. refl }
plain_closing n o (Moves b over up e (Passes t)) = record { ports = refl; level = refl; sends = one_none b.0 _ refl }
plain_closing n _ (Moves b over up e (Goes t Connects)) = record { ports = refl; level = refl; sends = one_none b.0 _ refl }

module _ (C : ℕ → Type 0) where
  meeting_fares : (n : State) (p : ℕ) (before : Outgoing Message) (o : Outcome) → mark_at n p ≡ Asked → n.head.out ≡ Some p → TellsNone before →
      ((i : ℕ) → n.head.out ≢ Some i → sent_on before i ≡ []) → Meeting n p o → Fares C n.ports n.head.level (said before o)
  meeting_fares n p before o asked out none there (Waits b) = Stays refl (both_none before [] none (λ i. refl))
  meeting_fares n p before _ asked out none there (Begins b (Enters {o} top h)) =
      let x = plain_closing (entered n (core_entry n p)) o h in
      Rises (core_entry n p) before o.sends x.ports x.level refl refl none x.sends there
      (λ q same. inl (subst (λ y. mark_at n y ≡ Asked) (one p q (sym out ∙ out_at n q same)) asked))
    where
      one : (a b : ℕ) → Some a ≡ Some b → a ≡ b
      one a b e = cc

  going_fares : (n : State) (p : ℕ) (o : Outcome) → Going n p o → Fares C n.ports n.head.level o
  going_fares n p o (Goes_out t) = Stays refl (one_none p _ refl)
  going_fares n p _ (Meets {o} t h) =
      meeting_fares (gone n p) p ((p, Connect n.head.level) ∷ []) o (asked_is (mark_at n p) t) refl (one_none p _ refl)
      (λ i ne. elsewhere p (Connect n.head.level) i (λ z. ne (ap (λ x. Some x) z))) h

  moving_fares : (n : State) (p : ℕ) (o : Outcome) → Moving Going n p o → Fares C n.ports n.head.level o
  moving_fares n p o (Passes t) = Stays refl (one_none p _ refl)
  moving_fares n p o (Goes t h) = going_fares n p o h

  closing_fares : (n : State) (o : Outcome) → Closing Going n o → Fares C n.ports n.head.level o
  closing_fares n o (Goes_on b) = Stays refl (λ i. refl)
  closing_fares n o (Reports p b up) = Stays refl (one_none p _ refl)
  closing_fares n o (Halts b up none) = Stays refl (λ i. refl)
  closing_fares n o (Moves b over up e h) = moving_fares (rested n) b.0 o h

-- What taking a message at a port makes of the port: x was there before, and x' is there now.
pub data Taken_at (l : ℕ) (name : Option Key) (m : Message) (x x' : PortState) : Type 0 where
  Call_taken : calls_in (m ∷ []) ≢ [] → (x'.mark ≡ Basic → x.mark ≡ Basic) → (x'.mark ≡ Inside → (x.mark ≡ Inside) × (x'.level ≡ x.level)) →
      Taken_at l name m x x'
  Name_taken : (k : ℕ) (f : Key) → m ≡ Name k f → x'.level ≡ k →
      (x.mark ≡ Basic → (x'.mark ≡ Basic) ⊎ ((x'.mark ≡ Inside) × (k ≡ l) × (is_name name f ≡ true))) → Taken_at l name m x x'

-- a reaction to m at port j of a node with these ports, this level and name
pub record Reacts (C : ℕ → Type 0) (xs : List PortState) (l : ℕ) (name : Option Key) (j : ℕ) (m : Message) (o : Outcome) : Type 0 where
  pub now : List PortState
  pub many : length now ≡ length xs
  pub others : (i : ℕ) → i ≢ j → port_in now i ≡ port_in xs i
  pub here : Taken_at l name m (port_in xs j) (port_in now j)
  pub fares : Fares C now l o

-- the node was out over p, and is called
abbrev pub CalledOut : State → Message → ℕ → Type 0
CalledOut n m p = (n.head.out ≡ Some p) × ((k : ℕ) × (f : Key) × (m ≡ Initiate k f))

module _ (C : ℕ → Type 0) (xs : List PortState) (l : ℕ) (name : Option Key) (j : ℕ) (m : Message) (o : Outcome) where
  -- its port changes
  set_reacts : (x : PortState) → j < length xs → Taken_at l name m (port_in xs j) x → Fares C (slice_set xs j x) l o → Reacts C xs l name j m o
  set_reacts x lt here fares = record {
    now = slice_set xs j x;
    many = length-set xs j x;
    others = λ i ne. get_or-set_other xs j i x no_port ne;
    here = subst (Taken_at l name m (port_in xs j)) (sym (get_or-set_same xs j x no_port lt)) here;
    fares = fares;
  }

  -- or stays
  kept_reacts : calls_in (m ∷ []) ≢ [] → Fares C xs l o → Reacts C xs l name j m o
  kept_reacts call fares = record {
    now = xs;
    many = refl;
    others = λ i ne. refl;
    here = Call_taken call (λ b. b) (λ i. (i, refl));
    fares = fares;
  }

connect_call : (l : ℕ) → calls_in (Connect l ∷ []) ≢ []
connect_call l e = cc

asked_taken : (l k : ℕ) (name : Option Key) (x x' : PortState) → x'.mark ≡ Asked → Taken_at l name (Connect k) x x'
asked_taken l k name x x' a = Call_taken (connect_call k) (λ b. asked_is_basic (sym a ∙ b)) (λ b. asked_is_inside (sym a ∙ b))

heard_mark : (k l : ℕ) (name : Option Key) (f : Key) (m : Mark) → m ≡ Basic →
    (cond (((k == l) && is_name name f) && is_basic m) Inside m ≡ Basic)
    ⊎ ((cond (((k == l) && is_name name f) && is_basic m) Inside m ≡ Inside) × (k ≡ l) × (is_name name f ≡ true))
heard_mark k l name f Basic e = go (k == l) (is_name name f) refl refl
  where
    go : (a b : Bool) → (k == l) ≡ a → is_name name f ≡ b →
        (cond ((a && b) && true) Inside Basic ≡ Basic) ⊎ ((cond ((a && b) && true) Inside Basic ≡ Inside) × (k ≡ l) × (is_name name f ≡ true))
    go true true p q = inr (refl, eqb-true k l p, q)
    go true false p q = inl refl
    go false b p q = inl refl
heard_mark k l name f Asked e = cc
heard_mark k l name f Branch e = cc
heard_mark k l name f Inside e = cc

-- a port that has heard
abbrev heard_port : State → ℕ → ℕ → Key → PortState
heard_port n j k f =
    let own = (k == n.head.level) && is_name n.head.name f in
    record (port_at n j) { level = k; name = Some f; mark = cond (own && is_basic (mark_at n j)) Inside (mark_at n j) }

heard_taken : (n : State) (j k : ℕ) (f : Key) → j < degree n →
    Taken_at n.head.level n.head.name (Name k f) (port_at n j) (port_at (heard n j k f) j)
heard_taken n j k f lt = subst
    (Taken_at n.head.level n.head.name (Name k f) (port_at n j))
    (sym (get_or-set_same n.ports j (heard_port n j k f) no_port lt))
    (Name_taken k f refl refl (heard_mark k n.head.level n.head.name f (mark_at n j)))

heard_reacts : (C : ℕ → Type 0) (n : State) (j k : ℕ) (f : Key) (o : Outcome) → j < degree n → Fares C (heard n j k f).ports n.head.level o →
    Reacts C n.ports n.head.level n.head.name j (Name k f) o
heard_reacts C n j k f o lt fares = record {
  now = (heard n j k f).ports;
  many = length-set n.ports j _;
  others = λ i ne. get_or-set_other n.ports j i _ no_port ne;
  here = heard_taken n j k f lt;
  fares = fares;
}

asked_set : (n : State) (j : ℕ) → j < degree n → mark_at (set_mark n j Asked) j ≡ Asked
asked_set n j lt = ap (λ (y : PortState). y.mark) (get_or-set_same n.ports j (record (port_at n j) { mark = Asked }) no_port lt)

-- each row of the table
pub row_reacts : (n : State) (j : ℕ) (m : Message) (o : Outcome) → j < degree n → Row n j m o →
    Reacts (CalledOut n m) n.ports n.head.level n.head.name j m o
row_reacts n j m o lt (Noted {l} e t) =
    set_reacts (CalledOut n m) n.ports n.head.level n.head.name j m o (record (port_at n j) { mark = Asked }) lt
    (asked_taken n.head.level l n.head.name _ _ refl) (Stays refl (λ i. refl))
row_reacts n j m o lt (Met {l} e t h) =
    set_reacts (CalledOut n m) n.ports n.head.level n.head.name j m o (record (port_at n j) { mark = Asked }) lt
    (asked_taken n.head.level l n.head.name _ _ refl)
    (meeting_fares (CalledOut n m) (set_mark n j Asked) j [] o (asked_set n j lt) (out_at n j t) (λ i. refl) (λ i ne. refl) h)
row_reacts n j m o lt (Late {l} e t s) =
    set_reacts (CalledOut n m) n.ports n.head.level n.head.name j m o (record (port_at n j) { mark = Branch; owes = true }) lt
    (Call_taken (connect_call l) branch_is_basic branch_is_inside) (Stays refl (one_none j _ refl))
row_reacts n j m _ lt (Called {l} {f} r e (Enters {o} top h)) =
    let x = plain_closing (entered n (call_entry n j l f)) o h in
    kept_reacts (CalledOut n m) n.ports n.head.level n.head.name j m (said (told_from (call_entry n j l f) 0 n.ports) o) (λ c. cc)
    (Rises (call_entry n j l f) [] o.sends x.ports x.level e refl (λ i. refl) x.sends (λ i ne. refl) (λ p same. inr (out_at n p same, (l, f, refl))))
row_reacts n j m o lt (Named {l} {f} t h) =
    heard_reacts (CalledOut n m) n j l f o lt (closing_fares (CalledOut n m) (heard n j l f) o h)
row_reacts n j m o lt (Told {k} t h) =
    set_reacts (CalledOut n m) n.ports n.head.level n.head.name j m o (record (port_at n j) { owes = false }) lt
    (Call_taken (λ c. cc) (λ b. b) (λ i. (i, refl))) (closing_fares (CalledOut n m) (reported n j k) o h)
row_reacts n j m o lt (Moved b e h) =
    kept_reacts (CalledOut n m) n.ports n.head.level n.head.name j m o (λ c. cc) (moving_fares (CalledOut n m) n b.0 o h)

-- Who wakes keeps its ports, and tells no Name.
pub wakes_plainly : (C : ℕ → Type 0) (n : State) (o : Outcome) → Waking n o → Fares C n.ports n.head.level o
wakes_plainly C n o (Alone t) = Stays refl (λ i. refl)
wakes_plainly C n o (Wakes t Connects) = Stays refl (one_none 0 _ refl)

-- the node at level 0, gone out over port 0
abbrev up : State → State
up n = gone (woken n) 0

module _ (C : ℕ → Type 0) (n : State) (j : ℕ) (lt : j < degree n) where
  up_named : (k : ℕ) (f : Key) (y : Outcome) → Row (up n) j (Name k f) y → Reacts C n.ports 0 n.head.name j (Name k f) (said ((0, Connect 0) ∷ []) y)
  up_named k f y (Named t (Goes_on b)) = heard_reacts C (up n) j k f _ lt (Stays refl (one_none 0 _ refl))
  up_named k f y (Named t (Reports p b x)) = false_is_true b
  up_named k f y (Named t (Halts b x none)) = false_is_true b
  up_named k f y (Named t (Moves c b x e h)) = false_is_true b

  up_met : (k : ℕ) (y : Outcome) → Row (up n) j (Connect k) y → Reacts C n.ports 0 n.head.name j (Connect k) (said ((0, Connect 0) ∷ []) y)
  up_met k y (Noted e t) =
      set_reacts C n.ports 0 n.head.name j (Connect k) _ (record (port_at n j) { mark = Asked }) lt (asked_taken 0 k n.head.name _ _ refl)
      (Stays refl (one_none 0 _ refl))
  up_met k y (Met e t h) =
      set_reacts C n.ports 0 n.head.name j (Connect k) _ (record (port_at n j) { mark = Asked }) lt (asked_taken 0 k n.head.name _ _ refl)
      (meeting_fares C (set_mark (up n) j Asked) j ((0, Connect 0) ∷ []) y (asked_set n j lt) (out_at (up n) j t) (one_none 0 _ refl)
      (λ i ne. elsewhere 0 (Connect 0) i (λ z. ne (ap (λ x. Some x) z))) h)
  up_met k y (Late e t s) = absurd (omega (arith, e))

  woken_reacts : (m : Message) → ((y : Outcome) → Row (up n) j m y → Reacts C n.ports 0 n.head.name j m (said ((0, Connect 0) ∷ []) y)) →
      (a y : Outcome) → Waking n a → Row a.state j m y → Reacts C n.ports 0 n.head.name j m (said a.sends y)
  woken_reacts m next a y (Alone t) row = absurd (omega (arith, lt, eqb-true (degree n) 0 t))
  woken_reacts m next a y (Wakes t Connects) row = next y row

  sleeper_reacts : (m : Message) → ((y : Outcome) → Row (up n) j m y → Reacts C n.ports 0 n.head.name j m (said ((0, Connect 0) ∷ []) y)) →
      (f : State → Option Outcome) → ((a : State) (y : Outcome) → f a ≡ Some y → Row a j m y) → (x : Option Outcome) →
      ((a : Outcome) → x ≡ Some a → Waking n a) → (o : Outcome) → and_then x f ≡ Some o → Reacts C n.ports 0 n.head.name j m o
  sleeper_reacts m next f rows None wake o h = none_is_some o h
  sleeper_reacts m next f rows (Some a) wake o h = read_says a.sends (f a.state) o h
      (λ y e same. subst (λ z. Reacts C n.ports 0 n.head.name j m z) same (woken_reacts m next a y (wake a refl) (rows a.state y e)))

  pub asleep_reacts : (m : Message) (o : Outcome) → asleep n j m ≡ Some o → Reacts C n.ports 0 n.head.name j m o
  asleep_reacts (Connect l) o e =
      sleeper_reacts (Connect l) (up_met l) (λ x. connect x j l) (λ a y. row_of a j (Connect l) y) (wakes n) (waking n) o e
  asleep_reacts (Initiate l f) o e = none_is_some o e
  asleep_reacts (Name l f) o e =
      sleeper_reacts (Name l f) (up_named l f) (λ x. name x j l f) (λ a y. row_of a j (Name l f) y) (wakes n) (waking n) o e
  asleep_reacts (Report k) o e = none_is_some o e
  asleep_reacts ChangeRoot o e = none_is_some o e

-- each reaction to a message, where sleepers have level 0
pub message_reacts : (n : State) (j : ℕ) (m : Message) (o : Outcome) → (n.head.phase ≡ Sleeping → ◌≡◌ {A = ℕ} n.head.level 0) →
    reaction n (Deliver j m) ≡ Some o → Reacts (CalledOut n m) n.ports n.head.level n.head.name j m o
message_reacts n j m o low e = read_if (nat_lt j (degree n)) _ _ o e
    (λ port x.
    let lt = ltb-true j (degree n) port in
    read_if (is_sleeping n.head.phase) _ _ o x
    (λ t y.
    subst (λ l. Reacts (CalledOut n m) n.ports l n.head.name j m o) (sym (low ((sleeping_tells n.head.phase).0 t)))
    (asleep_reacts (CalledOut n m) n j lt m o y))
    (λ t y. row_reacts n j m o lt (row_of n j m o y)))
    (λ port x. none_is_some o x)

pub wake_reacts : (C : ℕ → Type 0) (n : State) (o : Outcome) → reaction n Wake ≡ Some o → Fares C n.ports n.head.level o
wake_reacts C n o e = read_if (is_sleeping n.head.phase) _ _ o e
    (λ t x. wakes_plainly C n o (waking n o x))
    (λ t x. none_is_some o x)
