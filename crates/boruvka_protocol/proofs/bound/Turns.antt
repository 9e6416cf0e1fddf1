-- What a reaction sends of Connects, ChangeRoots and Reports, and what becomes of the node's level and phase.
use Rattle.std.proofs.Common.{◌≡◌, ◌⊎◌, ℕ, zero, suc, ◌+◌, ◌<◌, ◌≤◌, ◌==◌, nat_lt, Bool, true, false, Option, Some, None, List, [], ◌∷◌, ◌++◌, length, inl, inr, refl, sym, ◌∙◌, ap, subst, cond, arith, eq-eqb, eqb-true, ltb-true, length-set}
use Rattle.std.specs.Prelude.{slice_index_or, count_by}
use Rattle.std.proofs.lemmas.List.Sums.{sum_by-cons}
use Rattle.ghs_graph.specs.declared.key.Key.{Key}
use Rattle.ghs_node.specs.Words.{is_at, best_key}
use Rattle.peer_machine.specs.Ledger.{of_kind}
use Rattle.peer_machine.specs.Rules.{Outgoing, messages}
use Rattle.peer_machine.specs.declared.work.Work.{Work}
use Rattle.peer_machine.specs.declared.work.Work.TheVariants.{Wake, Deliver}
use Rattle.boruvka_node.specs.declared.change.Entry.{Entry}
use Rattle.boruvka_node.specs.declared.mark.Mark.{Mark}
use Rattle.boruvka_node.specs.declared.mark.Mark.TheVariants.{Basic, Asked, Branch, Inside}
use Rattle.boruvka_node.specs.declared.message.Message.{Message}
use Rattle.boruvka_node.specs.declared.message.Message.TheVariants.{Connect, Initiate, Name, Report, ChangeRoot}
use Rattle.boruvka_node.specs.declared.message.Phase.{Phase}
use Rattle.boruvka_node.specs.declared.message.Phase.TheVariants.{Sleeping, Search, Rest}
use Rattle.boruvka_node.specs.declared.port_state.PortState.{PortState}
use Rattle.boruvka_node.specs.Words.{is_sleeping, is_asked, is_branch}
use Rattle.boruvka_node.specs.State.{State, no_port, degree, port_at, mark_at, set_mark, is_missing, missing}
use Rattle.boruvka_node.specs.Entering.{joined_mark, entered, told_as, told_from}
use Rattle.boruvka_node.specs.Reaction.{Outcome, is_over, rested, woken, heard, reported, and_then, wakes, connect, name, asleep, reaction}
use Rattle.boruvka_node.specs.Boruvka.{boruvka}
use Rattle.boruvka_node.proofs.lemmas.Entered.{length_entered}
use Rattle.boruvka_protocol.proofs.Unlike.{rest_is_sleeping, rest_is_search, none_is_some}
use Rattle.boruvka_protocol.proofs.rows.Table.{said, still, sends_one, gone, core_entry, call_entry, Moving, Passes, Goes, Closing, Goes_on, Reports, Halts, Moves, Connecting, Connects, Enters, Meeting, Waits, Begins, Going, Goes_out, Meets, Waking, Alone, Wakes, Row, Noted, Met, Late, Called, Named, Told, Moved}
use Rattle.boruvka_protocol.proofs.rows.Read.{read_if, read_says, waking, row_of}
use Rattle.boruvka_protocol.proofs.rows.Grows.{sleeping_tells}
use Rattle.boruvka_protocol.proofs.rows.Ports.{port_entered}
use Rattle.boruvka_protocol.proofs.rows.ClosingNet.{over_search, over_none}
use Rattle.boruvka_protocol.proofs.follows.Told.{out_at}

-- how many of a kind go out
abbrev pub sent_of : ℕ → Outcome → ℕ
sent_of k o = of_kind boruvka k (messages o.sends)

-- 1 for a node in search
abbrev pub searching : Phase → ℕ
searching Sleeping = 0
searching Search = 1
searching Rest = 0

-- what counts of a node before its reaction
pub record Before : Type 0 where
  pub level : ℕ
  pub phase : Phase
  pub parent : Option ℕ
  pub out : Option ℕ

abbrev pub before : State → Before
before n = record { level = n.head.level; phase = n.head.phase; parent = n.head.parent; out = n.head.out }

-- the message that is taken, if one is
abbrev pub taken_by : Work Message → List Message
taken_by Wake = []
taken_by (Deliver j m) = m ∷ []

-- what lets a node move at its level: it wakes, it ends its search as root, or a ChangeRoot has come
pub data MayMove (b : Before) (ms : List Message) : Type 0 where
  Awakes : b.phase ≡ Sleeping → MayMove b ms
  As_root : b.phase ≡ Search → b.parent ≡ None → MayMove b ms
  Was_told : ms ≡ ChangeRoot ∷ [] → MayMove b ms

-- what lets it enter the next one: that it may move, that it has gone out, or that it is called
pub data MayEnter (b : Before) (ms : List Message) : Type 0 where
  By_token : MayMove b ms → MayEnter b ms
  Was_out : (p : ℕ) → b.out ≡ Some p → MayEnter b ms
  Was_called : (l : ℕ) (f : Key) → ms ≡ Initiate l f ∷ [] → l ≡ suc b.level → MayEnter b ms

-- how a node fares in a reaction: it stays where it is, passes a ChangeRoot on, goes out, or enters the next level, at which it moves no more
pub data Turn (b : Before) (ms : List Message) (o : Outcome) : Type 0 where
  Stays : o.state.head.level ≡ b.level → (b.phase ≡ Rest → o.state.head.phase ≡ Rest) → ◌≡◌ {A = ℕ} (sent_of 0 o) 0 →
      ◌≡◌ {A = ℕ} (sent_of 4 o) 0 → sent_of 3 o + searching o.state.head.phase ≤ searching b.phase → Turn b ms o
  Sends_on : (c : ℕ × Key) → MayMove b ms → o.state.head.level ≡ b.level → o.state.head.phase ≡ Rest → o.state.head.best ≡ Some c →
      is_branch (mark_at o.state c.0) ≡ true → o.sends ≡ (c.0, ChangeRoot) ∷ [] → Turn b ms o
  Sends_out : MayMove b ms → o.state.head.level ≡ b.level → o.state.head.phase ≡ Rest → sent_of 0 o ≤ 1 → ◌≡◌ {A = ℕ} (sent_of 4 o) 0 →
      ◌≡◌ {A = ℕ} (sent_of 3 o) 0 → Turn b ms o
  Rises : MayEnter b ms → o.state.head.level ≡ suc b.level → ◌≡◌ {A = ℕ} (sent_of 4 o) 0 →
      (◌≡◌ {A = ℕ} (sent_of 0 o) 0) ⊎ (MayMove b ms × (sent_of 0 o ≤ 1)) → sent_of 3 o + searching o.state.head.phase ≤ 1 → Turn b ms o

-- What goes out.

pub of_messages : (k : ℕ) (a b : Outgoing Message) →
    of_kind boruvka k (messages (a ++ b)) ≡ of_kind boruvka k (messages a) + of_kind boruvka k (messages b)
of_messages k [] b = omega arith
of_messages k (s ∷ a) b = omega (arith, of_messages k a b)

-- of a kind that is neither Initiate nor Name
module _ (k : ℕ) (no_call : (1 == k) ≡ false) (no_name : (2 == k) ≡ false) where
  call_aside : (p l : ℕ) (f : Key) → ◌≡◌ {A = ℕ} (of_kind boruvka k (messages ((p, Initiate l f) ∷ []))) 0
  call_aside p l f = rw no_call refl

  name_aside : (p l : ℕ) (f : Key) → ◌≡◌ {A = ℕ} (of_kind boruvka k (messages ((p, Name l f) ∷ []))) 0
  name_aside p l f = rw no_name refl

  told_one : (e : Entry) (p : ℕ) (m : Mark) → ◌≡◌ {A = ℕ} (of_kind boruvka k (messages (told_as e p m))) 0
  told_one e p Basic = name_aside p e.level e.name
  told_one e p Asked = name_aside p e.level e.name
  told_one e p Branch = go (is_at e.parent p)
    where
      go : (up : Bool) → ◌≡◌ {A = ℕ} (of_kind boruvka k (messages (cond up [] ((p, Initiate e.level e.name) ∷ [])))) 0
      go true = refl
      go false = call_aside p e.level e.name
  told_one e p Inside = refl

  told_none : (e : Entry) (p : ℕ) (xs : List PortState) → ◌≡◌ {A = ℕ} (of_kind boruvka k (messages (told_from e p xs))) 0
  told_none e p [] = refl
  told_none e p (x ∷ xs) =
      let m = joined_mark e p x.mark in
      omega (arith, of_messages k (told_as e p m) (told_from e (suc p) xs), told_one e p m, told_none e (suc p) xs)

  -- who enters sends of it what its close does
  entry_sends : (e : Entry) (n : State) (o : Outcome) → sent_of k (said (told_from e 0 n.ports) o) ≡ sent_of k o
  entry_sends e n o = omega (arith, of_messages k (told_from e 0 n.ports) o.sends, told_none e 0 n.ports)

-- Tests.

some_none : {P A : Type 0} (x : A) → Some x ≡ None → P
some_none x e = cc

-- an Asked port is one
asked_port : (xs : List PortState) (p : ℕ) → is_asked (slice_index_or xs p no_port).mark ≡ true → p < length xs
asked_port [] zero e = cc
asked_port [] (suc p) e = cc
asked_port (x ∷ xs) zero e = omega arith
asked_port (x ∷ xs) (suc p) e = omega (arith, asked_port xs p e)

-- what passes a test is counted
counted_one : (t : PortState → Bool) (xs : List PortState) (p : ℕ) → p < length xs → t (slice_index_or xs p no_port) ≡ true → 1 ≤ count_by t xs
counted_one t [] p lt e = absurd (omega (arith, lt))
counted_one t (x ∷ xs) zero lt e =
    let one : ◌≡◌ {A = ℕ} (cond (t x) 1 0) 1 = rw e refl in
    omega (arith, sum_by-cons (λ y. cond (t y) 1 0) x xs, one)
counted_one t (x ∷ xs) (suc p) lt e = omega (arith, sum_by-cons (λ y. cond (t y) 1 0) x xs, counted_one t xs p (omega (arith, lt)) e)

-- Over a core a Report is owed, so that a root's search goes on.
module _ (n : State) (p : ℕ) (out : n.head.out ≡ Some p) (lt : p < degree n) where
  joined_here : is_at n.head.out p ≡ true
  joined_here = ap (λ q. is_at q p) out ∙ eq-eqb p p refl

  owed : (port_at (entered n (core_entry n p)) p).owes ≡ true
  owed = ap (λ (x : PortState). x.owes) (port_entered n (core_entry n p) p lt) ∙ rw joined_here refl

  lacks : 1 ≤ missing (entered n (core_entry n p))
  lacks = let m = entered n (core_entry n p) in
      counted_one (is_missing m.head.level) m.ports p (omega (arith, lt, many)) (rw owed refl)
    where
      many : degree (entered n (core_entry n p)) ≡ degree n
      many = length_entered (core_entry n p) 0 n.ports

  never_over : {P : Type 0} → is_over (entered n (core_entry n p)) ≡ true → P
  never_over over = absurd (omega (arith, lacks, over_none (entered n (core_entry n p)) over))

  core_goes_on : (o : Outcome) → Closing Connecting (entered n (core_entry n p)) o → still (entered n (core_entry n p)) ≡ o
  core_goes_on _ (Goes_on b) = refl
  core_goes_on _ (Reports q over up) = never_over over
  core_goes_on _ (Halts over up none) = never_over over
  core_goes_on o (Moves b over up e h) = never_over over

-- how a meeting ends: the node waits, or has entered and searches
data Ends (n : State) (o : Outcome) : Type 0 where
  Waited : still n ≡ o → Ends n o
  Begun : o.state.head.level ≡ suc n.head.level → ◌≡◌ {A = ℕ} (sent_of 0 o) 0 → ◌≡◌ {A = ℕ} (sent_of 4 o) 0 →
      sent_of 3 o + searching o.state.head.phase ≤ 1 → Ends n o

meeting_ends : (n : State) (p : ℕ) (o : Outcome) → n.head.out ≡ Some p → p < degree n → Meeting n p o → Ends n o
meeting_ends n p o out lt (Waits b) = Waited refl
meeting_ends n p _ out lt (Begins b (Enters {o} top h)) =
    subst (λ x. Ends n (said (told_from (core_entry n p) 0 n.ports) x)) (core_goes_on n p out lt o h)
    (let m = entered n (core_entry n p) in
    Begun refl (entry_sends 0 refl refl (core_entry n p) n (still m)) (entry_sends 4 refl refl (core_entry n p) n (still m))
    (omega (arith, entry_sends 3 refl refl (core_entry n p) n (still m))))

module _ (ms : List Message) (b : Before) where
  going_turn : (n : State) (p : ℕ) (o : Outcome) → MayMove b ms → n.head.level ≡ b.level → n.head.phase ≡ Rest → Going n p o → Turn b ms o
  going_turn n p o may lv rest (Goes_out t) = Sends_out may lv rest (omega arith) refl refl
  going_turn n p _ may lv rest (Meets {o} t h) = go (meeting_ends (gone n p) p o refl (asked_port n.ports p t) h)
    where
      go : Ends (gone n p) o → Turn b ms (said ((p, Connect n.head.level) ∷ []) o)
      go (Waited same) =
          subst (λ x. Turn b ms (said ((p, Connect n.head.level) ∷ []) x)) same (Sends_out may lv rest (omega arith) refl refl)
      go (Begun up s0 s4 s3) =
          Rises (By_token may) (omega (arith, up, lv)) (omega (arith, s4)) (inr (may, omega (arith, s0))) (omega (arith, s3))

  moving_turn : (n : State) (c : ℕ × Key) (o : Outcome) → MayMove b ms → n.head.level ≡ b.level → n.head.phase ≡ Rest → n.head.best ≡ Some c →
      Moving Going n c.0 o → Turn b ms o
  moving_turn n c o may lv rest best (Passes t) = Sends_on c may lv rest best t refl
  moving_turn n c o may lv rest best (Goes t h) = going_turn n c.0 o may lv rest h

module _ (ms : List Message) where
  closing_turn : (n : State) (o : Outcome) → Closing Going n o → Turn (before n) ms o
  closing_turn n o (Goes_on t) = Stays refl (λ e. e) refl refl (omega arith)
  closing_turn n o (Reports p over up) =
      let one : ◌≡◌ {A = ℕ} (searching n.head.phase) 1 = ap searching (over_search n over) in
      Stays refl (λ e. refl) refl refl (omega (arith, one))
  closing_turn n o (Halts over up none) = Stays refl (λ e. refl) refl refl (omega arith)
  closing_turn n o (Moves c over up e h) =
      moving_turn ms (before n) (rested n) c o (As_root (over_search n over) up) refl refl e h

-- Rows.

called_turn : (n : State) (j l : ℕ) (f : Key) (o : Outcome) → l ≡ suc n.head.level → Closing Connecting (entered n (call_entry n j l f)) o →
    Turn (before n) (Initiate l f ∷ []) (said (told_from (call_entry n j l f) 0 n.ports) o)
called_turn n j l f _ e (Goes_on t) =
    let m = entered n (call_entry n j l f) in
    Rises (Was_called l f refl e) e (entry_sends 4 refl refl (call_entry n j l f) n (still m))
    (inl (entry_sends 0 refl refl (call_entry n j l f) n (still m)))
    (omega (arith, entry_sends 3 refl refl (call_entry n j l f) n (still m)))
called_turn n j l f _ e (Reports p over up) =
    let m = rested (entered n (call_entry n j l f)) in
    let o = sends_one m p (Report (best_key m.head.best)) in
    Rises (Was_called l f refl e) e (entry_sends 4 refl refl (call_entry n j l f) n o)
    (inl (entry_sends 0 refl refl (call_entry n j l f) n o))
    (omega (arith, entry_sends 3 refl refl (call_entry n j l f) n o))
called_turn n j l f o e (Halts over up none) = some_none j up
called_turn n j l f o e (Moves c over up q h) = some_none j up

pub row_turn : (n : State) (j : ℕ) (m : Message) (o : Outcome) → j < degree n → (m ≡ ChangeRoot → n.head.phase ≡ Rest) → Row n j m o →
    Turn (before n) (m ∷ []) o
row_turn n j m o lt rest (Noted e t) = Stays refl (λ x. x) refl refl (omega arith)
row_turn n j m o lt rest (Met {l} e t h) =
    go (meeting_ends (set_mark n j Asked) j o (out_at n j t) (omega (arith, lt, many)) h)
  where
    many : degree (set_mark n j Asked) ≡ degree n
    many = length-set n.ports j _

    go : Ends (set_mark n j Asked) o → Turn (before n) (Connect l ∷ []) o
    go (Waited same) = subst (λ x. Turn (before n) (Connect l ∷ []) x) same (Stays refl (λ x. x) refl refl (omega arith))
    go (Begun up s0 s4 s3) = Rises (Was_out j (out_at n j t)) up s4 (inl s0) s3
row_turn n j m o lt rest (Late e t s) = Stays refl (λ x. x) refl refl (omega arith)
row_turn n j m _ lt rest (Called {l} {f} r e (Enters {o} top h)) = called_turn n j l f o e h
row_turn n j m o lt rest (Named {l} {f} t h) = closing_turn (Name l f ∷ []) (heard n j l f) o h
row_turn n j m o lt rest (Told {k} t h) = closing_turn (Report k ∷ []) (reported n j k) o h
row_turn n j m o lt rest (Moved c e h) = moving_turn (ChangeRoot ∷ []) (before n) n c o (Was_told refl) refl (rest refl) e h

-- Sleepers.

-- the node at level 0, gone out over port 0
abbrev up : State → State
up n = gone (woken n) 0

module _ (n : State) (sleeps : n.head.phase ≡ Sleeping) (level : ◌≡◌ {A = ℕ} n.head.level 0) where
  first_turn : (o : Outcome) → Waking n o → Turn (before n) [] o
  first_turn o (Alone t) = Stays (sym level) (λ e. refl) refl refl (omega arith)
  first_turn o (Wakes t Connects) = Sends_out (Awakes sleeps) (sym level) refl (omega arith) refl refl

  module _ (m : Message) (aside : m ∷ [] ≡ ChangeRoot ∷ [] → ⊥) where
    may_not : {P : Type 0} → MayMove (before (up n)) (m ∷ []) → P
    may_not (Awakes e) = rest_is_sleeping e
    may_not (As_root e x) = rest_is_search e
    may_not (Was_told e) = absurd (aside e)

    -- who wakes by a message: its Connect goes out first
    next_turn : (y : Outcome) → Turn (before (up n)) (m ∷ []) y → Turn (before n) (m ∷ []) (said ((0, Connect 0) ∷ []) y)
    next_turn y (Stays lv ph s0 s4 s3) =
        Sends_out (Awakes sleeps) (lv ∙ sym level) (ph refl) (omega (arith, s0)) (omega (arith, s4)) (omega (arith, s3))
    next_turn y (Sends_on c may lv ph e t s) = may_not may
    next_turn y (Sends_out may lv ph s0 s4 s3) = may_not may
    next_turn y (Rises x lv s4 (inl s0) s3) =
        Rises (By_token (Awakes sleeps)) (omega (arith, lv, level)) (omega (arith, s4)) (inr (Awakes sleeps, omega (arith, s0))) (omega (arith, s3))
    next_turn y (Rises x lv s4 (inr z) s3) = may_not z.0

    woken_turn : (j : ℕ) → j < degree n → (a y : Outcome) → Waking n a → Row a.state j m y → Turn (before n) (m ∷ []) (said a.sends y)
    woken_turn j lt a y (Alone t) row = absurd (omega (arith, lt, eqb-true (degree n) 0 t))
    woken_turn j lt a y (Wakes t Connects) row = next_turn y (row_turn (up n) j m y lt (λ e. refl) row)

    sleeper_turn : (j : ℕ) → j < degree n → (f : State → Option Outcome) → ((a : State) (y : Outcome) → f a ≡ Some y → Row a j m y) →
        (x : Option Outcome) → ((a : Outcome) → x ≡ Some a → Waking n a) → (o : Outcome) → and_then x f ≡ Some o → Turn (before n) (m ∷ []) o
    sleeper_turn j lt f rows None wake o h = none_is_some o h
    sleeper_turn j lt f rows (Some a) wake o h = read_says a.sends (f a.state) o h
        (λ y e same. subst (λ z. Turn (before n) (m ∷ []) z) same (woken_turn j lt a y (wake a refl) (rows a.state y e)))

  asleep_turn : (j : ℕ) (m : Message) (o : Outcome) → j < degree n → asleep n j m ≡ Some o → Turn (before n) (m ∷ []) o
  asleep_turn j (Connect l) o lt e =
      sleeper_turn (Connect l) (λ x. cc) j lt (λ x. connect x j l) (λ a y. row_of a j (Connect l) y) (wakes n) (waking n) o e
  asleep_turn j (Initiate l f) o lt e = none_is_some o e
  asleep_turn j (Name l f) o lt e =
      sleeper_turn (Name l f) (λ x. cc) j lt (λ x. name x j l f) (λ a y. row_of a j (Name l f) y) (wakes n) (waking n) o e
  asleep_turn j (Report k) o lt e = none_is_some o e
  asleep_turn j ChangeRoot o lt e = none_is_some o e

-- each reaction, where sleepers have level 0 and a ChangeRoot finds its node at rest
pub reaction_turn : (n : State) (k : Work Message) (o : Outcome) → (n.head.phase ≡ Sleeping → ◌≡◌ {A = ℕ} n.head.level 0) →
    (taken_by k ≡ ChangeRoot ∷ [] → n.head.phase ≡ Rest) → reaction n k ≡ Some o → Turn (before n) (taken_by k) o
reaction_turn n Wake o low rest e = read_if (is_sleeping n.head.phase) _ _ o e
    (λ t x. let s = (sleeping_tells n.head.phase).0 t in first_turn n s (low s) o (waking n o x))
    (λ t x. none_is_some o x)
reaction_turn n (Deliver j m) o low rest e = read_if (nat_lt j (degree n)) _ _ o e
    (λ port x.
    let lt = ltb-true j (degree n) port in
    read_if (is_sleeping n.head.phase) _ _ o x
    (λ t y. let s = (sleeping_tells n.head.phase).0 t in asleep_turn n s (low s) j m o lt y)
    (λ t y. row_turn n j m o lt (λ q. rest (ap (λ z. z ∷ []) q)) (row_of n j m o y)))
    (λ port x. none_is_some o x)
