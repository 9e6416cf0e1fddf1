-- The levels heard at a node's ports: no reaction lowers one, a Name raises that of its port; an Initiate raises the node's own.
use Rattle.std.proofs.Common.{◌≡◌, ℕ, suc, ◌+◌, ◌<◌, ◌≤◌, nat_lt, true, Option, Some, None, List, [], ◌∷◌, refl, sym, ◌∙◌, ap, subst, arith, ⊎_elim, eqb-true, ltb-true, length-set, le_refl, le_of_eq}
use Rattle.std.proofs.lemmas.Bool.{and_parts, cases_eq}
use Rattle.ghs_graph.specs.declared.key.Key.{Key}
use Rattle.peer_machine.specs.Ledger.{of_kind}
use Rattle.peer_machine.specs.declared.work.Work.TheVariants.{Wake, Deliver}
use Rattle.boruvka_node.specs.declared.change.Entry.{Entry}
use Rattle.boruvka_node.specs.declared.mark.Mark.TheVariants.{Asked}
use Rattle.boruvka_node.specs.declared.message.Message.{Message}
use Rattle.boruvka_node.specs.declared.message.Message.TheVariants.{Connect, Initiate, Name, Report, ChangeRoot}
use Rattle.boruvka_node.specs.declared.message.Phase.TheVariants.{Sleeping}
use Rattle.boruvka_node.specs.declared.port_state.PortState.{PortState}
use Rattle.boruvka_node.specs.Words.{is_sleeping}
use Rattle.boruvka_node.specs.State.{State, degree, port_at, set_port, set_mark}
use Rattle.boruvka_node.specs.Entering.{entered}
use Rattle.boruvka_node.specs.Reaction.{Outcome, rested, halted, woken, heard, reported, and_then, wakes, connect, name, asleep, reaction, is_next_name}
use Rattle.boruvka_node.specs.Boruvka.{boruvka}
use Rattle.boruvka_node.proofs.lemmas.Entered.{length_entered}
use Rattle.boruvka_protocol.proofs.Unlike.{none_is_some}
use Rattle.boruvka_protocol.proofs.rows.Table.{gone, core_entry, call_entry, Moving, Passes, Goes, Closing, Goes_on, Reports, Halts, Moves, Connecting, Connects, Entering, Enters, Meeting, Waits, Begins, Going, Goes_out, Meets, Waking, Alone, Wakes, Row, Noted, Met, Late, Called, Named, Told, Moved}
use Rattle.boruvka_protocol.proofs.rows.Read.{read_if, read_says, waking, row_of}
use Rattle.boruvka_protocol.proofs.rows.Grows.{reaction_grows}
use Rattle.boruvka_protocol.proofs.rows.Ports.{port_set, port_kept, port_entered}

-- at each port the level heard is as high as it was
pub record Hears (n n' : State) : Type 0 where
  pub many : degree n' ≡ degree n
  pub levels : (i : ℕ) → i < degree n → (port_at n i).level ≤ (port_at n' i).level

hears_on : {n m o : State} → Hears n m → Hears m o → Hears n o
hears_on a b = record {
  many = b.many ∙ a.many;
  levels = λ i lt. let x = a.levels i lt in let y = b.levels i (omega (arith, lt, a.many)) in omega (arith, x, y);
}

-- where the ports are as they were
hears_not : (n n' : State) → n'.ports ≡ n.ports → Hears n n'
hears_not n n' e = record {
  many = ap (λ (x : List PortState). degree (record n { ports = x })) e;
  levels = λ i lt. le_of_eq (ap (λ (x : List PortState). (port_at (record n { ports = x }) i).level) (sym e));
}

hears_port : (n : State) (j : ℕ) (x : PortState) → (port_at n j).level ≤ x.level → Hears n (set_port n j x)
hears_port n j x le = record {
  many = length-set n.ports j x;
  levels = λ i lt. ⊎_elim
      (λ (e : i ≡ j).
      let here : (port_at (set_port n j x) j).level ≡ x.level = ap (λ (y : PortState). y.level) (port_set n j x (subst (λ y. y < degree n) e lt)) in
      subst (λ y. (port_at n y).level ≤ (port_at (set_port n j x) y).level) (sym e) (omega (arith, here, le)))
      (λ ne. le_of_eq (ap (λ (y : PortState). y.level) (sym (port_kept n j i x ne))))
      (cases_eq i j);
}

hears_entered : (n : State) (e : Entry) → Hears n (entered n e)
hears_entered n e = record {
  many = length_entered e 0 n.ports;
  levels = λ i lt. le_of_eq (ap (λ (x : PortState). x.level) (sym (port_entered n e i lt)));
}

module _ (G : State → ℕ → Outcome → Type 0) (hears : (n : State) (p : ℕ) (o : Outcome) → G n p o → Hears n o.state) where
  hears_moving : (n : State) (p : ℕ) (o : Outcome) → Moving G n p o → Hears n o.state
  hears_moving n p o (Passes t) = hears_not n n refl
  hears_moving n p o (Goes t h) = hears n p o h

  hears_closing : (n : State) (o : Outcome) → Closing G n o → Hears n o.state
  hears_closing n o (Goes_on t) = hears_not n n refl
  hears_closing n o (Reports p t up) = hears_not n (rested n) refl
  hears_closing n o (Halts t up none) = hears_not n (halted (rested n)) refl
  hears_closing n o (Moves c over up e h) = hears_on (hears_not n (rested n) refl) (hears_moving (rested n) c.0 o h)

hears_connecting : (n : State) (p : ℕ) (o : Outcome) → Connecting n p o → Hears n o.state
hears_connecting n p o Connects = hears_not n (gone n p) refl

hears_entering : (n : State) (e : Entry) (o : Outcome) → Entering n e o → Hears n o.state
hears_entering n e _ (Enters {o} top h) = hears_on (hears_entered n e) (hears_closing Connecting hears_connecting (entered n e) o h)

hears_meeting : (n : State) (p : ℕ) (o : Outcome) → Meeting n p o → Hears n o.state
hears_meeting n p o (Waits t) = hears_not n n refl
hears_meeting n p o (Begins t h) = hears_entering n (core_entry n p) o h

hears_going : (n : State) (p : ℕ) (o : Outcome) → Going n p o → Hears n o.state
hears_going n p o (Goes_out t) = hears_not n (gone n p) refl
hears_going n p _ (Meets {o} t h) = hears_on (hears_not n (gone n p) refl) (hears_meeting (gone n p) p o h)

hears_waking : (n : State) (o : Outcome) → Waking n o → Hears n o.state
hears_waking n o (Alone t) = hears_not n (halted (woken n)) refl
hears_waking n o (Wakes t h) = hears_on (hears_not n (woken n) refl) (hears_connecting (woken n) 0 o h)

-- the level of a Name is the next one at its port
next_level : (n : State) (j l : ℕ) → is_next_name n j l ≡ true → l ≡ suc (port_at n j).level
next_level n j l t = eqb-true l (suc (port_at n j).level) (and_parts _ _ t).0

hears_heard : (n : State) (j l : ℕ) (f : Key) → is_next_name n j l ≡ true → Hears n (heard n j l f)
hears_heard n j l f t = hears_port n j _ (omega (arith, next_level n j l t))

-- a node that has taken m at port j: with a Name the level heard there has risen
pub record HearsFrom (n : State) (j : ℕ) (m : Message) (n' : State) : Type 0 where
  pub hears : Hears n n'
  pub named : of_kind boruvka 2 (m ∷ []) + (port_at n j).level ≤ (port_at n' j).level

hears_other : (n : State) (j : ℕ) (m : Message) (n' : State) → j < degree n → ◌≡◌ {A = ℕ} (of_kind boruvka 2 (m ∷ [])) 0 → Hears n n' →
    HearsFrom n j m n'
hears_other n j m n' lt z h = record { hears = h; named = omega (arith, z, h.levels j lt) }

hears_row : (n : State) (j : ℕ) (m : Message) (o : Outcome) → j < degree n → Row n j m o → HearsFrom n j m o.state
hears_row n j m o lt (Noted e t) = hears_other n j m _ lt refl (hears_port n j _ (le_refl _))
hears_row n j m o lt (Met e t h) =
    hears_other n j m o.state lt refl (hears_on (hears_port n j _ (le_refl _)) (hears_meeting (set_mark n j Asked) j o h))
hears_row n j m o lt (Late e t s) = hears_other n j m _ lt refl (hears_port n j _ (le_refl _))
hears_row n j m o lt (Called {l} {f} r e h) = hears_other n j m o.state lt refl (hears_entering n (call_entry n j l f) o h)
hears_row n j m o lt (Named {l} {f} t h) =
    let rest = hears_closing Going hears_going (heard n j l f) o h in
    let here : (port_at (heard n j l f) j).level ≡ l = ap (λ (x : PortState). x.level) (port_set n j _ lt) in
    let more = rest.levels j (omega (arith, lt, (hears_heard n j l f t).many)) in
    record { hears = hears_on (hears_heard n j l f t) rest; named = omega (arith, here, more, next_level n j l t) }
hears_row n j m o lt (Told {k} t h) =
    hears_other n j m o.state lt refl
    (hears_on (hears_on (hears_port n j _ (le_refl _)) (hears_not (set_port n j _) (reported n j k) refl))
    (hears_closing Going hears_going (reported n j k) o h))
hears_row n j m o lt (Moved c e h) = hears_other n j m o.state lt refl (hears_moving Going hears_going n c.0 o h)

-- who is asleep wakes first
module _ (n : State) (j : ℕ) (m : Message) (lt : j < degree n) where
  woken_hears : (a y : State) → Hears n a → HearsFrom a j m y → HearsFrom n j m y
  woken_hears a y h r = record { hears = hears_on h r.hears; named = omega (arith, h.levels j lt, r.named) }

  sleeper_hears : (f : State → Option Outcome) → ((a : State) (y : Outcome) → f a ≡ Some y → Row a j m y) →
      (x : Option Outcome) → ((a : Outcome) → x ≡ Some a → Waking n a) → (o : Outcome) → and_then x f ≡ Some o → HearsFrom n j m o.state
  sleeper_hears f rows None wake o h = none_is_some o h
  sleeper_hears f rows (Some a) wake o h = read_says a.sends (f a.state) o h
      (λ y e same.
      let first = hears_waking n a (wake a refl) in
      subst (λ (z : Outcome). HearsFrom n j m z.state) same
      (woken_hears a.state y.state first (hears_row a.state j m y (omega (arith, lt, first.many)) (rows a.state y e))))

asleep_hears : (n : State) (j : ℕ) (m : Message) (o : Outcome) → j < degree n → asleep n j m ≡ Some o → HearsFrom n j m o.state
asleep_hears n j (Connect l) o lt e = sleeper_hears n j (Connect l) lt (λ x. connect x j l) (λ a y. row_of a j (Connect l) y) (wakes n) (waking n) o e
asleep_hears n j (Initiate l f) o lt e = none_is_some o e
asleep_hears n j (Name l f) o lt e = sleeper_hears n j (Name l f) lt (λ x. name x j l f) (λ a y. row_of a j (Name l f) y) (wakes n) (waking n) o e
asleep_hears n j (Report k) o lt e = none_is_some o e
asleep_hears n j ChangeRoot o lt e = none_is_some o e

-- each reaction
pub wake_hears : (n : State) (o : Outcome) → reaction n Wake ≡ Some o → Hears n o.state
wake_hears n o e = read_if (is_sleeping n.head.phase) _ _ o e (λ t x. hears_waking n o (waking n o x)) (λ t x. none_is_some o x)

pub take_hears : (n : State) (j : ℕ) (m : Message) (o : Outcome) → reaction n (Deliver j m) ≡ Some o → HearsFrom n j m o.state
take_hears n j m o e = read_if (nat_lt j (degree n)) _ _ o e
    (λ port x.
    let lt = ltb-true j (degree n) port in
    read_if (is_sleeping n.head.phase) _ _ o x
    (λ t y. asleep_hears n j m o lt y)
    (λ t y. hears_row n j m o lt (row_of n j m o y)))
    (λ port x. none_is_some o x)

-- An Initiate raises the node's level.

closing_level : (n : State) (o : Outcome) → Closing Connecting n o → ◌≡◌ {A = ℕ} o.state.head.level n.head.level
closing_level n o (Goes_on t) = refl
closing_level n o (Reports p t up) = refl
closing_level n o (Halts t up none) = refl
closing_level n o (Moves c over up e (Passes t)) = refl
closing_level n o (Moves c over up e (Goes t Connects)) = refl

called_level : (n : State) (j l : ℕ) (f : Key) (o : Outcome) → Row n j (Initiate l f) o → suc n.head.level ≤ o.state.head.level
called_level n j l f _ (Called r e (Enters {o} top h)) = omega (arith, closing_level (entered n (call_entry n j l f)) o h, e)

pub take_calls : (n : State) (j : ℕ) (m : Message) (o : Outcome) → (n.head.phase ≡ Sleeping → ◌≡◌ {A = ℕ} n.head.level 0) →
    reaction n (Deliver j m) ≡ Some o → of_kind boruvka 1 (m ∷ []) + n.head.level ≤ o.state.head.level
take_calls n j (Connect l) o low e = let g = (reaction_grows n (Deliver j (Connect l)) o low e).0 in omega (arith, g.level)
take_calls n j (Initiate l f) o low e = read_if (nat_lt j (degree n)) _ _ o e
    (λ port x.
    read_if (is_sleeping n.head.phase) _ _ o x
    (λ t y. none_is_some o y)
    (λ t y. let z = called_level n j l f o (row_of n j (Initiate l f) o y) in omega (arith, z)))
    (λ port x. none_is_some o x)
take_calls n j (Name l f) o low e = let g = (reaction_grows n (Deliver j (Name l f)) o low e).0 in omega (arith, g.level)
take_calls n j (Report k) o low e = let g = (reaction_grows n (Deliver j (Report k)) o low e).0 in omega (arith, g.level)
take_calls n j ChangeRoot o low e = let g = (reaction_grows n (Deliver j ChangeRoot) o low e).0 in omega (arith, g.level)
