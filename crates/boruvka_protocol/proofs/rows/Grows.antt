-- What every reaction leaves: the node's number, its keys and how many ports it has; it doesn't fall asleep, and loses no level.
use Rattle.std.proofs.Common.{◌≡◌, ◌≢◌, ℕ, ◌≤◌, nat_lt, true, false, Option, Some, None, refl, ◌∙◌, subst, arith, length-set, le_refl}
use Rattle.ghs_graph.specs.declared.key.Key.{Key}
use Rattle.boruvka_node.specs.declared.change.Entry.{Entry}
use Rattle.boruvka_node.specs.declared.message.Message.{Message}
use Rattle.boruvka_node.specs.declared.message.Message.TheVariants.{Connect, Initiate, Name, Report, ChangeRoot}
use Rattle.boruvka_node.specs.declared.message.Phase.{Phase}
use Rattle.boruvka_node.specs.declared.message.Phase.TheVariants.{Sleeping, Search, Rest}
use Rattle.boruvka_node.specs.declared.port_state.PortState.{PortState}
use Rattle.peer_machine.specs.declared.work.Work.{Work}
use Rattle.peer_machine.specs.declared.work.Work.TheVariants.{Wake, Deliver}
use Rattle.boruvka_node.specs.Words.{is_sleeping}
use Rattle.boruvka_node.specs.State.{State, degree, set_port}
use Rattle.boruvka_node.specs.Entering.{entered}
use Rattle.boruvka_node.specs.Reaction.{Outcome, rested, halted, woken, heard, reported, and_then, wakes, connect, name, asleep, awake, reaction}
use Rattle.boruvka_node.proofs.lemmas.Entered.{length_entered}
use Rattle.boruvka_protocol.proofs.Unlike.{rest_is_sleeping, search_is_sleeping, none_is_some}
use Rattle.boruvka_protocol.proofs.rows.Table.{gone, core_entry, Moving, Passes, Goes, Closing, Goes_on, Reports, Halts, Moves, Connecting, Connects, Entering, Enters, Meeting, Waits, Begins, Going, Goes_out, Meets, Waking, Alone, Wakes, Row, Noted, Met, Late, Called, Named, Told, Moved}
use Rattle.boruvka_protocol.proofs.rows.Read.{read_if, read_says, waking, row_of}

-- n' is n later on
pub record Grows (n n' : State) : Type 0 where
  pub number : n'.number ≡ n.number
  pub keys : n'.keys ≡ n.keys
  pub ports : degree n' ≡ degree n
  pub level : n.head.level ≤ n'.head.level
  pub awake : n.head.phase ≢ Sleeping → n'.head.phase ≢ Sleeping

pub grows_on : {n m o : State} → Grows n m → Grows m o → Grows n o
grows_on a b = record {
  number = b.number ∙ a.number;
  keys = b.keys ∙ a.keys;
  ports = b.ports ∙ a.ports;
  level = omega (arith, a.level, b.level);
  awake = λ up. b.awake (a.awake up);
}

pub grows_not : (n : State) → Grows n n
grows_not n = record { number = refl; keys = refl; ports = refl; level = le_refl _; awake = λ up. up }

-- only a port changes
pub grows_port : (n : State) (j : ℕ) (x : PortState) → Grows n (set_port n j x)
grows_port n j x = record { number = refl; keys = refl; ports = length-set n.ports j x; level = le_refl _; awake = λ up. up }

pub grows_rested : (n : State) → Grows n (rested n)
grows_rested n = record { number = refl; keys = refl; ports = refl; level = le_refl _; awake = λ up e. rest_is_sleeping e }

pub grows_halted : (n : State) → Grows n (halted n)
grows_halted n = record { number = refl; keys = refl; ports = refl; level = le_refl _; awake = λ up. up }

pub grows_gone : (n : State) (p : ℕ) → Grows n (gone n p)
grows_gone n p = record { number = refl; keys = refl; ports = refl; level = le_refl _; awake = λ up. up }

pub grows_reported : (n : State) (j : ℕ) (k : Option Key) → Grows n (reported n j k)
grows_reported n j k = record { number = refl; keys = refl; ports = length-set n.ports j _; level = le_refl _; awake = λ up. up }

pub grows_entered : (n : State) (e : Entry) → n.head.level ≤ e.level → Grows n (entered n e)
grows_entered n e le = record { number = refl; keys = refl; ports = length_entered e 0 n.ports; level = le; awake = λ up e. search_is_sleeping e }

pub grows_woken : (n : State) → ◌≡◌ {A = ℕ} n.head.level 0 → Grows n (woken n)
grows_woken n z = record { number = refl; keys = refl; ports = refl; level = omega (arith, z); awake = λ up e. rest_is_sleeping e }

-- The relations of the table.

module _ (G : State → ℕ → Outcome → Type 0) (grows : (n : State) (p : ℕ) (o : Outcome) → G n p o → Grows n o.state) where
  grows_moving : (n : State) (p : ℕ) (o : Outcome) → Moving G n p o → Grows n o.state
  grows_moving n p o (Passes b) = grows_not n
  grows_moving n p o (Goes b h) = grows n p o h

  grows_closing : (n : State) (o : Outcome) → Closing G n o → Grows n o.state
  grows_closing n o (Goes_on b) = grows_not n
  grows_closing n o (Reports p b up) = grows_rested n
  grows_closing n o (Halts b up none) = grows_on (grows_rested n) (grows_halted (rested n))
  grows_closing n o (Moves b over up e h) = grows_on (grows_rested n) (grows_moving (rested n) b.0 o h)

grows_connecting : (n : State) (p : ℕ) (o : Outcome) → Connecting n p o → Grows n o.state
grows_connecting n p o Connects = grows_gone n p

grows_entering : (n : State) (e : Entry) (o : Outcome) → n.head.level ≤ e.level → Entering n e o → Grows n o.state
grows_entering n e _ le (Enters {o} top h) = grows_on (grows_entered n e le) (grows_closing Connecting grows_connecting (entered n e) o h)

grows_meeting : (n : State) (p : ℕ) (o : Outcome) → Meeting n p o → Grows n o.state
grows_meeting n p o (Waits b) = grows_not n
grows_meeting n p o (Begins b h) = grows_entering n (core_entry n p) o (omega arith) h

grows_going : (n : State) (p : ℕ) (o : Outcome) → Going n p o → Grows n o.state
grows_going n p o (Goes_out b) = grows_gone n p
grows_going n p _ (Meets {o} b h) = grows_on (grows_gone n p) (grows_meeting (gone n p) p o h)

pub grows_waking : (n : State) (o : Outcome) → ◌≡◌ {A = ℕ} n.head.level 0 → Waking n o → Grows n o.state
grows_waking n o z (Alone b) = grows_on (grows_woken n z) (grows_halted (woken n))
grows_waking n o z (Wakes b h) = grows_on (grows_woken n z) (grows_connecting (woken n) 0 o h)

pub grows_row : (n : State) (j : ℕ) (m : Message) (o : Outcome) → Row n j m o → Grows n o.state
grows_row n j m o (Noted e b) = grows_port n j _
grows_row n j m o (Met e b h) = grows_on (grows_port n j _) (grows_meeting _ j o h)
grows_row n j m o (Late e b s) = grows_port n j _
grows_row n j m o (Called {l} r e h) = grows_entering n _ o (omega (arith, e)) h
grows_row n j m o (Named {l} {f} b h) = grows_on (grows_port n j _) (grows_closing Going grows_going (heard n j l f) o h)
grows_row n j m o (Told {k} b h) = grows_on (grows_reported n j k) (grows_closing Going grows_going (reported n j k) o h)
grows_row n j m o (Moved b e h) = grows_moving Going grows_going n b.0 o h

-- Who wakes is awake.

pub awake_woken : (n : State) (o : Outcome) → Waking n o → o.state.head.phase ≢ Sleeping
awake_woken n o (Alone b) = λ e. rest_is_sleeping e
awake_woken n o (Wakes b h) = (grows_connecting (woken n) 0 o h).awake rest_is_sleeping

-- Reactions.

-- what the test of a phase tells
pub sleeping_tells : (x : Phase) → (is_sleeping x ≡ true → x ≡ Sleeping) × (is_sleeping x ≡ false → x ≢ Sleeping)
sleeping_tells Sleeping = (λ e. refl, λ e z. cc)
sleeping_tells Search = (λ e. cc, λ e z. cc)
sleeping_tells Rest = (λ e. cc, λ e z. cc)

-- the node grows, and is awake behind it
abbrev pub Wakes_up : State → State → Type 0
Wakes_up n n' = Grows n n' × (n'.head.phase ≢ Sleeping)

-- a sleeper wakes, and then has its row
then_row : (n : State) (x : Option Outcome) (f : State → Option Outcome) (o : Outcome) → ((a : Outcome) → x ≡ Some a → Wakes_up n a.state) →
    ((a : State) (y : Outcome) → f a ≡ Some y → Grows a y.state) → and_then x f ≡ Some o → Wakes_up n o.state
then_row n None f o first next h = cc
then_row n (Some a) f o first next h = read_says a.sends (f a.state) o h
    (λ y e same.
    let up = first a refl in
    let on = next a.state y e in
    subst (λ (z : Outcome). Wakes_up n z.state) same (grows_on up.0 on, on.awake up.1))

wake_grows : (n : State) → ◌≡◌ {A = ℕ} n.head.level 0 → (o : Outcome) → wakes n ≡ Some o → Wakes_up n o.state
wake_grows n z o e = let h = waking n o e in (grows_waking n o z h, awake_woken n o h)

awake_grows : (n : State) (j : ℕ) (m : Message) (o : Outcome) → awake n j m ≡ Some o → Grows n o.state
awake_grows n j m o e = grows_row n j m o (row_of n j m o e)

asleep_grows : (n : State) (j : ℕ) (m : Message) (o : Outcome) → ◌≡◌ {A = ℕ} n.head.level 0 → asleep n j m ≡ Some o → Wakes_up n o.state
asleep_grows n j (Connect l) o z e = then_row n (wakes n) (λ x. connect x j l) o (wake_grows n z) (λ a y. awake_grows a j (Connect l) y) e
asleep_grows n j (Initiate l f) o z e = cc
asleep_grows n j (Name l f) o z e = then_row n (wakes n) (λ x. name x j l f) o (wake_grows n z) (λ a y. awake_grows a j (Name l f) y) e
asleep_grows n j (Report k) o z e = cc
asleep_grows n j ChangeRoot o z e = cc

-- where sleepers have level 0, every reaction grows its node, which is awake then
pub reaction_grows : (n : State) (k : Work Message) (o : Outcome) → (n.head.phase ≡ Sleeping → ◌≡◌ {A = ℕ} n.head.level 0) → reaction n k ≡ Some o →
    Wakes_up n o.state
reaction_grows n Wake o z e = read_if (is_sleeping n.head.phase) _ _ o e
    (λ t x. wake_grows n (z ((sleeping_tells _).0 t)) o x)
    (λ t x. none_is_some o x)
reaction_grows n (Deliver j m) o z e = read_if (nat_lt j (degree n)) _ _ o e
    (λ port x.
    read_if (is_sleeping n.head.phase) _ _ o x
    (λ t y. asleep_grows n j m o (z ((sleeping_tells _).0 t)) y)
    (λ t y. let s = awake_grows n j m o y in (s, s.awake ((sleeping_tells _).1 t))))
    (λ port x. none_is_some o x)
