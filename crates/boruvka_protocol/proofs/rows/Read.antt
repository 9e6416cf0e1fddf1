-- Each reaction is a row of the table.
use Rattle.std.proofs.Common.{◌≡◌, ℕ, suc, ◌==◌, ◌&&◌, nat_lt, nat_le, Bool, true, false, Option, Some, None, [], ◌∷◌, refl, ◌∙◌, ap, subst, cond, eqb-true, leb-true}
use Rattle.std.proofs.lemmas.Bool.{and_parts}
use Rattle.std.proofs.lemmas.Option.{same_Some}
use Rattle.ghs_graph.specs.declared.key.Key.{Key}
use Rattle.ghs_graph.specs.Ports.{far_end}
use Rattle.ghs_node.specs.declared.level.TheConstants.{TOP_LEVEL}
use Rattle.ghs_node.specs.Words.{Best, is_at}
use Rattle.peer_machine.specs.Rules.{Outgoing}
use Rattle.boruvka_node.specs.declared.change.Entry.{Entry}
use Rattle.boruvka_node.specs.declared.mark.Mark.TheVariants.{Asked}
use Rattle.boruvka_node.specs.declared.message.Message.{Message}
use Rattle.boruvka_node.specs.declared.message.Message.TheVariants.{Connect, Initiate, Name, Report, ChangeRoot}
use Rattle.boruvka_node.specs.Words.{is_basic, is_asked, is_branch, is_search, is_rest}
use Rattle.boruvka_node.specs.State.{State, degree, key_at, port_at, mark_at, set_mark}
use Rattle.boruvka_node.specs.Entering.{entered, told_from}
use Rattle.boruvka_node.specs.Reaction.{Outcome, GoingOut, says, moves_over, moves, closes_by, reports, root_closes, connects, enters_by, core, core_if_asked, goes_out, wakes, woken, is_over, rested, connect, is_next_name, heard, reported, awake}
use Rattle.boruvka_protocol.proofs.Unlike.{none_is_some}
use Rattle.boruvka_protocol.proofs.rows.Table.{said, gone, core_entry, call_entry, Moving, Passes, Goes, Closing, Goes_on, Reports, Halts, Moves, Connecting, Connects, Entering, Enters, Meeting, Waits, Begins, Going, Goes_out, Meets, Waking, Alone, Wakes, Row, Noted, Met, Late, Called, Named, Told, Moved}

-- a test that led to something either way
pub read_if : {P : Type 0} {A : Type 0} (b : Bool) (x y : Option A) (z : A) → cond b x y ≡ Some z → (b ≡ true → x ≡ Some z → P) →
    (b ≡ false → y ≡ Some z → P) → P
read_if true x y z e f g = f refl e
read_if false x y z e f g = g refl e

pub read_says : {P : Type 0} (ss : Outgoing Message) (x : Option Outcome) (z : Outcome) → says ss x ≡ Some z →
    ((o : Outcome) → x ≡ Some o → said ss o ≡ z → P) → P
read_says ss None z e f = cc
read_says ss (Some o) z e f = f o refl (same_Some _ _ e)

pub connecting : (n : State) (p : ℕ) (o : Outcome) → connects n p ≡ Some o → Connecting n p o
connecting n p o e = subst (Connecting n p) (same_Some _ _ e) Connects

module _ (go : GoingOut) (G : State → ℕ → Outcome → Type 0) (reads : (n : State) (p : ℕ) (o : Outcome) → go n p ≡ Some o → G n p o) where
  pub moving : (n : State) (p : ℕ) (o : Outcome) → moves_over go n p ≡ Some o → Moving G n p o
  moving n p o e =
      read_if (is_branch (mark_at n p)) _ _ o e (λ t x. subst (Moving G n p) (same_Some _ _ x) (Passes t)) (λ t x. Goes t (reads n p o x))

  root : (n : State) (o : Outcome) → is_over n ≡ true → n.head.parent ≡ None → (b : Best) → (rested n).head.best ≡ b →
      root_closes go (rested n) b ≡ Some o → Closing G n o
  root n o over up None e h = subst (Closing G n) (same_Some _ _ h) (Halts over up e)
  root n o over up (Some b) e h = Moves b over up e (moving (rested n) b.0 o h)

  ended : (n : State) (o : Outcome) → is_over n ≡ true → (q : Option ℕ) → n.head.parent ≡ q → reports go (rested n) q ≡ Some o → Closing G n o
  ended n o over None e h = root n o over e (rested n).head.best refl h
  ended n o over (Some p) e h = subst (Closing G n) (same_Some _ _ h) (Reports p over e)

  pub closing : (n : State) (o : Outcome) → closes_by go n ≡ Some o → Closing G n o
  closing n o e =
      read_if (is_over n) _ _ o e (λ t x. ended n o t n.head.parent refl x) (λ t x. subst (Closing G n) (same_Some _ _ x) (Goes_on t))

pub entering : (n : State) (e : Entry) (o : Outcome) → enters_by n e ≡ Some o → Entering n e o
entering n e o h = read_if (nat_le e.level TOP_LEVEL) _ _ o h
    (λ t x.
    read_says (told_from e 0 n.ports) (closes_by connects (entered n e)) o x
    (λ y k same. subst (Entering n e) same (Enters (leb-true _ _ t) (closing connects Connecting connecting (entered n e) y k))))
    (λ t x. none_is_some o x)

pub meeting : (n : State) (p : ℕ) (o : Outcome) → core n p ≡ Some o → Meeting n p o
meeting n p o h = read_if (nat_lt n.number (far_end n.number (key_at n p))) _ _ o h
    (λ t x. Begins t (entering n (core_entry n p) o x))
    (λ t x. subst (Meeting n p) (same_Some _ _ x) (Waits t))

pub going : (n : State) (p : ℕ) (o : Outcome) → goes_out n p ≡ Some o → Going n p o
going n p o h = read_says ((p, Connect n.head.level) ∷ []) (core_if_asked (gone n p) p) o h
    (λ y k same.
    read_if (is_asked (mark_at n p)) _ _ y k
    (λ t x. subst (Going n p) same (Meets t (meeting (gone n p) p y x)))
    (λ t x. subst (Going n p) (ap (said ((p, Connect n.head.level) ∷ [])) (same_Some _ _ x) ∙ same) (Goes_out t)))

pub waking : (n : State) (o : Outcome) → wakes n ≡ Some o → Waking n o
waking n o h = read_if (degree n == 0) _ _ o h
    (λ t x. subst (Waking n) (same_Some _ _ x) (Alone t))
    (λ t x. Wakes t (connecting (woken n) 0 o x))

-- The rows.

row_connect : (n : State) (j l : ℕ) (o : Outcome) → connect n j l ≡ Some o → Row n j (Connect l) o
row_connect n j l o h = read_if (l == n.head.level) _ _ o h
    (λ t x.
    read_if (is_at n.head.out j) _ _ o x
    (λ at y. Met (eqb-true _ _ t) at (meeting (set_mark n j Asked) j o y))
    (λ at y. subst (Row n j (Connect l)) (same_Some _ _ y) (Noted (eqb-true _ _ t) at)))
    (λ t x.
    read_if (suc l == n.head.level) _ _ o x
    (λ below y.
    read_if (is_basic (mark_at n j) && is_search n.head.phase) _ _ o y
    (λ both z.
    let b = and_parts _ _ both in
    subst (Row n j (Connect l)) (same_Some _ _ z) (Late (eqb-true _ _ below) b.0 b.1))
    (λ both z. none_is_some o z))
    (λ below y. none_is_some o y))

row_initiate : (n : State) (j l : ℕ) (f : Key) (o : Outcome) → awake n j (Initiate l f) ≡ Some o → Row n j (Initiate l f) o
row_initiate n j l f o h = read_if (is_rest n.head.phase && (l == suc n.head.level)) _ _ o h
    (λ t x. let b = and_parts _ _ t in Called b.0 (eqb-true _ _ b.1) (entering n (call_entry n j l f) o x))
    (λ t x. none_is_some o x)

row_name : (n : State) (j l : ℕ) (f : Key) (o : Outcome) → awake n j (Name l f) ≡ Some o → Row n j (Name l f) o
row_name n j l f o h = read_if (is_next_name n j l) _ _ o h
    (λ t x. Named t (closing goes_out Going going (heard n j l f) o x))
    (λ t x. none_is_some o x)

row_report : (n : State) (j : ℕ) (k : Option Key) (o : Outcome) → awake n j (Report k) ≡ Some o → Row n j (Report k) o
row_report n j k o h = read_if (port_at n j).owes _ _ o h
    (λ t x. Told t (closing goes_out Going going (reported n j k) o x))
    (λ t x. none_is_some o x)

row_change_root : (n : State) (j : ℕ) (o : Outcome) (b : Best) → n.head.best ≡ b → moves n b ≡ Some o → Row n j ChangeRoot o
row_change_root n j o None e h = none_is_some o h
row_change_root n j o (Some b) e h = Moved b e (moving goes_out Going going n b.0 o h)

-- a reaction of a node that is awake is a row
pub row_of : (n : State) (j : ℕ) (m : Message) (o : Outcome) → awake n j m ≡ Some o → Row n j m o
row_of n j (Connect l) o h = row_connect n j l o h
row_of n j (Initiate l f) o h = row_initiate n j l f o h
row_of n j (Name l f) o h = row_name n j l f o h
row_of n j (Report k) o h = row_report n j k o h
row_of n j ChangeRoot o h = row_change_root n j o n.head.best refl h
