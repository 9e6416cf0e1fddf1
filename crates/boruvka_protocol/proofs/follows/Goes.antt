-- Reactions of one node that go: there is a rule, and each message goes out on a port.
use Rattle.std.proofs.Common.{◌≡◌, ◌≢◌, ℕ, suc, ◌+◌, ◌<◌, ◌≤◌, ◌&&◌, ◌==◌, nat_lt, nat_le, Bool, true, false, Option, Some, None, List, [], ◌∷◌, ◌++◌, length, refl, subst, cond, ⊎_elim, length-set, get_or-set_same, get_or-set_other, eq-eqb, eqb-true, le-leb, arith}
use Rattle.std.proofs.lemmas.Bool.{and_parts, and_from, both_ways, cases_eq}
use Rattle.std.proofs.lemmas.List.Quantifiers.{position-Some}
use Rattle.ghs_graph.specs.declared.key.Key.{Key}
use Rattle.ghs_graph.specs.Ports.{far_end}
use Rattle.ghs_node.specs.declared.level.TheConstants.{TOP_LEVEL}
use Rattle.ghs_node.specs.Words.{Best, is_at, best_key, below, better}
use Rattle.peer_machine.specs.Rules.{Outgoing}
use Rattle.boruvka_node.specs.declared.change.Entry.{Entry}
use Rattle.boruvka_node.specs.declared.mark.Mark.{Mark}
use Rattle.boruvka_node.specs.declared.mark.Mark.TheVariants.{Basic, Asked, Branch, Inside}
use Rattle.boruvka_node.specs.declared.message.Message.{Message}
use Rattle.boruvka_node.specs.declared.message.Message.TheVariants.{Connect, Initiate}
use Rattle.boruvka_node.specs.declared.message.Phase.TheVariants.{Search}
use Rattle.boruvka_node.specs.declared.port_state.PortState.{PortState}
use Rattle.boruvka_node.specs.Words.{is_basic, is_asked, is_branch, is_search, is_rest}
use Rattle.boruvka_node.specs.State.{State, degree, key_at, port_at, mark_at, no_port, set_port, set_mark, least_basic}
use Rattle.boruvka_node.specs.Entering.{joined_mark, entered, told_as, told_from}
use Rattle.boruvka_node.specs.Reaction.{Outcome, GoingOut, silent, says, and_then, moves_over, own_best, is_over, rested, halted, root_closes, reports, closes_by, connects, enters_by, core, core_if_asked, goes_out, closes, moves, woken, wakes, connect, initiate, heard, is_next_name, name, reported, report}
use Rattle.boruvka_node.proofs.lemmas.Entered.{length_entered}
use Rattle.boruvka_protocol.proofs.follows.Cases.{searching_is}

-- each message goes out on one of the first d ports
abbrev pub AreBelow : ℕ → Outgoing Message → Type 0
AreBelow d [] = Unit
AreBelow d (s ∷ ss) = (s.0 < d) × AreBelow d ss

-- there is an outcome, whose messages do
abbrev pub Goes : ℕ → Option Outcome → Type 0
Goes d None = ⊥
Goes d (Some o) = AreBelow d o.sends

abbrev pub PortBelow : ℕ → Option ℕ → Type 0
PortBelow d None = Unit
PortBelow d (Some p) = p < d

abbrev pub BestBelow : ℕ → Best → Type 0
BestBelow d None = Unit
BestBelow d (Some b) = b.0 < d

-- where a port is Asked, the next level is one that nodes can have
abbrev pub IsLow : State → Type 0
IsLow n = (p : ℕ) → is_asked (mark_at n p) ≡ true → suc n.head.level ≤ TOP_LEVEL

below_append : (d : ℕ) (a b : Outgoing Message) → AreBelow d a → AreBelow d b → AreBelow d (a ++ b)
below_append d [] b p q = q
below_append d (s ∷ a) b p q = (p.0, below_append d a b p.1 q)

says_goes : (d : ℕ) (ss : Outgoing Message) (x : Option Outcome) → AreBelow d ss → Goes d x → Goes d (says ss x)
says_goes d ss None b h = absurd h
says_goes d ss (Some o) b h = below_append d ss o.sends b h

pub choose_goes : (d : ℕ) (b : Bool) (x y : Option Outcome) → (b ≡ true → Goes d x) → (b ≡ false → Goes d y) → Goes d (cond b x y)
choose_goes d true x y f h = f refl
choose_goes d false x y f h = h refl

-- Who enters.

told_one : (e : Entry) (p d : ℕ) (m : Mark) → p < d → AreBelow d (told_as e p m)
told_one e p d Basic lt = (lt, tt)
told_one e p d Asked lt = (lt, tt)
told_one e p d Branch lt = go (is_at e.parent p)
  where
    go : (up : Bool) → AreBelow d (cond up [] ((p, Initiate e.level e.name) ∷ []))
    go true = tt
    go false = (lt, tt)
told_one e p d Inside lt = tt

told_below : (e : Entry) (d p : ℕ) (xs : List PortState) → p + length xs ≤ d → AreBelow d (told_from e p xs)
told_below e d p [] le = tt
told_below e d p (x ∷ xs) le =
    below_append d (told_as e p (joined_mark e p x.mark)) (told_from e (suc p) xs)
    (told_one e p d (joined_mark e p x.mark) (omega (arith, le)))
    (told_below e d (suc p) xs (omega (arith, le)))

better_below : (d : ℕ) (b : Best) (p : ℕ) (o : Option Key) → BestBelow d b → p < d → BestBelow d (better b p o)
better_below d b p None h lt = h
better_below d b p (Some k) h lt = go (below (Some k) (best_key b))
  where
    go : (t : Bool) → BestBelow d (cond t (Some (p, k)) b)
    go true = lt
    go false = h

own_below : (d : ℕ) (n : State) → degree n ≤ d → BestBelow d n.head.best → BestBelow d (own_best n (least_basic n.ports))
own_below d n le b = go (least_basic n.ports) (λ p e. e)
  where
    go : (o : Option ℕ) → ((p : ℕ) → o ≡ Some p → least_basic n.ports ≡ Some p) → BestBelow d (own_best n o)
    go None is = b
    go (Some p) is =
        let at = position-Some (λ (x : PortState). is_basic x.mark) n.ports p no_port (is p refl) in
        better_below d n.head.best p (Some (key_at n p)) b (omega (arith, at.0, le))

moves_goes : (d : ℕ) (go : GoingOut) (x : State) (p : ℕ) → p < d → Goes d (go x p) → Goes d (moves_over go x p)
moves_goes d go x p lt h = choose_goes d (is_branch (mark_at x p)) _ _ (λ t. (lt, tt)) (λ t. h)

root_goes : (d : ℕ) (go : GoingOut) (x : State) (b : Best) → BestBelow d b → ((c : ℕ × Key) → b ≡ Some c → Goes d (go x c.0)) →
    Goes d (root_closes go x b)
root_goes d go x None h f = tt
root_goes d go x (Some c) h f = moves_goes d go x c.0 h (f c refl)

reports_goes : (d : ℕ) (go : GoingOut) (x : State) (up : Option ℕ) → PortBelow d up → BestBelow d x.head.best →
    ((c : ℕ × Key) → x.head.best ≡ Some c → Goes d (go x c.0)) → Goes d (reports go x up)
reports_goes d go x None u h f = root_goes d go x x.head.best h f
reports_goes d go x (Some p) u h f = (u, tt)

closes_goes : (d : ℕ) (go : GoingOut) (n : State) → PortBelow d n.head.parent → (is_over n ≡ true → BestBelow d (rested n).head.best) →
    ((c : ℕ × Key) → (rested n).head.best ≡ Some c → c.0 < d → Goes d (go (rested n) c.0)) → Goes d (closes_by go n)
closes_goes d go n up best f = choose_goes d (is_over n) _ _
    (λ t. reports_goes d go (rested n) n.head.parent up (best t) (λ c q. f c q (subst (BestBelow d) q (best t))))
    (λ t. tt)

pub enters_goes : (d : ℕ) (n : State) (e : Entry) → degree n ≤ d → e.level ≤ TOP_LEVEL → PortBelow d e.parent → Goes d (enters_by n e)
enters_goes d n e le top up = choose_goes d (nat_le e.level TOP_LEVEL) _ _
    (λ t.
    says_goes d (told_from e 0 n.ports) (closes_by connects (entered n e)) (told_below e d 0 n.ports (omega (arith, le)))
    (closes_goes d connects (entered n e) up (λ over. own_below d (entered n e) (omega (arith, le, length_entered e 0 n.ports)) tt)
    (λ c q lt. (lt, tt))))
    (λ t. absurd (both_ways (nat_le e.level TOP_LEVEL) t (le-leb e.level TOP_LEVEL top)))

core_goes : (d : ℕ) (n : State) (p : ℕ) → degree n ≤ d → suc n.head.level ≤ TOP_LEVEL → Goes d (core n p)
core_goes d n p le top = choose_goes d (nat_lt n.number (far_end n.number (key_at n p))) _ _
    (λ t. enters_goes d n (record { level = suc n.head.level; name = key_at n p; parent = None; out = n.head.out }) le top tt)
    (λ t. tt)

-- Who goes out.

pub goes_out_goes : (d : ℕ) (n : State) (p : ℕ) → degree n ≤ d → p < d → IsLow n → Goes d (goes_out n p)
goes_out_goes d n p le lt low =
    says_goes d ((p, Connect n.head.level) ∷ []) (core_if_asked (record n { head = record n.head { out = Some p } }) p) (lt, tt)
    (choose_goes d (is_asked (mark_at n p)) _ _
    (λ t. core_goes d (record n { head = record n.head { out = Some p } }) p le (low p t))
    (λ t. tt))

pub closing_goes : (d : ℕ) (n : State) → degree n ≤ d → PortBelow d n.head.parent → (n.head.phase ≡ Search → BestBelow d n.head.best) → IsLow n →
    Goes d (closes n)
closing_goes d n le up best low = closes_goes d goes_out n up
    (λ over. let b = and_parts _ _ over in own_below d n le (best (searching_is n.head.phase b.0)))
    (λ c q lt. goes_out_goes d (rested n) c.0 le lt low)

pub moving_goes : (d : ℕ) (n : State) (b : ℕ × Key) → degree n ≤ d → b.0 < d → IsLow n → Goes d (moves n (Some b))
moving_goes d n b le lt low = moves_goes d goes_out n b.0 lt (goes_out_goes d n b.0 le lt low)

-- One port changes.

many_set : (d : ℕ) (n : State) (j : ℕ) (x : PortState) → degree n ≤ d → degree (set_port n j x) ≤ d
many_set d n j x le = omega (arith, le, length-set n.ports j x)

low_set : (n : State) (j : ℕ) (x : PortState) → j < degree n → (is_asked x.mark ≡ true → is_asked (mark_at n j) ≡ true) → IsLow n →
    IsLow (set_port n j x)
low_set n j x lt f low p a = ⊎_elim
    (λ e.
    low j
    (f
    (subst (λ (y : PortState). is_asked y.mark ≡ true) (get_or-set_same n.ports j x no_port lt)
    (subst (λ q. is_asked (mark_at (set_port n j x) q) ≡ true) e a))))
    (λ ne. low p (subst (λ (y : PortState). is_asked y.mark ≡ true) (get_or-set_other n.ports j p x no_port ne) a))
    (cases_eq p j)

-- The rows.

pub connect_now_goes : (d : ℕ) (n : State) (j l : ℕ) → degree n ≤ d → l ≡ n.head.level → (is_at n.head.out j ≡ true → suc n.head.level ≤ TOP_LEVEL) →
    Goes d (connect n j l)
connect_now_goes d n j l le e top = choose_goes d (l == n.head.level) _ _
    (λ t. choose_goes d (is_at n.head.out j) _ _
    (λ at. core_goes d (set_mark n j Asked) j (many_set d n j (record (port_at n j) { mark = Asked }) le) (top at))
    (λ at. tt))
    (λ t. absurd (both_ways (l == n.head.level) t (eq-eqb l n.head.level e)))

pub connect_late_goes : (d : ℕ) (n : State) (j l : ℕ) → j < d → suc l ≡ n.head.level → is_basic (mark_at n j) ≡ true → is_search n.head.phase ≡ true →
    Goes d (connect n j l)
connect_late_goes d n j l lt e basic search = choose_goes d (l == n.head.level) _ _
    (λ t. let same : l ≡ n.head.level = eqb-true l n.head.level t in absurd (omega (arith, e, same)))
    (λ t. choose_goes d (suc l == n.head.level) _ _
    (λ s. choose_goes d (is_basic (mark_at n j) && is_search n.head.phase) _ _
    (λ both. (lt, tt))
    (λ both. absurd (both_ways (is_basic (mark_at n j) && is_search n.head.phase) both (and_from _ _ basic search))))
    (λ s. absurd (both_ways (suc l == n.head.level) s (eq-eqb (suc l) n.head.level e))))

pub initiate_goes : (d : ℕ) (n : State) (j l : ℕ) (f : Key) → degree n ≤ d → j < d → is_rest n.head.phase ≡ true → l ≡ suc n.head.level →
    l ≤ TOP_LEVEL → Goes d (initiate n j l f)
initiate_goes d n j l f le lt rest e top = choose_goes d (is_rest n.head.phase && (l == suc n.head.level)) _ _
    (λ t. enters_goes d n (record { level = l; name = f; parent = Some j; out = n.head.out }) le top lt)
    (λ t. absurd (both_ways (is_rest n.head.phase && (l == suc n.head.level)) t (and_from _ _ rest (eq-eqb l (suc n.head.level) e))))

-- what a node that is awake needs for its close
pub record CanClose (d : ℕ) (n : State) : Type 0 where
  pub ports : degree n ≤ d
  pub parent : PortBelow d n.head.parent
  pub best : n.head.phase ≡ Search → BestBelow d n.head.best
  pub low : IsLow n

inside_or_same : (own : Bool) (m : Mark) → is_asked (cond own Inside m) ≡ true → is_asked m ≡ true
inside_or_same true m e = cc
inside_or_same false m e = e

pub name_goes : (d : ℕ) (n : State) (j l : ℕ) (f : Key) → CanClose d n → j < degree n → is_next_name n j l ≡ true → Goes d (name n j l f)
name_goes d n j l f c lt next = choose_goes d (is_next_name n j l) _ _
    (λ t.
    closing_goes d (heard n j l f) (many_set d n j _ c.ports) c.parent c.best
    (low_set n j _ lt (inside_or_same _ (mark_at n j)) c.low))
    (λ t. absurd (both_ways (is_next_name n j l) t next))

pub report_goes : (d : ℕ) (n : State) (j : ℕ) (k : Option Key) → CanClose d n → j < degree n → n.head.phase ≡ Search → (port_at n j).owes ≡ true →
    Goes d (report n j k)
report_goes d n j k c lt s owes = choose_goes d (port_at n j).owes _ _
    (λ t.
    let le = c.ports in
    closing_goes d (reported n j k) (many_set d n j _ c.ports) c.parent
    (λ search. better_below d n.head.best j k (c.best s) (omega (arith, lt, le)))
    (λ p a. low_set n j (record (port_at n j) { owes = false }) lt (λ x. x) c.low p a))
    (λ t. absurd (both_ways (port_at n j).owes t owes))

pub change_root_goes : (d : ℕ) (n : State) (b : Best) → degree n ≤ d → IsLow n → BestBelow d b → b ≢ None → Goes d (moves n b)
change_root_goes d n None le low below some = absurd (some refl)
change_root_goes d n (Some b) le low below some = moving_goes d n b le below low

-- A sleeper.

pub wakes_goes : (d : ℕ) (n : State) → degree n ≤ d → Goes d (wakes n)
wakes_goes d n le = choose_goes d (degree n == 0) _ _ (λ t. tt)
    (λ t. (⊎_elim (λ e. absurd (both_ways (degree n == 0) t (eq-eqb (degree n) 0 e))) (λ ne. omega (arith, ne, le)) (cases_eq (degree n) 0), tt))

pub woken_then_goes : (d : ℕ) (n : State) (f : State → Option Outcome) → 0 < degree n → degree n ≤ d →
    Goes d (f (record (woken n) { head = record (woken n).head { out = Some 0 } })) → Goes d (and_then (wakes n) f)
woken_then_goes d n f some le h = go (degree n == 0) (λ t. let e : degree n ≡ 0 = eqb-true (degree n) 0 t in omega (arith, some, e))
  where
    go : (b : Bool) → (b ≡ true → ⊥) → Goes d (and_then (cond b (silent (halted (woken n))) (connects (woken n) 0)) f)
    go true never = absurd (never refl)
    go false never =
        says_goes d ((0, Connect 0) ∷ []) (f (record (woken n) { head = record (woken n).head { out = Some 0 } }))
        (omega (arith, some, le), tt) h
