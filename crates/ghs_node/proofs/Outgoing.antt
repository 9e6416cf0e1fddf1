-- What a reaction sends goes out on ports of the node, and its levels are levels.
use Rattle.std.proofs.Common.{◌≡◌, ℕ, suc, ◌+◌, ◌<◌, ◌≤◌, ◌==◌, true, false, List, [], ◌∷◌, length, refl, cond, arith, Option, Some, None, unwrap_or}
use Rattle.std.specs.List.{All}
use Rattle.std.proofs.lemmas.List.Elements.{All-nil, All-cons, All-append}
use Rattle.std.proofs.lemmas.List.Quantifiers.{position-Some}
use Rattle.ghs_node.specs.declared.head.Head.{Head}
use Rattle.ghs_node.specs.declared.mark.Mark.{Mark}
use Rattle.ghs_node.specs.declared.mark.Mark.TheVariants.{Basic, Branch, Rejected}
use Rattle.ghs_node.specs.declared.message.Phase.TheVariants.{Find, Found}
use Rattle.ghs_node.specs.declared.message.Message.{Message}
use Rattle.ghs_node.specs.declared.message.Message.TheVariants.{Connect, Initiate, Test, Accept, Reject, Report, ChangeRoot}
use Rattle.ghs_node.specs.declared.delta.Delta.{Delta}
use Rattle.ghs_node.specs.declared.work.Work.{Work}
use Rattle.ghs_node.specs.Words.{Outgoing, is_basic, on_branches_from, best_key}
use Rattle.ghs_node.specs.NodeState.{NodeState, IsNode, IsPortBelow, key_at, mark_at, degree}
use Rattle.ghs_node.specs.Reaction.{Ending, Probing, Reporting, Waiting, last_sends, core_port, name_of, no_probe, reject_at, answered, heard, searching, passed_on, root_message}
use Rattle.ghs_node.specs.Rows.{Closes, Reports, Waits, Settles, Probes, Exhausts, AwakeRow, Connect_absorbed, Connect_merges, Initiate_rests, Initiate_searches, Test_accepted, Test_rejected, Tests_cross, Accept_heard, Reject_heard, Report_heard, Report_moves_root, Root_moves, Row, Wakes, Wakes_alone, Woken_merges, Woken_connect_waits, Woken_test_waits, Woken_accepts, Awake}
use Rattle.ghs_node.specs.Laws.{HasLevel, WorkHasLevel}
use Rattle.ghs_node.proofs.MarkChanges.{length-with_mark, best_below}

-- ports

abbrev Ported : ℕ → Outgoing → Type 0
Ported k ss = All (λ (s : ℕ × Message). s.0 < k) ss

none_ported : {k : ℕ} → Ported k []
none_ported {k} = All-nil (λ (s : ℕ × Message). s.0 < k)

more_ported : {k : ℕ} (p : ℕ) (m : Message) (ss : Outgoing) → p < k → Ported k ss → Ported k ((p, m) ∷ ss)
more_ported {k} p m ss lt h = All-cons (λ (s : ℕ × Message). s.0 < k) (p, m) ss lt h

one_ported : {k : ℕ} (p : ℕ) (m : Message) → p < k → Ported k ((p, m) ∷ [])
one_ported p m lt = more_ported p m [] lt none_ported

branches_ported : (k p : ℕ) (ms : List Mark) (j : ℕ) (m : Message) → p + length ms ≤ k → Ported k (on_branches_from p ms j m)
branches_ported k p [] j m le = none_ported
branches_ported k p (Branch ∷ ms) j m le =
    let rest = branches_ported k (suc p) ms j m (omega arith) in
    elim (p == j) as (λ b. Ported k (cond b (on_branches_from (suc p) ms j m) ((p, m) ∷ on_branches_from (suc p) ms j m)))
    [ true ↦ rest | false ↦ more_ported p m _ (omega arith) rest ]
branches_ported k p (_ ∷ ms) j m le = branches_ported k (suc p) ms j m (omega arith)

core_below : (k : ℕ) (o : Option ℕ) → 0 < k → IsPortBelow k o → unwrap_or o 0 < k
core_below k None lt i = lt
core_below k (Some p) lt i = i

closes_ported : {k : ℕ} {h : Head} {e : Ending} → 0 < k → IsPortBelow k h.in_branch → Closes h e → Ported k (last_sends h e)
closes_ported {k} {h} lt i (Reports a b) = one_ported (core_port h) (Report (best_key h.best)) (core_below k h.in_branch lt i)
closes_ported lt i (Waits a) = none_ported

settles_ported : {k : ℕ} {ms : List Mark} {h : Head} {e : Ending} → length ms ≡ k → 0 < k → IsPortBelow k h.in_branch → Settles ms h e
    → Ported k (last_sends h e)
settles_ported {k} {ms} {h} same lt i (Probes p l) =
    let below = (position-Some is_basic ms p Rejected l).0 in one_ported p (Test h.level (name_of h)) (omega arith)
settles_ported same lt i (Exhausts l c) = closes_ported lt i c

pub awake_ported : {n : NodeState} {j : ℕ} {m : Message} {d : Delta} → IsNode n → j < degree n → AwakeRow n j m d → Ported (degree n) d.sends
awake_ported f lt (Connect_absorbed {j = j} a b) = one_ported j _ lt
awake_ported f lt (Connect_merges {j = j} a b c) = one_ported j _ lt
awake_ported {n} f lt (Initiate_rests {j = j} {l = l} {f = g} a) = branches_ported (degree n) 0 n.marks j (Initiate l g Found) (omega arith)
awake_ported {n} f lt (Initiate_searches {j = j} {l = l} {f = g} a few s) =
    All-append (λ (s : ℕ × Message). s.0 < degree n) (passed_on n j l g Find) _
    (branches_ported (degree n) 0 n.marks j (Initiate l g Find) (omega arith))
    (settles_ported {h = no_probe (searching n j l g)} refl (omega arith) lt s)
awake_ported f lt (Test_accepted {j = j} a b) = one_ported j Accept lt
awake_ported f lt (Test_rejected {j = j} a b c) = one_ported j Reject lt
awake_ported {n} f lt (Tests_cross {j = j} a b c s) =
    settles_ported {h = no_probe n.head} (length-with_mark n.marks (reject_at n j)) (omega arith) f.in_branch s
awake_ported {n} f lt (Accept_heard {j = j} a c) = closes_ported {h = answered n.head j (Some (key_at n j))} (omega arith) f.in_branch c
awake_ported {n} f lt (Reject_heard {j = j} a s) =
    settles_ported {h = no_probe n.head} (length-with_mark n.marks (reject_at n j)) (omega arith) f.in_branch s
awake_ported {n} f lt (Report_heard {j = j} {w = w} c a e s) = closes_ported {h = heard n.head c j w} (omega arith) f.in_branch s
awake_ported f lt (Report_moves_root b k i p e a) = one_ported b _ (best_below _ b k _ e f.best)
awake_ported f lt (Root_moves b k e) = one_ported b _ (best_below _ b k _ e f.best)
awake_ported f lt _ = none_ported

pub row_ported : (n : NodeState) (w : Work) (d : Delta) → IsNode n → Row n w d → Ported (degree n) d.sends
row_ported n w d f (Wakes s lt) = one_ported 0 (Connect 0) lt
row_ported n w d f (Wakes_alone s e) = none_ported
row_ported n w d f (Woken_merges s lt) =
    more_ported 0 (Connect 0) ((0, Initiate 1 (key_at n 0) Find) ∷ []) lt (one_ported 0 (Initiate 1 (key_at n 0) Find) lt)
row_ported n w d f (Woken_connect_waits s lt ne) = one_ported 0 (Connect 0) (omega arith)
row_ported n w d f (Woken_test_waits s lt l) = one_ported 0 (Connect 0) (omega arith)
row_ported n w d f (Woken_accepts {j = j} s lt) = more_ported 0 (Connect 0) ((j, Accept) ∷ []) (omega arith) (one_ported j Accept lt)
row_ported n w d f (Awake up lt r) = awake_ported f lt r

-- levels

abbrev Leveled : Outgoing → Type 0
Leveled ss = All (λ (s : ℕ × Message). HasLevel s.1) ss

none_leveled : Leveled []
none_leveled = All-nil (λ (s : ℕ × Message). HasLevel s.1)

more_leveled : (p : ℕ) (m : Message) (ss : Outgoing) → HasLevel m → Leveled ss → Leveled ((p, m) ∷ ss)
more_leveled p m ss l h = All-cons (λ (s : ℕ × Message). HasLevel s.1) (p, m) ss l h

one_leveled : (p : ℕ) (m : Message) → HasLevel m → Leveled ((p, m) ∷ [])
one_leveled p m l = more_leveled p m [] l none_leveled

branches_leveled : (p : ℕ) (ms : List Mark) (j : ℕ) (m : Message) → HasLevel m → Leveled (on_branches_from p ms j m)
branches_leveled p [] j m l = none_leveled
branches_leveled p (Branch ∷ ms) j m l =
    let rest = branches_leveled (suc p) ms j m l in
    elim (p == j) as (λ b. Leveled (cond b (on_branches_from (suc p) ms j m) ((p, m) ∷ on_branches_from (suc p) ms j m)))
    [ true ↦ rest | false ↦ more_leveled p m _ l rest ]
branches_leveled p (_ ∷ ms) j m l = branches_leveled (suc p) ms j m l

ending_leveled : (h : Head) (e : Ending) → h.level ≤ 20 → Leveled (last_sends h e)
ending_leveled h (Probing p) le = one_leveled p (Test h.level (name_of h)) le
ending_leveled h Reporting le = one_leveled (core_port h) (Report (best_key h.best)) tt
ending_leveled h Waiting le = none_leveled

root_leveled : (k : Mark) (b l : ℕ) → l ≤ 20 → Leveled ((b, root_message k l) ∷ [])
root_leveled Basic b l le = one_leveled b (Connect l) le
root_leveled Branch b l le = one_leveled b ChangeRoot tt
root_leveled Rejected b l le = one_leveled b (Connect l) le

pub awake_leveled : {n : NodeState} {j : ℕ} {m : Message} {d : Delta} → IsNode n → HasLevel m → AwakeRow n j m d → Leveled d.sends
awake_leveled {n} f h (Connect_absorbed {j = j} a b) = one_leveled j (Initiate n.head.level (name_of n.head) n.head.phase) f.level
awake_leveled {n} f h (Connect_merges {j = j} a b c) = one_leveled j (Initiate (n.head.level + 1) (key_at n j) Find) (omega arith)
awake_leveled {n} f h (Initiate_rests {j = j} {l = l} {f = g} a) = branches_leveled 0 n.marks j (Initiate l g Found) h
awake_leveled {n} f h (Initiate_searches {j = j} {l = l} {f = g} {e = e} a few s) =
    All-append (λ (s : ℕ × Message). HasLevel s.1) (passed_on n j l g Find) _ (branches_leveled 0 n.marks j (Initiate l g Find) h)
    (ending_leveled (no_probe (searching n j l g)) e h)
awake_leveled f h (Test_accepted {j = j} a b) = one_leveled j Accept tt
awake_leveled f h (Test_rejected {j = j} a b c) = one_leveled j Reject tt
awake_leveled {n} f h (Tests_cross {e = e} a b c s) = ending_leveled (no_probe n.head) e f.level
awake_leveled {n} {j} f h (Accept_heard {e = e} a c) = ending_leveled (answered n.head j (Some (key_at n j))) e f.level
awake_leveled {n} f h (Reject_heard {e = e} a s) = ending_leveled (no_probe n.head) e f.level
awake_leveled {n} {j} f h (Report_heard {w = w} {e = e} c a b s) = ending_leveled (heard n.head c j w) e f.level
awake_leveled {n} f h (Report_moves_root b k i p e a) = root_leveled (mark_at n b) b n.head.level f.level
awake_leveled {n} f h (Root_moves b k e) = root_leveled (mark_at n b) b n.head.level f.level
awake_leveled f h _ = none_leveled

pub row_leveled : (n : NodeState) (w : Work) (d : Delta) → IsNode n → WorkHasLevel w → Row n w d → Leveled d.sends
row_leveled n w d f h (Wakes s lt) = one_leveled 0 (Connect 0) (omega arith)
row_leveled n w d f h (Wakes_alone s e) = none_leveled
row_leveled n w d f h (Woken_merges s lt) =
    more_leveled 0 (Connect 0) ((0, Initiate 1 (key_at n 0) Find) ∷ []) (omega arith) (one_leveled 0 (Initiate 1 (key_at n 0) Find) (omega arith))
row_leveled n w d f h (Woken_connect_waits s lt ne) = one_leveled 0 (Connect 0) (omega arith)
row_leveled n w d f h (Woken_test_waits s lt l) = one_leveled 0 (Connect 0) (omega arith)
row_leveled n w d f h (Woken_accepts {j = j} s lt) = more_leveled 0 (Connect 0) ((j, Accept) ∷ []) (omega arith) (one_leveled j Accept tt)
row_leveled n w d f h (Awake up lt r) = awake_leveled f h r
