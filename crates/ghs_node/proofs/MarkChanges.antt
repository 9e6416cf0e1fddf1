-- What a reaction does to the marks.
use Rattle.std.proofs.Common.{◌≡◌, ◌≢◌, ℕ, ◌<◌, ◌≤◌, List, length, refl, sym, ap, ◌∙◌, cond, ⊎_elim, arith, Option, Some, None, get_or-set_same, get_or-set_other, length-set, set, get_or, ◌⊎◌, inl, inr}
use Rattle.std.specs.List.{position_or_len}
use Rattle.std.proofs.lemmas.Bool.{cases_eq, cases_lt, lt-ltb, le-ltb}
use Rattle.std.proofs.lemmas.List.Sums.{position_or_len_is}
use Rattle.std.proofs.lemmas.List.{get_or_past}
use Rattle.std.proofs.lemmas.Option.{same_Some}
use Rattle.ghs_graph.specs.declared.key.Key.{Key}
use Rattle.ghs_node.specs.declared.mark.Mark.{Mark}
use Rattle.ghs_node.specs.declared.mark.Mark.TheVariants.{Basic, Branch, Rejected}
use Rattle.ghs_node.specs.declared.message.Message.{Message}
use Rattle.ghs_node.specs.declared.delta.Delta.{Delta}
use Rattle.ghs_node.specs.declared.work.Work.{Work}
use Rattle.ghs_node.specs.Words.{Best, is_basic, least_basic}
use Rattle.ghs_node.specs.NodeState.{NodeState, IsNode, BestIsBelow, mark_at, degree, with_mark}
use Rattle.ghs_node.specs.Reaction.{reject_at, root_mark, IsReaction}
use Rattle.ghs_node.specs.Rows.{AwakeRow, Connect_absorbed, Test_rejected, Tests_cross, Reject_heard, Report_moves_root, Root_moves, Row, Wakes, Wakes_alone, Woken_merges, Woken_connect_waits, Woken_test_waits, Woken_accepts, Awake}
use Rattle.ghs_node.specs.Laws.{MarkChange, Stays, To_branch, To_rejected}
use Rattle.ghs_node.proofs.Inversion.{reaction_inverts}
use Rattle.ghs_node.proofs.Tests.{is_basic_not}

-- as many marks as before
pub length-with_mark : (ms : List Mark) (o : Option (ℕ × Mark)) → length (with_mark ms o) ≡ length ms
length-with_mark ms None = refl
length-with_mark ms (Some m) = length-set ms m.0 m.1

reject_change : (n : NodeState) (j : ℕ) → j < degree n → MarkChange n (reject_at n j)
reject_change n j lt = go (mark_at n j) refl
  where
    go : (k : Mark) → mark_at n j ≡ k → MarkChange n (cond (is_basic k) (Some (j, Rejected)) None)
    go Basic e = To_rejected j lt e
    go Branch e = Stays
    go Rejected e = Stays

root_change : (n : NodeState) (b : ℕ) → b < degree n → MarkChange n (root_mark (mark_at n b) b)
root_change n b lt = go (mark_at n b)
  where
    go : (k : Mark) → MarkChange n (root_mark k b)
    go Basic = To_branch b lt
    go Branch = Stays
    go Rejected = To_branch b lt

-- the port of the best link is one
pub best_below : (d b : ℕ) (k : Key) (o : Best) → o ≡ Some (b, k) → BestIsBelow d o → b < d
best_below d b k None e h = absurd cc
best_below d b k (Some c) e h = let z : c.0 ≡ b = cc in omega arith

-- how a row of a node that is awake changes a mark
pub awake_marks : {n : NodeState} {j : ℕ} {m : Message} {d : Delta} → IsNode n → j < degree n → AwakeRow n j m d → MarkChange n d.mark
awake_marks f lt (Connect_absorbed {j = j} a b) = To_branch j lt
awake_marks f lt (Test_rejected {j = j} a b c) = reject_change _ j lt
awake_marks f lt (Tests_cross {j = j} a b c s) = reject_change _ j lt
awake_marks f lt (Reject_heard {j = j} a s) = reject_change _ j lt
awake_marks f lt (Report_moves_root b k i p e a) = root_change _ b (best_below _ b k _ e f.best)
awake_marks f lt (Root_moves b k e) = root_change _ b (best_below _ b k _ e f.best)
awake_marks f lt _ = Stays

pub row_marks : (n : NodeState) (w : Work) (d : Delta) → IsNode n → Row n w d → MarkChange n d.mark
row_marks n w d f (Wakes s lt) = To_branch 0 lt
row_marks n w d f (Wakes_alone s e) = Stays
row_marks n w d f (Woken_merges s lt) = To_branch 0 lt
row_marks n w d f (Woken_connect_waits s lt ne) = To_branch 0 (omega arith)
row_marks n w d f (Woken_test_waits s lt l) = To_branch 0 (omega arith)
row_marks n w d f (Woken_accepts s lt) = To_branch 0 (omega arith)
row_marks n w d f (Awake up lt r) = awake_marks f lt r

-- a mark after one was set: as it was, or the one that was set
pub mark_set : (ms : List Mark) (p q : ℕ) (k : Mark)
    → (get_or (set ms p k) q Rejected ≡ get_or ms q Rejected) ⊎ ((q ≡ p) × (get_or (set ms p k) q Rejected ≡ k))
mark_set ms p q k = ⊎_elim same other (cases_eq q p)
  where
    past : q ≡ p → length ms ≤ p → get_or (set ms p k) q Rejected ≡ get_or ms q Rejected
    past e le = get_or_past (set ms p k) q Rejected (omega (arith, length-set ms p k)) ∙ sym (get_or_past ms q Rejected (omega arith))

    same : q ≡ p → (get_or (set ms p k) q Rejected ≡ get_or ms q Rejected) ⊎ ((q ≡ p) × (get_or (set ms p k) q Rejected ≡ k))
    same e = ⊎_elim (λ lt. inr (e, rw e (get_or-set_same ms p k Rejected lt))) (λ le. inl (past e le)) (cases_lt p (length ms))

    other : q ≢ p → (get_or (set ms p k) q Rejected ≡ get_or ms q Rejected) ⊎ ((q ≡ p) × (get_or (set ms p k) q Rejected ≡ k))
    other ne = inl (get_or-set_other ms p q k Rejected ne)

-- a Branch mark stays where a mark changes so
pub branch_stays : (n : NodeState) (o : Option (ℕ × Mark)) (q : ℕ) → MarkChange n o → mark_at n q ≡ Branch
    → get_or (with_mark n.marks o) q Rejected ≡ Branch
branch_stays n None q Stays h = h
branch_stays n _ q (To_branch p lt) h = ⊎_elim (λ e. e ∙ h) (λ e. e.1) (mark_set n.marks p q Branch)
branch_stays n _ q (To_rejected p lt b) h = ⊎_elim (λ e. e ∙ h) (λ e. absurd (clash e.0)) (mark_set n.marks p q Rejected)
  where
    clash : q ≡ p → ⊥
    clash e = cc

-- the mark that a reaction changes is that of a port
pub reaction_port : (n : NodeState) (d : Delta) (p : ℕ) (m : Mark) → IsNode n → IsReaction n d → d.mark ≡ Some (p, m) → p < degree n
reaction_port n d p m f r e = go d.mark e (row_marks n r.work d f (reaction_inverts n r.work d r.port r.is))
  where
    go : (o : Option (ℕ × Mark)) → o ≡ Some (p, m) → MarkChange n o → p < degree n
    go None x c = cc
    go _ x (To_branch q lt) = let z = ap (λ (y : ℕ × Mark). y.0) (same_Some _ _ x) in omega arith
    go _ x (To_rejected q lt b) = let z = ap (λ (y : ℕ × Mark). y.0) (same_Some _ _ x) in omega arith

-- the least Basic port, found by looking at the ports in turn
pub least_basic_at : (ms : List Mark) (i : ℕ) → i < length ms → get_or ms i Rejected ≡ Basic → ((k : ℕ) → k < i → get_or ms k Rejected ≢ Basic)
    → least_basic ms ≡ Some i
least_basic_at ms i lt e below =
    let at : position_or_len is_basic ms ≡ i =
    position_or_len_is is_basic ms i Rejected (omega arith) (λ k h. is_basic_not _ (below k h)) (λ h. rw e) in
    rw (at, lt-ltb i (length ms) lt)

pub least_basic_none : (ms : List Mark) (i : ℕ) → length ms ≤ i → ((k : ℕ) → k < i → get_or ms k Rejected ≢ Basic) → least_basic ms ≡ None
least_basic_none ms i le below =
    let at : position_or_len is_basic ms ≡ length ms =
    position_or_len_is is_basic ms (length ms) Rejected (omega arith) (λ k h. is_basic_not _ (below k (omega arith))) (λ h. absurd (omega arith)) in
    rw (at, le-ltb (length ms) (length ms) (omega arith))
