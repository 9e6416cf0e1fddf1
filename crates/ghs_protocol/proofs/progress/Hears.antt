-- What a node that probes waits for, and what it does when that comes; which messages are consumed, and what halts a node.
use Rattle.std.proofs.Common.{◌≡◌, ◌≢◌, ◌⊎◌, inl, inr, ℕ, ◌<◌, ◌≤◌, true, false, Some, None, [], refl, sym, ◌∙◌, subst, ⊎_elim, arith}
use Rattle.std.proofs.lemmas.List.Quantifiers.{position-Some}
use Rattle.std.proofs.lemmas.Option.{same_Some}
use Rattle.ghs_node.specs.declared.delta.Delta.{Delta}
use Rattle.ghs_node.specs.declared.delta.Fate.TheVariants.{Consumed}
use Rattle.ghs_node.specs.declared.head.Head.{Head}
use Rattle.ghs_node.specs.declared.mark.Mark.TheVariants.{Basic, Rejected}
use Rattle.ghs_node.specs.declared.message.Message.{Message}
use Rattle.ghs_node.specs.declared.message.Message.TheVariants.{Connect, Initiate, Test, Accept, Reject, Report, ChangeRoot}
use Rattle.ghs_node.specs.declared.message.Phase.TheVariants.{Sleeping, Find}
use Rattle.ghs_node.specs.NodeState.{NodeState, degree, mark_at}
use Rattle.ghs_node.specs.Reaction.{Ending, after, ends, no_probe, searching, passed_on}
use Rattle.ghs_node.specs.Rows.{AwakeRow, Settles, Probes, Exhausts, Connect_absorbed, Connect_waits, Connect_merges, Initiate_rests, Initiate_searches, Test_waits, Test_accepted, Test_rejected, Tests_cross, Accept_heard, Reject_heard, Report_heard, Report_waits, Report_moves_root, Report_halts, Report_passes, Root_moves}
use Rattle.ghs_node.specs.Words.{is_basic}
use Rattle.ghs_node.proofs.lemmas.{basic_is}
use Rattle.ghs_protocol.specs.Living as living
use Rattle.ghs_protocol.specs.Time.{is_tree}
use Rattle.ghs_protocol.proofs.progress.Bills.{MovesOn, closed_probe, is_call, settles_on}
use Rattle.ghs_protocol.proofs.progress.Requeues.{fate_is}
use Rattle.ghs_protocol.proofs.rows.Read.{other_name}

-- a Test that doesn't wait at a node of level l
abbrev pub IsTestBy : ℕ → Message → Type 0
IsTestBy l (Connect k) = ⊥
IsTestBy l (Initiate k f s) = ⊥
IsTestBy l (Test k f) = k ≤ l
IsTestBy l Accept = ⊥
IsTestBy l Reject = ⊥
IsTestBy l (Report k) = ⊥
IsTestBy l ChangeRoot = ⊥

-- what ends a probe at the node's own port: an answer, or a Test of its level and name, which its own has crossed
abbrev pub IsAnswer : Head → Message → Type 0
IsAnswer h (Connect k) = ⊥
IsAnswer h (Initiate k f s) = ⊥
IsAnswer h (Test k f) = (k ≡ h.level) × (h.name ≡ Some f)
IsAnswer h Accept = Unit {0}
IsAnswer h Reject = Unit {0}
IsAnswer h (Report k) = ⊥
IsAnswer h ChangeRoot = ⊥

-- neither waits
pub test_free : (n : NodeState) (p : ℕ) (m : Message) → IsTestBy n.head.level m → living.Waits n p m → ⊥
test_free n p _ i (living.Connect_waits a le b) = i
test_free n p _ i (living.Test_waits a lt) = omega (arith, lt, i)
test_free n p _ i (living.Report_waits a f) = i

pub answer_free : (n : NodeState) (p : ℕ) (m : Message) → IsAnswer n.head m → living.Waits n p m → ⊥
answer_free n p _ i (living.Connect_waits a le b) = i
answer_free n p _ i (living.Test_waits a lt) = let e = i.0 in omega (arith, lt, e)
answer_free n p _ i (living.Report_waits a f) = i

-- nor does an Initiate
call_free : (n : NodeState) (p : ℕ) (m : Message) → living.Waits n p m → is_call m ≡ false
call_free n p _ (living.Connect_waits a le b) = refl
call_free n p _ (living.Test_waits a lt) = refl
call_free n p _ (living.Report_waits a f) = refl

pub call_goes : (n : NodeState) (p : ℕ) (m : Message) → is_call m ≡ true → living.Waits n p m → ⊥
call_goes n p m e z = let y : true ≡ false = sym e ∙ call_free n p m z in cc

pub call_tree : (m : Message) → is_call m ≡ true → is_tree m ≡ true
call_tree (Connect k) e = cc
call_tree (Initiate k f s) e = refl
call_tree (Test k f) e = cc
call_tree Accept e = cc
call_tree Reject e = cc
call_tree (Report k) e = cc
call_tree ChangeRoot e = cc

-- what doesn't wait is consumed
pub free_consumed : (n : NodeState) (j : ℕ) (m : Message) (d : Delta) → n.head.phase ≢ Sleeping → AwakeRow n j m d → (living.Waits n j m → ⊥) →
    d.fate ≡ Consumed
free_consumed n j m d up row free = ⊎_elim (λ e. e) (λ z. absurd (free z)) (fate_is n j m d up row)

-- when it comes, the probe moves on, or is over
pub row_hears : (n : NodeState) (j : ℕ) (m : Message) (d : Delta) → j < degree n → AwakeRow n j m d → n.head.probe ≡ Some j → IsAnswer n.head m →
    (q : ℕ) → d.head.probe ≡ Some q → MovesOn n j d q
row_hears n j m _ lt (Connect_absorbed x few) was a q e = absurd a
row_hears n j m _ lt (Connect_waits le b) was a q e = absurd a
row_hears n j m _ lt (Connect_merges le ne x) was a q e = absurd a
row_hears n j m _ lt (Initiate_rests x) was a q e = absurd a
row_hears n j m _ lt (Initiate_searches x few s) was a q e = absurd a
row_hears n j m _ lt (Test_waits x) was a q e = absurd (let y = a.0 in omega (arith, x, y))
row_hears n j (Test k f) _ lt (Test_accepted le x) was a q e = absurd (other_name n.head.name f x a.1)
row_hears n j m _ lt (Test_rejected le x y) was a q e = absurd (y was)
row_hears n j m _ lt (Tests_cross le x y s) was a q e = settles_on n j _ lt y s q e
row_hears n j m _ lt (Accept_heard x c) was a q e = absurd (let z : None ≡ Some q = sym (closed_probe _ None [] _ c) ∙ e in cc)
row_hears n j m _ lt (Reject_heard x s) was a q e = settles_on n j _ lt x s q e
row_hears n j m _ lt (Report_heard c x y z) was a q e = absurd a
row_hears n j m _ lt (Report_waits x y) was a q e = absurd a
row_hears n j m _ lt (Report_moves_root b k x y z t) was a q e = absurd a
row_hears n j m _ lt (Report_halts x y z) was a q e = absurd a
row_hears n j m _ lt (Report_passes x y z t) was a q e = absurd a
row_hears n j m _ lt (Root_moves b k x) was a q e = absurd a

-- a node that stays at its level keeps its name
pub row_names : (n : NodeState) (j : ℕ) (m : Message) (d : Delta) → AwakeRow n j m d → d.head.level ≡ n.head.level → d.head.name ≡ n.head.name
row_names n j m _ (Connect_absorbed x few) e = refl
row_names n j m _ (Connect_waits le b) e = refl
row_names n j m _ (Connect_merges le ne x) e = refl
row_names n j m _ (Initiate_rests x) e = absurd (omega (arith, x, e))
row_names n j m _ (Initiate_searches x few s) e = absurd (omega (arith, x, e))
row_names n j m _ (Test_waits x) e = refl
row_names n j m _ (Test_accepted le x) e = refl
row_names n j m _ (Test_rejected le x y) e = refl
row_names n j m _ (Tests_cross le x y s) e = refl
row_names n j m _ (Accept_heard x c) e = refl
row_names n j m _ (Reject_heard x s) e = refl
row_names n j m _ (Report_heard c x y z) e = refl
row_names n j m _ (Report_waits x y) e = refl
row_names n j m _ (Report_moves_root b k x y z t) e = refl
row_names n j m _ (Report_halts x y z) e = refl
row_names n j m _ (Report_passes x y z t) e = refl
row_names n j m _ (Root_moves b k x) e = refl

-- only a Report halts a node
pub row_halts_tree : (n : NodeState) (j : ℕ) (m : Message) (d : Delta) → AwakeRow n j m d → d.head.halted ≡ true → n.head.halted ≢ true →
    (is_tree m ≡ true) × (d.fate ≡ Consumed)
row_halts_tree n j m _ (Connect_absorbed x few) h ne = absurd (ne h)
row_halts_tree n j m _ (Connect_waits le b) h ne = absurd (ne h)
row_halts_tree n j m _ (Connect_merges le nb x) h ne = absurd (ne h)
row_halts_tree n j m _ (Initiate_rests x) h ne = absurd (ne h)
row_halts_tree n j m _ (Initiate_searches x few s) h ne = absurd (ne h)
row_halts_tree n j m _ (Test_waits x) h ne = absurd (ne h)
row_halts_tree n j m _ (Test_accepted le x) h ne = absurd (ne h)
row_halts_tree n j m _ (Test_rejected le x y) h ne = absurd (ne h)
row_halts_tree n j m _ (Tests_cross le x y s) h ne = absurd (ne h)
row_halts_tree n j m _ (Accept_heard x c) h ne = absurd (ne h)
row_halts_tree n j m _ (Reject_heard x s) h ne = absurd (ne h)
row_halts_tree n j m _ (Report_heard c x y z) h ne = absurd (ne h)
row_halts_tree n j m _ (Report_waits x y) h ne = absurd (ne h)
row_halts_tree n j m _ (Report_moves_root b k x y z t) h ne = absurd (ne h)
row_halts_tree n j m _ (Report_halts x y z) h ne = (refl, refl)
row_halts_tree n j m _ (Report_passes x y z t) h ne = absurd (ne h)
row_halts_tree n j m _ (Root_moves b k x) h ne = absurd (ne h)

-- A node that searches probes a Basic port, or the one that it probed before, and its way to the core is the same.
begins_basic : (n : NodeState) (h : Head) (s : _) (e : Ending) → Settles n.marks (no_probe h) e → (q : ℕ) →
    (ends (no_probe h) None s e).head.probe ≡ Some q → mark_at n q ≡ Basic
begins_basic n h s _ (Probes p least) q e =
    let z = position-Some is_basic n.marks p Rejected least in
    subst (λ y. mark_at n y ≡ Basic) (same_Some p q e) (basic_is _ z.1)
begins_basic n h s e (Exhausts x c) q i = absurd (let z : None ≡ Some q = sym (closed_probe (no_probe h) None s e c) ∙ i in cc)

abbrev pub ProbedSo : NodeState → Delta → ℕ → Type 0
ProbedSo n d q = (mark_at (after n d) q ≡ Basic) ⊎ ((n.head.probe ≡ Some q) × (d.head.in_branch ≡ n.head.in_branch))

pub row_probes : (n : NodeState) (j : ℕ) (m : Message) (d : Delta) → j < degree n → AwakeRow n j m d → d.head.phase ≡ Find →
    (q : ℕ) → d.head.probe ≡ Some q → ProbedSo n d q
row_probes n j m _ lt (Connect_absorbed x few) f q e = inr (e, refl)
row_probes n j m _ lt (Connect_waits le b) f q e = inr (e, refl)
row_probes n j m _ lt (Connect_merges le ne x) f q e = inr (e, refl)
row_probes n j m _ lt (Initiate_rests x) f q e = cc
row_probes n j (Initiate l k _) _ lt (Initiate_searches x few s) f q e = inl (begins_basic n (searching n j l k) (passed_on n j l k Find) _ s q e)
row_probes n j m _ lt (Test_waits x) f q e = inr (e, refl)
row_probes n j m _ lt (Test_accepted le x) f q e = inr (e, refl)
row_probes n j m _ lt (Test_rejected le x y) f q e = inr (e, refl)
row_probes n j m _ lt (Tests_cross le x y s) f q e = inl (settles_on n j _ lt y s q e).next
row_probes n j m _ lt (Accept_heard x c) f q e = absurd (let z : None ≡ Some q = sym (closed_probe _ None [] _ c) ∙ e in cc)
row_probes n j m _ lt (Reject_heard x s) f q e = inl (settles_on n j _ lt x s q e).next
row_probes n j m _ lt (Report_heard c x y z) f q e = inr (sym (closed_probe _ None [] _ z) ∙ e, refl)
row_probes n j m _ lt (Report_waits x y) f q e = inr (e, refl)
row_probes n j m _ lt (Report_moves_root b k x y z t) f q e = inr (e, refl)
row_probes n j m _ lt (Report_halts x y z) f q e = inr (e, refl)
row_probes n j m _ lt (Report_passes x y z t) f q e = inr (e, refl)
row_probes n j m _ lt (Root_moves b k x) f q e = inr (e, refl)
