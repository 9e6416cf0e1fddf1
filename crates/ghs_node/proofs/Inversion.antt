-- Each reaction is one of the table's rows.
use Rattle.std.proofs.Common.{◌≡◌, ◌≢◌, ℕ, zero, suc, ◌-◌, ◌<◌, ◌≤◌, Bool, true, false, not, ◌&&◌, ◌||◌, ◌==◌, nat_lt, nat_le, Option, Some, None, List, [], ◌∷◌, length, refl, sym, ap, subst, cond, ltb-true, ltb-false, leb-true, eqb-true, sub-one, arith, if◌then◌else◌}
use Rattle.std.proofs.lemmas.Bool.{eqb-false}
use Rattle.std.proofs.lemmas.Option.{same_Some}
use Rattle.ghs_graph.specs.declared.key.Key.{Key}
use Rattle.ghs_node.specs.declared.head.Head.{Head}
use Rattle.ghs_node.specs.declared.mark.Mark.{Mark}
use Rattle.ghs_node.specs.declared.message.Phase.{Phase}
use Rattle.ghs_node.specs.declared.message.Phase.TheVariants.{Sleeping, Find, Found}
use Rattle.ghs_node.specs.declared.message.Message.{Message}
use Rattle.ghs_node.specs.declared.message.Message.TheVariants.{Connect, Initiate, Test, Accept, Reject, Report, ChangeRoot}
use Rattle.ghs_node.specs.declared.delta.Delta.{Delta}
use Rattle.ghs_node.specs.declared.work.Work.{Work}
use Rattle.ghs_node.specs.declared.work.Work.TheVariants.{Wake, Deliver}
use Rattle.ghs_node.specs.Words.{Best, below, is_name, is_basic, is_at, is_missing, is_sleeping, is_find, is_zero, least_basic, best_key}
use Rattle.ghs_node.specs.NodeState.{NodeState, mark_at, degree, with_mark}
use Rattle.ghs_node.specs.Reaction.{Reporting, Waiting, close_ending, settle_ending, does, stops, closes, heard, reject_at, moves_root, root_to, within_degree, awake, asleep, reaction, at_wake, HasPort}
use Rattle.ghs_node.specs.Rows.{Closes, Reports, Waits, Settles, Probes, Exhausts, AwakeRow, Connect_absorbed, Connect_waits, Connect_merges, Initiate_rests, Initiate_searches, Test_waits, Test_accepted, Test_rejected, Tests_cross, Accept_heard, Reject_heard, Report_heard, Report_waits, Report_moves_root, Report_halts, Report_passes, Root_moves, Row, Wakes, Wakes_alone, Woken_merges, Woken_connect_waits, Woken_test_waits, Woken_accepts, Awake}
use Rattle.ghs_node.proofs.Tests.{by_test, no_delta, both_true, not_true, not_false, zero_is, missing_is, at_is, at_not, basic_is, basic_not, sleeping_is, sleeping_not, find_is, found_is}

pub close_inverts : (h : Head) → Closes h (close_ending h)
close_inverts h = go (is_zero h.find_count && is_missing h.probe) refl
  where
    go : (b : Bool) → (is_zero h.find_count && is_missing h.probe) ≡ b → Closes h (cond b Reporting Waiting)
    go true e = let t = both_true _ _ e in Reports (zero_is h.find_count t.0) (missing_is h.probe t.1)
    go false e = Waits e

pub settle_inverts : (ms : List Mark) (h : Head) → Settles ms h (settle_ending (least_basic ms) h)
settle_inverts ms h = go (least_basic ms) refl
  where
    go : (o : Option ℕ) → least_basic ms ≡ o → Settles ms h (settle_ending o h)
    go None e = Exhausts e (close_inverts h)
    go (Some p) e = Probes p e

-- a core that moves has a best link
pub root_inverts : (n : NodeState) (d : Delta) {P : Type 0} → root_to n n.head.best ≡ Some d
    → ((b : ℕ) (k : Key) → n.head.best ≡ Some (b, k) → moves_root n b ≡ d → P) → P
root_inverts n d {P} e f = go n.head.best refl e
  where
    go : (o : Best) → n.head.best ≡ o → root_to n o ≡ Some d → P
    go None h x = no_delta d x
    go (Some b) h x = f b.0 b.1 h (same_Some _ _ x)

-- a reaction that kept within the degree
pub within_inverts : {P : Type 0} (n : NodeState) (d d' : Delta) → (d.head.find_count ≤ degree n → d ≡ d' → P) → within_degree n d ≡ Some d' → P
within_inverts n d d' f e =
    by_test (nat_le d.head.find_count (degree n)) _ _ d' (λ t x. f (leb-true _ _ t) (same_Some _ _ x)) (λ t x. no_delta d' x) e

module _ (n : NodeState) (j : ℕ) where
  connect_row : (l : ℕ) (d : Delta) → awake n j (Connect l) ≡ Some d → AwakeRow n j (Connect l) d
  connect_row l d e =
      by_test (nat_lt l n.head.level) _ _ d
      (λ t x. within_inverts n _ d (λ few y. subst (AwakeRow n j (Connect l)) y (Connect_absorbed (ltb-true _ _ t) few)) x)
      (λ t x.
      by_test (is_basic (mark_at n j)) _ _
      d (λ b y. subst (AwakeRow n j (Connect l)) (same_Some _ _ y) (Connect_waits (ltb-false _ _ t) (basic_is _ b)))
      (λ b y.
      by_test (nat_lt n.head.level 20) _ _ d
      (λ c z. subst (AwakeRow n j (Connect l)) (same_Some _ _ z) (Connect_merges (ltb-false _ _ t) (basic_not _ b) (ltb-true _ _ c)))
      (λ c z. no_delta d z) y)
      x) e

  initiate_row : (l : ℕ) (f : Key) (s : Phase) (d : Delta) → awake n j (Initiate l f s) ≡ Some d → AwakeRow n j (Initiate l f s) d
  initiate_row l f Sleeping d e = by_test (nat_lt n.head.level l) _ _ d (λ t x. no_delta d x) (λ t x. no_delta d x) e
  initiate_row l f Found d e =
      by_test (nat_lt n.head.level l) _ _ d (λ t x. subst (AwakeRow n j (Initiate l f Found)) (same_Some _ _ x) (Initiate_rests (ltb-true _ _ t)))
      (λ t x. no_delta d x) e
  initiate_row l f Find d e =
      by_test (nat_lt n.head.level l) _ _ d
      (λ t x.
      within_inverts n _ d
      (λ few y. subst (AwakeRow n j (Initiate l f Find)) y (Initiate_searches (ltb-true _ _ t) few (settle_inverts n.marks _))) x)
      (λ t x. no_delta d x) e

  test_row : (l : ℕ) (f : Key) (d : Delta) → awake n j (Test l f) ≡ Some d → AwakeRow n j (Test l f) d
  test_row l f d e =
      by_test (nat_lt n.head.level l) _ _ d (λ t x. subst (AwakeRow n j (Test l f)) (same_Some _ _ x) (Test_waits (ltb-true _ _ t)))
      (λ t x.
      by_test (not (is_name n.head.name f)) _ _
      d (λ a y. subst (AwakeRow n j (Test l f)) (same_Some _ _ y) (Test_accepted (ltb-false _ _ t) (not_true _ a)))
      (λ a y. by_test (not (is_at n.head.probe j)) _ _ d
      (λ b z. subst (AwakeRow n j (Test l f)) (same_Some _ _ z) (Test_rejected (ltb-false _ _ t) (not_false _ a) (at_not _ _ (not_true _ b))))
      (λ b z.
      subst (AwakeRow n j (Test l f)) (same_Some _ _ z)
      (Tests_cross (ltb-false _ _ t) (not_false _ a) (at_is _ _ (not_false _ b)) (settle_inverts (with_mark n.marks (reject_at n j)) _)))
      y) x) e

  accept_row : (d : Delta) → awake n j Accept ≡ Some d → AwakeRow n j Accept d
  accept_row d e =
      by_test (is_at n.head.probe j) _ _ d (λ t x. subst (AwakeRow n j Accept) (same_Some _ _ x) (Accept_heard (at_is _ _ t) (close_inverts _)))
      (λ t x. no_delta d x) e

  reject_row : (d : Delta) → awake n j Reject ≡ Some d → AwakeRow n j Reject d
  reject_row d e =
      by_test (is_at n.head.probe j) _ _ d
      (λ t x. subst (AwakeRow n j Reject) (same_Some _ _ x) (Reject_heard (at_is _ _ t) (settle_inverts (with_mark n.marks (reject_at n j)) _)))
      (λ t x. no_delta d x) e

  heard_row : (w : Option Key) (d : Delta) (c : ℕ) → n.head.find_count ≡ c → n.head.in_branch ≢ Some j
      → (if is_zero c then None else Some (closes (heard n.head (c - 1) j w) None [])) ≡ Some d → AwakeRow n j (Report w) d
  heard_row w d zero h ne e = no_delta d e
  heard_row w d (suc c) h ne e = subst (AwakeRow n j (Report w)) (same_Some _ _ (rw sub-one at e)) (Report_heard c ne h (close_inverts _))

  passing_row : (w : Option Key) (d : Delta) (o : Best) → n.head.in_branch ≡ Some j → n.head.phase ≡ Found → n.head.best ≡ o
      → below (best_key o) w ≡ false → (if below w None || below (best_key o) None then Some (does n.head None []) else Some (stops n.head)) ≡ Some d
      → AwakeRow n j (Report w) d
  passing_row None d None i p h b e = subst (AwakeRow n j (Report None)) (same_Some _ _ e) (Report_halts i p h)
  passing_row (Some k) d o i p h b e = subst (AwakeRow n j (Report (Some k))) (same_Some _ _ e) (Report_passes i p (rw h b) (λ x. cc))
  passing_row None d (Some k) i p h b e = subst (AwakeRow n j (Report None)) (same_Some _ _ e) (Report_passes i p (rw h b) (λ x y. cc))

  report_row : (w : Option Key) (d : Delta) → n.head.phase ≢ Sleeping → awake n j (Report w) ≡ Some d → AwakeRow n j (Report w) d
  report_row w d up e =
      by_test (not (is_at n.head.in_branch j)) _ _ d (λ t x. heard_row w d n.head.find_count refl (at_not _ _ (not_true _ t)) x)
      (λ t x.
      by_test (is_find n.head.phase) _ _
      d (λ a y. subst (AwakeRow n j (Report w)) (same_Some _ _ y) (Report_waits (at_is _ _ (not_false _ t)) (find_is _ a)))
      (λ a y. by_test (below (best_key n.head.best) w) _ _ d
      (λ b z.
      root_inverts n d z
      (λ p k h x. subst (AwakeRow n j (Report w)) x (Report_moves_root p k (at_is _ _ (not_false _ t)) (found_is _ up a) h (rw h at b))))
      (λ b z. passing_row w d n.head.best (at_is _ _ (not_false _ t)) (found_is _ up a) refl b z) y) x) e

  -- what a node that is awake does is a row of such a node
  pub awake_inverts : (m : Message) (d : Delta) → n.head.phase ≢ Sleeping → awake n j m ≡ Some d → AwakeRow n j m d
  awake_inverts (Connect l) d up e = connect_row l d e
  awake_inverts (Initiate l f s) d up e = initiate_row l f s d e
  awake_inverts (Test l f) d up e = test_row l f d e
  awake_inverts Accept d up e = accept_row d e
  awake_inverts Reject d up e = reject_row d e
  awake_inverts (Report w) d up e = report_row w d up e
  awake_inverts ChangeRoot d up e = root_inverts n d e (λ p k h x. subst (AwakeRow n j ChangeRoot) x (Root_moves p k h))

  -- at port 0, and at another
  woken_connect : (i l : ℕ) (d : Delta) → n.head.phase ≡ Sleeping → i < degree n → asleep n i (Connect l) ≡ Some d → Row n (Deliver i (Connect l)) d
  woken_connect i l d s lt e =
      by_test (i == 0) _ _ d
      (λ t x.
      let z = sym (eqb-true i 0 t) in
      subst (λ (i : ℕ). Row n (Deliver i (Connect l)) d) z
      (subst (Row n (Deliver 0 (Connect l))) (same_Some _ _ x) (Woken_merges s (omega arith))))
      (λ t x. subst (Row n (Deliver i (Connect l))) (same_Some _ _ x) (Woken_connect_waits s lt (eqb-false i 0 t))) e

  woken_test : (l : ℕ) (f : Key) (d : Delta) → n.head.phase ≡ Sleeping → j < degree n → asleep n j (Test l f) ≡ Some d
      → Row n (Deliver j (Test l f)) d
  woken_test l f d s lt e =
      by_test (l == 0) _ _ d
      (λ t x.
      let z = sym (eqb-true l 0 t) in
      subst (λ (k : ℕ). Row n (Deliver j (Test k f)) d) z (subst (Row n (Deliver j (Test 0 f))) (same_Some _ _ x) (Woken_accepts s lt)))
      (λ t x. let ne = eqb-false l 0 t in subst (Row n (Deliver j (Test l f))) (same_Some _ _ x) (Woken_test_waits s lt (omega arith))) e

  asleep_inverts : (m : Message) (d : Delta) → n.head.phase ≡ Sleeping → j < degree n → asleep n j m ≡ Some d → Row n (Deliver j m) d
  asleep_inverts (Connect l) d s lt e = woken_connect j l d s lt e
  asleep_inverts (Test l f) d s lt e = woken_test l f d s lt e
  asleep_inverts _ d s lt e = no_delta d e

wake_inverts : (n : NodeState) (ms : List Mark) → n.marks ≡ ms → n.head.phase ≡ Sleeping → Row n Wake (at_wake n ms)
wake_inverts n [] e s = Wakes_alone s (ap length e)
wake_inverts n (m ∷ ms) e s = Wakes s (rw e (omega arith))

-- what a node does is a row of the table
pub reaction_inverts : (n : NodeState) (w : Work) (d : Delta) → HasPort n w → reaction n w ≡ Some d → Row n w d
reaction_inverts n Wake d h e =
    by_test (is_sleeping n.head.phase) _ _ d (λ t x. subst (Row n Wake) (same_Some _ _ x) (wake_inverts n n.marks refl (sleeping_is _ t)))
    (λ t x. no_delta d x) e
reaction_inverts n (Deliver j m) d h e =
    by_test (is_sleeping n.head.phase) _ _ d (λ t x. asleep_inverts n j m d (sleeping_is _ t) h x)
    (λ t x. Awake (sleeping_not _ t) h (awake_inverts n j m d (sleeping_not _ t) x)) e
