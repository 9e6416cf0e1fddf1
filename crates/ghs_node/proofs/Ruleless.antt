-- Work without a reaction is on the list.
use Rattle.std.proofs.Common.{◌≡◌, ◌≢◌, ℕ, ◌<◌, ◌≤◌, true, not, ◌||◌, ◌==◌, refl, arith, Option, Some, None, nat_lt, nat_le, ltb-true, ltb-false, leb-false}
use Rattle.std.proofs.lemmas.Bool.{false≢true}
use Rattle.ghs_graph.specs.declared.key.Key.{Key}
use Rattle.ghs_node.specs.declared.message.Phase.{Phase}
use Rattle.ghs_node.specs.declared.message.Phase.TheVariants.{Sleeping, Find, Found}
use Rattle.ghs_node.specs.declared.message.Message.{Message}
use Rattle.ghs_node.specs.declared.message.Message.TheVariants.{Connect, Initiate, Test, Accept, Reject, Report, ChangeRoot}
use Rattle.ghs_node.specs.declared.work.Work.{Work}
use Rattle.ghs_node.specs.declared.work.Work.TheVariants.{Wake, Deliver}
use Rattle.ghs_node.specs.Words.{Best, below, is_name, is_basic, is_at, is_sleeping, is_find, is_zero, best_key}
use Rattle.ghs_node.specs.NodeState.{NodeState, mark_at, degree}
use Rattle.ghs_node.specs.Reaction.{root_to, at_initiate, absorbs, searching, awake, asleep, reaction}
use Rattle.ghs_node.specs.NoRule.{NoRule, An_initiate, An_accept, A_reject, A_report, A_change_root, Already_awake, Still_asleep, Initiate_too_low, Initiate_to_sleep, Accept_untested, Reject_untested, Report_unowed, Root_without_best, Merge_above_levels, Absorbs_too_many, Searches_too_many}
use Rattle.ghs_node.proofs.Tests.{none_by, a_delta, not_true, zero_is, at_not, basic_not, sleeping_is, sleeping_not}

module _ (n : NodeState) (j : ℕ) (up : n.head.phase ≢ Sleeping) where
  connect_ruleless : (l : ℕ) → n.head.level ≤ 20 → awake n j (Connect l) ≡ None → NoRule n (Deliver j (Connect l))
  connect_ruleless l top e =
      none_by (nat_lt l n.head.level) _ _
      (λ t x.
      none_by (nat_le (absorbs n j).head.find_count (degree n)) _ _ (λ a y. a_delta _ y)
      (λ a y. Absorbs_too_many up (ltb-true _ _ t) (leb-false _ _ a)) x)
      (λ t x. none_by (is_basic (mark_at n j)) _ _ (λ a y. a_delta _ y)
      (λ a y.
      none_by (nat_lt n.head.level 20) _ _ (λ b z. a_delta _ z)
      (λ b z. let le = ltb-false _ _ b in let ge = ltb-false _ _ t in Merge_above_levels up (omega arith) (omega arith) (basic_not _ a)) y)
      x) e

  initiate_ruleless : (l : ℕ) (f : Key) (s : Phase) → awake n j (Initiate l f s) ≡ None → NoRule n (Deliver j (Initiate l f s))
  initiate_ruleless l f s e = none_by (nat_lt n.head.level l) _ _ (λ t x. start s (ltb-true _ _ t) x) (λ t x. Initiate_too_low up (ltb-false _ _ t)) e
    where
      start : (s : Phase) → n.head.level < l → at_initiate n j l f s ≡ None → NoRule n (Deliver j (Initiate l f s))
      start Sleeping lt x = Initiate_to_sleep up
      start Found lt x = a_delta _ x
      start Find lt x =
          none_by (nat_le (searching n j l f).find_count (degree n)) _ _ (λ a y. a_delta _ y) (λ a y. Searches_too_many up lt (leb-false _ _ a)) x

  test_rules : {P : Type 0} (l : ℕ) (f : Key) → awake n j (Test l f) ≡ None → P
  test_rules l f e =
      none_by (nat_lt n.head.level l) _ _ (λ t x. a_delta _ x)
      (λ t x.
      none_by (not (is_name n.head.name f)) _ _ (λ a y. a_delta _ y)
      (λ a y. none_by (not (is_at n.head.probe j)) _ _ (λ b z. a_delta _ z) (λ b z. a_delta _ z) y) x)
      e

  -- a best link that is above some key is there
  above_rules : {P : Type 0} (w : Option Key) (o : Best) → below (best_key o) w ≡ true → root_to n o ≡ None → P
  above_rules w None b z = absurd (false≢true b)
  above_rules w (Some k) b z = a_delta _ z

  report_ruleless : (w : Option Key) → awake n j (Report w) ≡ None → NoRule n (Deliver j (Report w))
  report_ruleless w e =
      none_by (not (is_at n.head.in_branch j)) _ _
      (λ t x. none_by (is_zero n.head.find_count) _ _ (λ a y. Report_unowed up (at_not _ _ (not_true _ t)) (zero_is _ a)) (λ a y. a_delta _ y) x)
      (λ t x. none_by (is_find n.head.phase) _ _ (λ a y. a_delta _ y)
      (λ a y. none_by (below (best_key n.head.best) w) _ _ (λ b z. above_rules w n.head.best b z)
      (λ b z. none_by (below w None || below (best_key n.head.best) None) _ _ (λ c u. a_delta _ u) (λ c u. a_delta _ u) z) y) x) e

  root_ruleless : (o : Best) → n.head.best ≡ o → root_to n o ≡ None → NoRule n (Deliver j ChangeRoot)
  root_ruleless None h x = Root_without_best up h
  root_ruleless (Some b) h x = a_delta _ x

  pub awake_ruleless : (m : Message) → n.head.level ≤ 20 → awake n j m ≡ None → NoRule n (Deliver j m)
  awake_ruleless (Connect l) top e = connect_ruleless l top e
  awake_ruleless (Initiate l f s) top e = initiate_ruleless l f s e
  awake_ruleless (Test l f) top e = test_rules l f e
  awake_ruleless Accept top e = none_by (is_at n.head.probe j) _ _ (λ t x. a_delta _ x) (λ t x. Accept_untested up (at_not _ _ t)) e
  awake_ruleless Reject top e = none_by (is_at n.head.probe j) _ _ (λ t x. a_delta _ x) (λ t x. Reject_untested up (at_not _ _ t)) e
  awake_ruleless (Report w) top e = report_ruleless w e
  awake_ruleless ChangeRoot top e = root_ruleless n.head.best refl e

module _ (n : NodeState) (j : ℕ) (s : n.head.phase ≡ Sleeping) where
  asleep_ruleless : (m : Message) → asleep n j m ≡ None → NoRule n (Deliver j m)
  asleep_ruleless (Connect l) e = none_by (j == 0) _ _ (λ t x. a_delta _ x) (λ t x. a_delta _ x) e
  asleep_ruleless (Test l f) e = none_by (l == 0) _ _ (λ t x. a_delta _ x) (λ t x. a_delta _ x) e
  asleep_ruleless (Initiate l f p) e = Still_asleep s An_initiate
  asleep_ruleless Accept e = Still_asleep s An_accept
  asleep_ruleless Reject e = Still_asleep s A_reject
  asleep_ruleless (Report w) e = Still_asleep s A_report
  asleep_ruleless ChangeRoot e = Still_asleep s A_change_root

-- work that a node has no reaction to is on the list
pub reaction_ruleless : (n : NodeState) (w : Work) → n.head.level ≤ 20 → reaction n w ≡ None → NoRule n w
reaction_ruleless n Wake top e = none_by (is_sleeping n.head.phase) _ _ (λ t x. a_delta _ x) (λ t x. Already_awake (sleeping_not _ t)) e
reaction_ruleless n (Deliver j m) top e =
    none_by (is_sleeping n.head.phase) _ _ (λ t x. asleep_ruleless n j (sleeping_is _ t) m x) (λ t x. awake_ruleless n j (sleeping_not _ t) m top x) e
