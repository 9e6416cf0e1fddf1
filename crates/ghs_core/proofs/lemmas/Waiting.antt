-- The test of waiting says what waits.
use Rattle.std.proofs.Common.{◌≡◌, ◌≢◌, ℕ, Bool, true, not, refl, sym, ◌∙◌, ap}
use Rattle.std.specs.Prelude.{IsTrue, ◌↔◌}
use Rattle.std.proofs.lemmas.Bool.{and_parts, and_from, le-leb, leb-true, lt-ltb, ltb-true}
use Rattle.ghs_node.specs.declared.message.Phase.{Phase}
use Rattle.ghs_node.specs.declared.message.Phase.TheVariants.{Sleeping, Find, Found}
use Rattle.ghs_node.specs.declared.message.Message.{Message}
use Rattle.ghs_node.specs.declared.message.Message.TheVariants.{Connect, Initiate, Test, Accept, Reject, Report, ChangeRoot}
use Rattle.ghs_node.specs.NodeState.{NodeState, mark_at}
use Rattle.ghs_node.specs.Words.{is_basic, is_find, is_sleeping}
use Rattle.ghs_node.proofs.lemmas.{basic_is, find_is, at_is, is_at_is}
use Rattle.ghs_protocol.specs.Living.{Waits, Connect_waits, Test_waits, Report_waits}
use Rattle.ghs_core.specs.Waits.{waits}

awake_so : (s : Phase) → not (is_sleeping s) ≡ true → s ≢ Sleeping
awake_so Sleeping h = cc
awake_so Find h = λ e. cc
awake_so Found h = λ e. cc

awake_test : (s : Phase) → s ≢ Sleeping → not (is_sleeping s) ≡ true
awake_test Sleeping h = absurd (h refl)
awake_test Find h = refl
awake_test Found h = refl

module _ (n : NodeState) (p : ℕ) where
  pub waits_so : (m : Message) → waits n p m ≡ true → Waits n p m
  waits_so (Connect l) h =
      let a = and_parts _ _ h in
      let b = and_parts _ _ a.1 in
      Connect_waits (awake_so n.head.phase a.0) (leb-true _ _ b.0) (basic_is (mark_at n p) b.1)
  waits_so (Initiate l f s) h = cc
  waits_so (Test l f) h = let a = and_parts _ _ h in Test_waits (awake_so n.head.phase a.0) (ltb-true _ _ a.1)
  waits_so Accept h = cc
  waits_so Reject h = cc
  waits_so (Report k) h = let a = and_parts _ _ h in Report_waits (at_is n.head.in_branch p a.1) (find_is n.head.phase a.0)
  waits_so ChangeRoot h = cc

  pub waits_test : (m : Message) → Waits n p m → waits n p m ≡ true
  waits_test _ (Connect_waits up le b) = and_from _ _ (awake_test n.head.phase up) (and_from _ _ (le-leb _ _ le) (ap is_basic b))
  waits_test _ (Test_waits up lt) = and_from _ _ (awake_test n.head.phase up) (lt-ltb _ _ lt)
  waits_test _ (Report_waits way f) = and_from _ _ (ap is_find f) (is_at_is n.head.in_branch p way)

  -- the test is true just where the message waits
  pub told : (m : Message) (b : Bool) → b ≡ waits n p m → IsTrue b ↔ Waits n p m
  told m b e = (λ t. waits_so m (sym e ∙ t), λ h. e ∙ waits_test m h)
