-- In two scenes where nothing waits, with the same core and the same joined links, the ways to the root are the same.
use Rattle.std.proofs.Common.{◌≡◌, ◌≢◌, ℕ, Some, sym, ◌∙◌, ⊎_elim}
use Rattle.ghs_node.specs.declared.message.Phase.TheVariants.{Sleeping}
use Rattle.peer_network.specs.Network.{Network, At, far, InNetwork}
use Rattle.ghs_protocol.proofs.clauses.Scene.{Scene, unseen, forest}
use Rattle.ghs_protocol.proofs.clauses.Fragments.{IsJoinedIn, Reach, At_root, By_step}
use Rattle.ghs_protocol.proofs.clauses.Wiring.{Ground}
use Rattle.ghs_protocol.proofs.clauses.Whole.{Invariant}
use Rattle.ghs_protocol.proofs.clauses.UnderWay.{Living}
use Rattle.ghs_protocol.proofs.one_core.Silent.{root_done, begun, core_is_root}
use Rattle.ghs_protocol.proofs.progress.BothBegun.{BegunCore}

module _ (g : Network) (ground : Ground g)
    (w : Scene) (holds : Invariant g w) (lives : Living g w) (silent : (v p : ℕ) → At g v p → w.seen v p ≡ unseen)
    (u : ℕ) (u_is : InNetwork g u) (awake : (w.at u).head.phase ≢ Sleeping)
    (whole : (t p : ℕ) → At g t p → (w.at t).fragment ≡ (w.at u).fragment → (w.at (far g t p)).fragment ≡ (w.at u).fragment)
    (w' : Scene) (holds' : Invariant g w') (lives' : Living g w') (silent' : (v p : ℕ) → At g v p → w'.seen v p ≡ unseen)
    (u' : ℕ) (u'_is : InNetwork g u') (awake' : (w'.at u').head.phase ≢ Sleeping)
    (whole' : (t p : ℕ) → At g t p → (w'.at t).fragment ≡ (w'.at u').fragment → (w'.at (far g t p)).fragment ≡ (w'.at u').fragment)
    (joins : (t p : ℕ) → At g t p → (w.at t).fragment ≡ (w.at u).fragment → IsJoinedIn g (forest w) t p → IsJoinedIn g (forest w') t p) where
  -- the root link of the one is that of the other
  at_core : (t p : ℕ) → At g t p → (w'.at t).fragment ≡ (w'.at u').fragment → (w.at t).coming_name ≡ (w'.at t).coming_name →
      BegunCore g w t p → (w'.at t).up ≡ Some p
  at_core t p at same' named d =
      (core_is_root g ground w' holds' lives' silent' u' u'_is awake' whole' t p at same' (sym named ∙ d.named)).up

  pub same_ways : {t : ℕ} → Reach g (forest w) t →
      (w.at t).fragment ≡ (w.at u).fragment →
      (w'.at t).fragment ≡ (w'.at u').fragment →
      (w.at t).coming_name ≡ (w'.at t).coming_name →
      (w.at t).up ≡ (w'.at t).up
  same_ways {t} (At_root p at up root) same same' named =
      up ∙ sym (at_core t p at same' named (root_done g ground w holds lives silent u u_is awake whole t p at up root))
  same_ways {t} (By_step p at up joined r) same same' named =
      up ∙
      sym
      (step t p at up joined same same' named
      (same_ways r (whole t p at same) (whole' t p at same') (names t p at joined same same' named)))
    where
      link' : (t p : ℕ) → At g t p → IsJoinedIn g (forest w) t p → (w.at t).fragment ≡ (w.at u).fragment → IsJoinedIn g (forest w') t p
      link' t p at joined same = joins t p at same joined

      names : (t p : ℕ) → At g t p → IsJoinedIn g (forest w) t p → (w.at t).fragment ≡ (w.at u).fragment →
          (w'.at t).fragment ≡ (w'.at u').fragment →
          (w.at t).coming_name ≡ (w'.at t).coming_name → (w.at (far g t p)).coming_name ≡ (w'.at (far g t p)).coming_name
      names t p at joined same same' named =
          (holds.trees.by_fragment (far g t p) t (sym (holds.trees.joined_within t p at joined))).1 ∙ named ∙
          (holds'.trees.by_fragment t (far g t p) (holds'.trees.joined_within t p at (joins t p at same joined))).1

      step : (t p : ℕ) → At g t p → (w.at t).up ≡ Some p → IsJoinedIn g (forest w) t p → (w.at t).fragment ≡ (w.at u).fragment →
          (w'.at t).fragment ≡ (w'.at u').fragment →
          (w.at t).coming_name ≡ (w'.at t).coming_name →
          (w.at (far g t p)).up ≡ (w'.at (far g t p)).up →
          (w'.at t).up ≡ Some p
      step t p at up joined same same' named beyond =
          ⊎_elim (λ h. h)
          (λ h.
          at_core t p at same' named
          (begun g ground w holds lives silent u u_is awake whole t p (record { at = at; joined = joined; up = up; up_beyond = beyond ∙ h })))
          (holds'.trees.joined_lead t p at (joins t p at same joined))
