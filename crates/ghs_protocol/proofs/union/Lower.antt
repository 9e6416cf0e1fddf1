-- The act of a node with which two fragments become one: what it leaves of all nodes, and who lies below the new level.
use Rattle.std.proofs.Common.{◌≡◌, ℕ, suc, ◌<◌, ◌⊎◌, inl, inr, ⊎_elim, sym, ◌∙◌, arith}
use Rattle.ghs_node.specs.Words.{Outgoing}
use Rattle.peer_network.specs.Network.{Network, far, InNetwork}
use Rattle.ghs_protocol.proofs.clauses.Scene.{Seen, Member, Scene, tree_end, end, far_end, acts}
use Rattle.ghs_protocol.proofs.clauses.TreeMessages.{ConnectUnderWay}
use Rattle.ghs_protocol.proofs.clauses.Whole.{Invariant}
use Rattle.peer_network.proofs.lemmas.Updates.{put_alike}

-- fragments, what comes to them, levels and ways are as they were
pub record SameParts (w w' : Scene) : Type 0 where
  pub fragment : (t : ℕ) → (w'.at t).fragment ≡ (w.at t).fragment
  pub coming : (t : ℕ) → (w'.at t).coming ≡ (w.at t).coming
  pub coming_name : (t : ℕ) → (w'.at t).coming_name ≡ (w.at t).coming_name
  pub level : (t : ℕ) → (w'.at t).head.level ≡ (w.at t).head.level

-- an act of u that leaves them at u
pub same_parts : (g : Network) (u : ℕ) (x : Member) (own : ℕ → Seen) (ss : Outgoing) (w : Scene) →
    x.fragment ≡ (w.at u).fragment →
    x.coming ≡ (w.at u).coming →
    x.coming_name ≡ (w.at u).coming_name →
    x.head.level ≡ (w.at u).head.level →
    SameParts w (acts g u x own ss w)
same_parts g u x own ss w fragment coming name level = record {
  fragment = put_alike (λ (m : Member). m.fragment) w.at u x fragment;
  coming = put_alike (λ (m : Member). m.coming) w.at u x coming;
  coming_name = put_alike (λ (m : Member). m.coming_name) w.at u x name;
  level = put_alike (λ (m : Member). m.head.level) w.at u x level;
}

module _ (g : Network) (w w' : Scene) (holds : Invariant g w) (same : SameParts w w') (u b : ℕ)
    (came : ConnectUnderWay (tree_end (far_end g w u b)) (tree_end (end g w u b))) where
  -- of one fragment afterwards, so before
  coming_alike : (t v : ℕ) →
      (w'.at t).fragment ≡ (w'.at v).fragment →
      ((w.at t).coming ≡ (w.at v).coming) × ((w.at t).coming_name ≡ (w.at v).coming_name)
  coming_alike t v e = holds.trees.by_fragment t v (sym (same.fragment t) ∙ e ∙ same.fragment v)

  -- Connects meet: the new level is above all of both fragments
  pub below_new : (w.at u).head.level ≡ (w.at u).coming →
      (t : ℕ) → InNetwork g t →
      ((w'.at t).fragment ≡ (w'.at (far g u b)).fragment) ⊎ ((w'.at t).fragment ≡ (w'.at u).fragment) →
      (w'.at t).head.level < suc (w'.at u).head.level
  below_new top t is i = ⊎_elim beyond beside i
    where
      beyond : (w'.at t).fragment ≡ (w'.at (far g u b)).fragment → (w'.at t).head.level < suc (w'.at u).head.level
      beyond e =
          let z = (coming_alike t (far g u b) e).0 in
          let lag = (holds.nodes t is).lag.level in
          omega (arith, z, lag, came.level, came.higher, same.level t, same.level u)

      beside : (w'.at t).fragment ≡ (w'.at u).fragment → (w'.at t).head.level < suc (w'.at u).head.level
      beside e = let z = (coming_alike t u e).0 in let lag = (holds.nodes t is).lag.level in omega (arith, z, lag, top, same.level t, same.level u)

  -- one is absorbed: it lies below what comes to the other
  pub below_coming : InNetwork g u → (w.at (far g u b)).head.level < (w.at u).head.level →
      (t : ℕ) → InNetwork g t →
      ((w'.at t).fragment ≡ (w'.at (far g u b)).fragment) ⊎ ((w'.at t).fragment ≡ (w'.at u).fragment) →
      ((w'.at t).head.level < (w'.at u).coming) ⊎ (((w'.at t).coming ≡ (w'.at u).coming) × ((w'.at t).coming_name ≡ (w'.at u).coming_name))
  below_coming u_is lower t is i = ⊎_elim (λ e. inl (beyond e)) (λ e. inr (beside e)) i
    where
      beyond : (w'.at t).fragment ≡ (w'.at (far g u b)).fragment → (w'.at t).head.level < (w'.at u).coming
      beyond e =
          let z = (coming_alike t (far g u b) e).0 in
          let lag = (holds.nodes t is).lag.level in
          let top = (holds.nodes u u_is).lag.level in
          omega (arith, z, lag, top, came.level, lower, same.level t, same.coming u)

      beside :
          (w'.at t).fragment ≡ (w'.at u).fragment →
          ((w'.at t).coming ≡ (w'.at u).coming) × ((w'.at t).coming_name ≡ (w'.at u).coming_name)
      beside e =
          let z = coming_alike t u e in
          (same.coming t ∙ z.0 ∙ sym (same.coming u), same.coming_name t ∙ z.1 ∙ sym (same.coming_name u))
