-- Where each tree message waits, and nobody of the least level probes, a core node has halted.
use Rattle.std.proofs.Common.{◌≡◌, ◌≢◌, ℕ, ◌<◌, ◌≤◌, Bool, true, Some, length, sym, ◌∙◌, ⊎_elim, arith}
use Rattle.std.proofs.lemmas.Bool.{cases_lt}
use Rattle.ghs_node.specs.declared.message.Phase.TheVariants.{Sleeping, Find}
use Rattle.peer_network.specs.Network.{Network, At, far, InNetwork}
use Rattle.ghs_protocol.proofs.clauses.Scene.{Scene}
use Rattle.ghs_protocol.proofs.clauses.Wiring.{Ground}
use Rattle.ghs_protocol.proofs.clauses.Whole.{Invariant}
use Rattle.ghs_protocol.proofs.clauses.UnderWay.{Living}
use Rattle.ghs_protocol.proofs.progress.BothBegun.{tree_waits, AllOf}
use Rattle.ghs_protocol.proofs.progress.Scenes.{ConnectsLeast, At_level, asker_level, nobody_awake, has_ports, search_asks, top}

module _ (g : Network) (ground : Ground g) (w : Scene) (holds : Invariant g w) (lives : Living g w)
    (S : ℕ → Bool) (closed : (v p : ℕ) → At g v p → S v ≡ true → S (far g v p) ≡ true)
    (trees : (v p : ℕ) → At g v p → S v ≡ true → AllOf (tree_waits (w.at v) p) (w.seen v p).tree)
    (unended : (v : ℕ) → InNetwork g v → S v ≡ true → (w.at v).head.halted ≢ true)
    (awake : (v : ℕ) → InNetwork g v → S v ≡ true → (w.at v).head.phase ≢ Sleeping)
    (l z : ℕ) (is_z : InNetwork g z) (in_z : S z ≡ true) (at_l : (w.at z).head.level ≡ l)
    (low : (v : ℕ) → InNetwork g v → S v ≡ true → l ≤ (w.at v).head.level)
    (no_asker : (v p : ℕ) → InNetwork g v → S v ≡ true → (w.at v).head.level ≡ l → (w.at v).head.probe ≡ Some p → ⊥) where
  ports : (v : ℕ) → InNetwork g v → S v ≡ true → (w.at v).head.phase ≢ Sleeping → 0 < length (g.ports v)
  ports v is m = has_ports g w lives v is (unended v is m)

  pub none_least : ConnectsLeast g w → ⊥
  none_least least = nobody_awake g ground w holds lives S closed trees ports lower unended least z is_z in_z (awake z is_z in_z)
    where
      -- below each search is the node of the least level; and in its own fragment nobody searches
      lower : (v : ℕ) → InNetwork g v → S v ≡ true → (w.at v).head.phase ≡ Find →
          (x : ℕ) × (x < (w.at v).coming) × At_level g ground w holds lives S closed trees ports x
      lower v is m finds =
          let t = top g ground w holds lives S closed trees ports v is m (awake v is m) in
          let le = low v is m in
          let k = search_asks g ground w holds lives S closed trees ports v is m finds in
          let e = asker_level g ground w holds lives S closed trees ports v k in
          ⊎_elim
          (λ lt. (
            l,
            lt,
            record {
              node = z;
              is = is_z;
              member = in_z;
              awake = awake z is_z in_z;
              comes = sym (top g ground w holds lives S closed trees ports z is_z in_z (awake z is_z in_z)) ∙ at_l;
            },
          ))
          (λ ge. absurd (no_asker k.node k.port k.is k.member (omega (arith, t, le, e, ge)) k.probe))
          (cases_lt l (w.at v).coming)
