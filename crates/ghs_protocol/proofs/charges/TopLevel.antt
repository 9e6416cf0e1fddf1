-- How high levels rise: a fragment of level l has 2^l nodes.
use Rattle.std.proofs.Common.{◌≡◌, ◌≢◌, ℕ, suc, ◌^◌, ◌≤◌, ◌<◌, sym, ◌∙◌, ⊎_elim, ◌⊎◌, pow_mono}
use Rattle.ghs_graph.specs.Bound.{IsFloorLog2}
use Rattle.peer_network.specs.Network.{Network, InNetwork}
use Rattle.ghs_protocol.specs.Interleavings.{HaveAtLeast}
use Rattle.ghs_protocol.proofs.clauses.Scene.{Scene}
use Rattle.ghs_protocol.proofs.clauses.Whole.{Invariant}
use Rattle.ghs_protocol.proofs.acts.Many.{doubled, no_more, few_nodes}

module _ (g : Network) (k : ℕ) (log : IsFloorLog2 g.count k) (w : Scene) (holds : Invariant g w) where
  abbrev Mates : ℕ → ℕ → Type 0
  Mates v u = InNetwork g u × ((w.at u).fragment ≡ (w.at v).fragment)

  pub coming_most : (v : ℕ) → InNetwork g v → (w.at v).coming ≤ k
  coming_most v is = log.greatest (w.at v).coming (few_nodes g _ (λ x z. z.0) (holds.trees.sizes v is))

  -- where another fragment is as high, there is a higher level
  pub below_top : (v u : ℕ) →
      InNetwork g v →
      InNetwork g u →
      (w.at u).fragment ≢ (w.at v).fragment →
      (w.at v).coming ≤ (w.at u).coming →
      (w.at v).coming < k
  below_top v u is is' apart le = log.greatest (suc (w.at v).coming) (few_nodes g _ (λ x z. ⊎_elim (λ m. m.0) (λ m. m.0) z) both)
    where
      both : HaveAtLeast (2 ^ (suc (w.at v).coming)) (λ x. Mates v x ⊎ Mates u x)
      both =
          doubled (w.at v).coming (λ x p q. apart (sym q.1 ∙ p.1)) (holds.trees.sizes v is)
          (no_more (2 ^ (w.at v).coming) (2 ^ (w.at u).coming) (pow_mono le) (holds.trees.sizes u is'))
