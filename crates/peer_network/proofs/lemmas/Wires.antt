-- Ports and the ports that they lead to.
use Rattle.std.proofs.Common.{◌≡◌, ◌≢◌, ℕ, ◌<◌, ◌≤◌, length, sym, ◌∙◌, ap, ap₂, ⊎_elim, arith}
use Rattle.std.proofs.lemmas.Bool.{cases_lt}
use Rattle.std.proofs.lemmas.List.{get_or_past}
use Rattle.ghs_graph.specs.declared.port.Port.{Port}
use Rattle.peer_network.specs.Network.{Network, far, far_port, At, InNetwork}
use Rattle.peer_network.proofs.lemmas.Wired.{IsWired}
use Rattle.ghs_graph.specs.Ports.{no_port}

-- a node with a port is a node
pub at_in : {g : Network} {v p : ℕ} → At g v p → InNetwork g v
at_in at = record { some = at.some; node = at.node }

module _ (g : Network) where
  -- what is no port leads to node 0, which is none
  pub far_past : (v i : ℕ) → length (g.ports v) ≤ i → far g v i ≡ 0
  far_past v i le = ap (λ (p : Port). p.far) (get_or_past (g.ports v) i no_port le)

  module _ (wired : IsWired g) where
    -- two ports of a node lead to different ports
    pub far_apart : (v i a : ℕ) → At g v i → a ≢ i → (far g v i ≡ far g v a) × (far_port g v i ≡ far_port g v a) → ⊥
    far_apart v i a at ne e = ⊎_elim inside outside (cases_lt a (length (g.ports v)))
      where
        inside : a < length (g.ports v) → ⊥
        inside lt =
            let here : At g v a = record { some = at.some; node = at.node; port = lt } in
            ne (sym (wired.back_port v a here) ∙ sym (ap₂ (far_port g) e.0 e.1) ∙ wired.back_port v i at)

        outside : length (g.ports v) ≤ a → ⊥
        outside le =
            let some = (wired.there v i at).some in
            omega (arith, far_past v a le, some, e.0)

    -- no port leads back to its own node
    pub no_loop : (v i : ℕ) → 1 ≤ v → v ≤ g.count → far g v i ≢ v
    no_loop v i lo hi e = ⊎_elim inside outside (cases_lt i (length (g.ports v)))
      where
        inside : i < length (g.ports v) → ⊥
        inside lt = wired.apart v i (record { some = lo; node = hi; port = lt }) e

        outside : length (g.ports v) ≤ i → ⊥
        outside le = omega (arith, far_past v i le, e)

    -- a port to which one of v's leads, leads to v
    pub neighbour : (v i a b : ℕ) → 1 ≤ v → v ≤ g.count → At g a b → far g v i ≡ a → far_port g v i ≡ b → far g a b ≡ v
    neighbour v i a b lo hi at e h = ⊎_elim inside outside (cases_lt i (length (g.ports v)))
      where
        inside : i < length (g.ports v) → far g a b ≡ v
        inside lt = sym (ap₂ (far g) e h) ∙ wired.back v i (record { some = lo; node = hi; port = lt })

        outside : length (g.ports v) ≤ i → far g a b ≡ v
        outside le =
            let some = at.some in
            absurd (omega (arith, far_past v i le, e, some))
