-- Where no two links have the same ends, a node has no more ports than there are nodes.
use Rattle.std.proofs.Common.{◌≡◌, ◌≢◌, ℕ, zero, suc, ◌+◌, ◌*◌, ◌<◌, ◌≤◌, List, [], ◌∷◌, length, refl, sym, ◌∙◌, ⊎_elim, ◌⊎◌, arith}
use Rattle.std.specs.List.{All, AllPairs}
use Rattle.std.proofs.lemmas.List.Elements.{All-contains, All-cons, All-nil}
use Rattle.std.proofs.lemmas.List.Kept.{AllPairs-cons}
use Rattle.ghs_graph.specs.declared.key.Key.{Key}
use Rattle.ghs_graph.specs.Graph.{Shape, IsGraph}
use Rattle.ghs_graph.specs.Ports.{ports_of}
use Rattle.peer_network.specs.Network.{At, InNetwork, far, network_of, port_at}
use Rattle.peer_network.proofs.lemmas.Graphs.{graph_keyed, graph_wired, is_key, port_ends}
use Rattle.ghs_protocol.proofs.lemmas.Time.{few_nodes}
use Rattle.ghs_rounds.specs.Laws.{IsSimple}

module _ (g : Shape) (ok : IsGraph g) (simple : IsSimple g) (v : ℕ) (lo : 1 ≤ v) (hi : v ≤ g.nodes) where
  abbrev n : ℕ
  n = length (ports_of g.keys v)

  at : (p : ℕ) → p < n → At (network_of g) v p
  at p lt = record { some = lo; node = hi; port = lt }

  abbrev key : ℕ → Key
  key p = (port_at (network_of g) v p).key

  rising : (p : ℕ) (lt : p < n) → (key p).a < (key p).b
  rising p lt = (All-contains (λ (x : Key). (1 ≤ x.a) × (x.a < x.b) × (x.b ≤ g.nodes)) g.keys (key p) ok.among (is_key g ok v p (at p lt))).1

  -- to each node leads one port
  one_port : (p q : ℕ) (lt : p < n) (lt' : q < n) → far (network_of g) v p ≡ far (network_of g) v q → p ≡ q
  one_port p q lt lt' e = ⊎_elim
      (λ a. ⊎_elim (λ b. same (sym a.0 ∙ b.0) (sym a.1 ∙ e ∙ b.1)) (λ b. absurd (crossed p q lt lt' a.0 a.1 b.0 b.1 e)) ends')
      (λ a. ⊎_elim (λ b. absurd (crossed q p lt' lt b.0 b.1 a.0 a.1 (sym e))) (λ b. same (sym a.1 ∙ e ∙ b.1) (sym a.0 ∙ b.0)) ends')
      ends
    where
      ends : ((v ≡ (key p).a) × (far (network_of g) v p ≡ (key p).b)) ⊎ ((v ≡ (key p).b) × (far (network_of g) v p ≡ (key p).a))
      ends = port_ends g ok v p (at p lt)

      ends' : ((v ≡ (key q).a) × (far (network_of g) v q ≡ (key q).b)) ⊎ ((v ≡ (key q).b) × (far (network_of g) v q ≡ (key q).a))
      ends' = port_ends g ok v q (at q lt')

      same : (key p).a ≡ (key q).a → (key p).b ≡ (key q).b → p ≡ q
      same x y = ⊎_elim
          (λ e. e.1)
          (λ e. absurd ((graph_wired g ok).apart v p (at p lt) e.0))
          (graph_keyed g ok v p v q (at p lt) (at q lt') (simple (key p) (key q) (is_key g ok v p (at p lt)) (is_key g ok v q (at q lt')) x y))

      crossed : (p q : ℕ) (lt : p < n) (lt' : q < n) → v ≡ (key p).a → far (network_of g) v p ≡ (key p).b → v ≡ (key q).b →
          far (network_of g) v q ≡ (key q).a → far (network_of g) v p ≡ far (network_of g) v q → ⊥
      crossed p q lt lt' a b c d e = let x = rising p lt in let y = rising q lt' in omega (arith, a, b, c, d, e, x, y)

  -- where the first ports lead
  fars : ℕ → List ℕ
  fars zero = []
  fars (suc p) = far (network_of g) v p ∷ fars p

  fars_many : (p : ℕ) → length (fars p) ≡ p
  unfolding fars
  fars_many zero = refl
  fars_many (suc p) = let z = fars_many p in omega (arith, z)

  fars_in : (p : ℕ) → p ≤ n → All (λ u. InNetwork (network_of g) u) (fars p)
  unfolding fars
  fars_in zero le = All-nil (λ u. InNetwork (network_of g) u)
  fars_in (suc p) le =
      let there = (graph_wired g ok).there v p (at p le) in
      All-cons (λ u. InNetwork (network_of g) u) (far (network_of g) v p) (fars p) (record { some = there.some; node = there.node })
      (fars_in p (omega (arith, le)))

  fars_other : (q : ℕ) (lt : q < n) (p : ℕ) → p ≤ q → All (λ u. far (network_of g) v q ≢ u) (fars p)
  unfolding fars
  fars_other q lt zero le = All-nil (λ u. far (network_of g) v q ≢ u)
  fars_other q lt (suc p) le =
      All-cons (λ u. far (network_of g) v q ≢ u) (far (network_of g) v p) (fars p)
      (λ e. let z = one_port q p lt (omega (arith, lt, le)) e in omega (arith, z, le))
      (fars_other q lt p (omega (arith, le)))

  fars_once : (p : ℕ) → p ≤ n → AllPairs (λ x y. x ≢ y) (fars p)
  unfolding fars
  fars_once zero le = λ i j d a b. absurd (omega (arith, b))
  fars_once (suc p) le =
      AllPairs-cons (λ x y. x ≢ y) (far (network_of g) v p) (fars p) (fars_other p le p (omega arith)) (fars_once p (omega (arith, le)))

  pub ports_few : n ≤ suc g.nodes
  ports_few =
      let many = fars_many n in
      let few = few_nodes (network_of g) n (λ u is. is)
      (record { list = fars n; once = fars_once n (omega arith); each = fars_in n (omega arith); many = omega (arith, many) }) in
      omega (arith, few)

pub five : (r m : ℕ) → r ≤ 3 * m + 2 * m → r ≤ 5 * m
five r m le = omega (arith, le)
