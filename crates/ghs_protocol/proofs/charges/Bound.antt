-- How many messages a run sends at most.
use Rattle.std.proofs.Common.{◌≡◌, ℕ, zero, suc, ◌+◌, ◌*◌, ◌≤◌, length, sym, arith, suc-mul, zero-mul}
use Rattle.ghs_graph.specs.Bound.{IsFloorLog2}
use Rattle.ghs_graph.specs.Graph.{Shape}
use Rattle.peer_network.specs.Network.{Network, network_of, InNetwork}
use Rattle.peer_network.proofs.lemmas.Wired.{IsWired}
use Rattle.ghs_protocol.specs.Net.{Net}
use Rattle.ghs_protocol.specs.Ledger.{of_kind, IsBalanced, in_all}
use Rattle.peer_network.specs.Sums.{sum_below, sum_over_nodes}
use Rattle.ghs_protocol.specs.Laws.{IsNetOf}
use Rattle.ghs_protocol.specs.Interleavings.{SendsWithinBound, SendsWithinSharpBound}
use Rattle.ghs_protocol.specs.Time.{TreeMessagesAreFew}
use Rattle.ghs_protocol.proofs.clauses.Floors.{Sound}
use Rattle.ghs_protocol.proofs.clauses.Scene.{Ghost, scene}
use Rattle.ghs_protocol.proofs.clauses.Whole.{opening_ghost}
use Rattle.ghs_protocol.specs.Payments.{testing}
use Rattle.ghs_protocol.proofs.clauses.Charges.{busy, moved_on, paid_at, Charges, HasCharges}
use Rattle.ghs_protocol.proofs.lemmas.Balance.{after_balanced}
use Rattle.peer_network.proofs.lemmas.Graphs.{graph_wired, graph_few, twice_links}
use Rattle.peer_network.proofs.lemmas.Sums.{sum_most, sum_add}
use Rattle.ghs_protocol.proofs.charges.Runs.{after_charges, by_memory}
use Rattle.ghs_protocol.proofs.charges.Waiting.{level_most, calls_most, quota, accepts_most, ports_most, roots_most}
use Rattle.ghs_protocol.proofs.acts.Grounds.{graph_ground}

sum_all : (n c : ℕ) → sum_below n (λ i. c) ≡ n * c
sum_all zero c = sym (zero-mul c)
sum_all (suc n) c = let z = sum_all n c in let y = suc-mul n c in omega (arith, z, y)

module _ (g : Network) where
  nodes_most : (f h : ℕ → ℕ) → ((v : ℕ) → InNetwork g v → f v ≤ h v) → sum_over_nodes g f ≤ sum_over_nodes g h
  nodes_most f h le = sum_most g.count (λ i. f (suc i)) (λ i. h (suc i)) (λ i lt. le (suc i) (record { some = omega arith; node = omega arith }))

  nodes_add : (f h : ℕ → ℕ) → sum_over_nodes g (λ v. f v + h v) ≡ sum_over_nodes g f + sum_over_nodes g h
  nodes_add f h = sum_add g.count (λ i. f (suc i)) (λ i. h (suc i))

  module _ (wired : IsWired g) (k : ℕ) (log : IsFloorLog2 g.count k) (w : Net) (gh : Ghost) (sound : Sound g (scene w gh))
      (charges : Charges g k gh.up w) (balanced : IsBalanced g w) (s : ℕ) (one : s ≤ 1) (low : s ≤ k) where
    levels : ℕ → ℕ
    levels v = (w.node v).head.level

    all_calls : w.sent 1 ≤ g.count * k
    unfolding levels
    all_calls =
        let each = nodes_most
        (λ v. sum_below (length (g.ports v)) (λ p. of_kind 1 (w.queue v p)) + levels v)
        (λ v. k) (λ v is. calls_most g wired k log w gh sound.first v is) in
        let both = nodes_add (λ v. sum_below (length (g.ports v)) (λ p. of_kind 1 (w.queue v p))) levels in
        let b = balanced 1 in let c = charges.calls in let n = sum_all g.count k in
        omega (arith, each, both, b, c, n)

    all_levels : sum_over_nodes g levels ≤ g.count * k
    unfolding levels
    all_levels =
        let each = nodes_most levels (λ v. k) (λ v is. level_most g wired k log w gh sound.first v is) in
        let n = sum_all g.count k in omega (arith, each, n)

    all_reports : w.sent 5 ≤ g.count * k
    unfolding levels
    all_reports = let a = all_levels in let c = charges.reports in omega (arith, a, c)

    all_roots : w.sent 0 + w.sent 6 ≤ g.count * k
    unfolding levels
    all_roots =
        let each = nodes_most (λ v. levels v + moved_on (w.node v).head.in_branch (gh.up v)) (λ v. k)
        (λ v is. roots_most g wired k log w gh sound.first v is (charges.low v is)) in
        let both = nodes_add levels (λ v. moved_on (w.node v).head.in_branch (gh.up v)) in
        let c = charges.roots in let n = sum_all g.count k in
        omega (arith, each, both, c, n)

    abbrev busy_at : ℕ → ℕ
    busy_at v = busy k (w.node v).head.level (w.node v).head.probe

    all_accepts : w.sent 3 + g.count * s ≤ g.count * k
    unfolding levels
    all_accepts =
        let each = nodes_most
        (λ v. sum_below (length (g.ports v)) (λ p. of_kind 3 (w.queue v p)) + levels v + s)
        (λ v. k + busy_at v) (λ v is. accepts_most g wired k log w gh sound.first v is s one low) in
        let left = nodes_add (λ v. sum_below (length (g.ports v)) (λ p. of_kind 3 (w.queue v p)) + levels v) (λ v. s) in
        let left' = nodes_add (λ v. sum_below (length (g.ports v)) (λ p. of_kind 3 (w.queue v p))) levels in
        let right = nodes_add (λ v. k) busy_at in
        let b = balanced 3 in let c = charges.accepts in let n = sum_all g.count k in let m = sum_all g.count s in
        omega (arith, each, left, left', right, b, c, n, m)

    all_tests : w.sent 2 + w.sent 4 + g.count * s ≤ g.count * k + sum_over_nodes g (λ v. length (g.ports v))
    unfolding levels
    all_tests =
        let each = nodes_most (λ v. levels v + s) (λ v. k + busy_at v) (λ v is. quota g wired k log w gh sound.first v is s one low) in
        let left = nodes_add levels (λ v. s) in
        let right = nodes_add (λ v. k) busy_at in
        let ports = nodes_most
        (λ v. sum_below (length (g.ports v)) (paid_at g (scene w opening_ghost) v) + testing (w.node v).head.probe)
        (λ v. length (g.ports v)) (λ v is. ports_most g wired k log w gh sound.first v is) in
        let both = nodes_add (λ v. sum_below (length (g.ports v)) (paid_at g (scene w opening_ghost) v)) (λ v. testing (w.node v).head.probe) in
        let a = charges.accepts in let c = charges.tests in let n = sum_all g.count k in let m = sum_all g.count s in
        omega (arith, each, left, right, ports, both, a, c, n, m)

    pub trees_within : w.sent 0 + w.sent 1 + w.sent 5 + w.sent 6 ≤ 3 * (g.count * k)
    trees_within = let a = all_calls in let b = all_reports in let c = all_roots in omega (arith, a, b, c)

    pub within : in_all w.sent + 2 * (g.count * s) ≤ sum_over_nodes g (λ v. length (g.ports v)) + 5 * (g.count * k)
    within = let a = all_calls in let b = all_reports in let c = all_roots in let d = all_accepts in let e = all_tests in omega (arith, a, b, c, d, e)

module _ (g : Shape) (w : Net) (n : IsNetOf g w) (k : ℕ) (log : IsFloorLog2 g.nodes k) where
  paid : HasCharges (network_of g) k w
  paid = after_charges (network_of g) (graph_ground g n.graph) k log (graph_few g n.graph) n.events w n.run

  bounded : (s : ℕ) → s ≤ 1 → s ≤ k → in_all w.sent + 2 * (g.nodes * s) ≤ 2 * length g.keys + 5 * (g.nodes * k)
  bounded s one low =
      let h = paid in
      let z = within (network_of g) (graph_wired g n.graph) k log w h.sound.ghost h.sound.holds
      (by_memory (network_of g) (graph_ground g n.graph) k log h.sound h.charges)
      (after_balanced (network_of g) (graph_wired g n.graph) (graph_few g n.graph) n.events w n.run) s one low in
      let t = twice_links g n.graph in
      omega (arith, z, t)

pub sends_within : SendsWithinBound
sends_within g w n b is = let z = bounded g w n is.levels is.log2 0 (omega arith) (omega arith) in let y = is.bound in omega (arith, z, y)

pub sends_within_sharp : SendsWithinSharpBound
sends_within_sharp g w n b two is =
    let z = bounded g w n is.levels is.log2 1 (omega arith) (is.log2.greatest 1 (omega (arith, two))) in let y = is.bound in omega (arith, z, y)

-- Connects, Initiates, Reports and ChangeRoots are consumed at most three times the nodes times their floor of log2
pub tree_messages_are_few : TreeMessagesAreFew
tree_messages_are_few g w n k log =
    let h = paid g w n k log in
    let balanced = after_balanced (network_of g) (graph_wired g n.graph) (graph_few g n.graph) n.events w n.run in
    let z = trees_within (network_of g) (graph_wired g n.graph) k log w h.sound.ghost h.sound.holds
    (by_memory (network_of g) (graph_ground g n.graph) k log h.sound h.charges) balanced 0 (omega arith) (omega arith) in
    let a = balanced 0 in let b = balanced 1 in let c = balanced 5 in let d = balanced 6 in
    omega (arith, z, a, b, c, d)
