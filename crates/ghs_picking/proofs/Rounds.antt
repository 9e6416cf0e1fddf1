-- The bound on the rounds of a run that has ended.
use Rattle.std.proofs.Common.{◌≡◌, ℕ, zero, suc, Bool, true, ◌+◌, ◌*◌, ◌-◌, ◌≤◌, ◌<◌, ◌^◌, ⊎_elim, List, arith, length, refl, subst}
use Rattle.std.proofs.Math.Nat.{one-le-pow}
use Rattle.std.proofs.lemmas.Bool.{cases_lt}
use Rattle.std.proofs.lemmas.List.Sums.{count_by-le-length}
use Rattle.ghs_graph.specs.Bound.{IsBound, IsFloorLog2}
use Rattle.ghs_graph.specs.declared.key.Key.{Key}
use Rattle.ghs_graph.specs.Graph.{ARC_LIMIT, IsGraph, Shape}
use Rattle.ghs_graph.specs.Key.{ends_at}
use Rattle.ghs_graph.specs.Ports.{degree, ports_of}
use Rattle.ghs_graph.proofs.lemmas.Ports.{length-ports_of}
use Rattle.peer_network.specs.Wakes.{AllMayWake, may_wake}
use Rattle.peer_network.specs.declared.event.Event.{Event}
use Rattle.peer_network.specs.declared.wake_set.WakeSet.{WakeSet}
use Rattle.peer_network.specs.declared.wake_set.WakeSet.TheVariants.{All, First, Listed}
use Rattle.ghs_protocol.specs.Marks.{HasEnded}
use Rattle.ghs_protocol.specs.Run.{net_after}
use Rattle.peer_chains.specs.Chains.{most_below}
use Rattle.peer_chains.proofs.lemmas.Bounding.{most_within}
use Rattle.ghs_rounds.specs.Laws.{AwakeRoundsAreFew, PicksAreByRounds, RoundsAreFewer}
use Rattle.ghs_rounds.specs.Runs.{IsPickedByRounds}
use Rattle.ghs_picking.specs.RoundBound.{IsRoundBound, most_ports}

ports_few : (ks : List Key) (v : ℕ) → length (ports_of ks v) ≤ length ks
unfolding degree
ports_few ks v = let same = length-ports_of ks v in let few = count_by-le-length (ends_at v) ks in omega (arith, same, few)

pub most_few : (g : Shape) → IsGraph g → (n : ℕ) → most_below n (λ i. length (ports_of g.keys (i + 1))) ≤ ARC_LIMIT
most_few g ok n =
    most_within n ARC_LIMIT (λ i. length (ports_of g.keys (i + 1))) (λ i. let few = ports_few g.keys (i + 1) in let all = ok.links in
    omega (arith, few, all))

-- the ports of a node are no more than the most of so many nodes
ports_within : (g : Shape) (n i : ℕ) → i < n → length (ports_of g.keys (i + 1)) ≤ most_below n (λ j. length (ports_of g.keys (j + 1)))
ports_within g zero i lt = absurd (omega arith)
ports_within g (suc n) i lt = ⊎_elim
    (λ below. let inner = ports_within g n i below in omega (arith, inner))
    (λ here.
    let same : n ≡ i = omega (arith, here, lt) in
    subst (λ v. length (ports_of g.keys (v + 1)) ≤ most_below (suc n) (λ j. length (ports_of g.keys (j + 1)))) same (omega arith))
    (cases_lt i n)

has_ports : (g : Shape) (v : ℕ) → 1 ≤ v → v ≤ g.nodes → length (ports_of g.keys v) ≤ suc (most_ports g - 1)
has_ports g zero low high = absurd (omega arith)
has_ports g (suc i) low high =
    let one : i + 1 ≡ suc i = omega arith in
    let few : length (ports_of g.keys (suc i)) ≤ most_ports g =
    subst (λ v. length (ports_of g.keys v) ≤ most_ports g) one (ports_within g g.nodes i (omega arith)) in
    omega (arith, few)

-- one node has no level to reach
no_level : (k : ℕ) → IsFloorLog2 1 k → k ≡ 0
no_level zero log2 = refl
no_level (suc k) log2 =
    let some : 1 ≤ 2 ^ k = one-le-pow k 2 (omega arith) in
    let twice : 2 ^ suc k ≡ 2 * 2 ^ k = omega arith in
    let most = log2.at_most in
    absurd (omega (arith, some, twice, most))

module _ (picks : PicksAreByRounds) (awake : AwakeRoundsAreFew) (fewer : RoundsAreFewer) (g : Shape) (ok : IsGraph g) (turns : ℕ) (words : List ℕ)
    (es : List Event) (r : ℕ) (after : List ℕ) (ended : HasEnded g (net_after g es)) where
  -- where each node may wake
  all_within : (may : ℕ → Bool) → ((v : ℕ) → 1 ≤ v → v ≤ g.nodes → may v ≡ true) → IsPickedByRounds may g turns words es r after →
      (k : ℕ) → IsFloorLog2 g.nodes k → r ≤ 3 * (g.nodes * k) + 2 * ((most_ports g - 1) * k)
  all_within may each picked k log2 =
      let run = picks may g turns words es r after ok picked in
      awake may g es r run.0 ok each k log2 (most_ports g - 1) (has_ports g) run.1 ended

  -- where one of each component may wake
  some_within : (may : ℕ → Bool) → AllMayWake may g → IsPickedByRounds may g turns words es r after → (k : ℕ) → IsFloorLog2 g.nodes k →
      r ≤ 2 * length g.keys + 5 * (g.nodes * k) - 2 * g.nodes
  some_within may woken picked k log2 = ⊎_elim
      (λ lone.
      let some = ok.some in
      let single : g.nodes ≡ 1 = omega (arith, lone, some) in
      let each : (v : ℕ) → 1 ≤ v → v ≤ g.nodes → may v ≡ true = λ v low high.
      let u = woken v low high in
      let lo = u.1 in
      let hi = u.2 in
      let same : u.0 ≡ v = omega (arith, lo, hi, low, high, single) in
      subst (λ x. may x ≡ true) same u.4 in
      let none : k ≡ 0 = no_level k (subst (λ n. IsFloorLog2 n k) single log2) in
      let few : r ≤ 3 * (g.nodes * k) + 2 * ((most_ports g - 1) * k) = all_within may each picked k log2 in
      let zero_few : r ≤ 3 * (g.nodes * 0) + 2 * ((most_ports g - 1) * 0) = rw none at few in
      omega (arith, zero_few))
      (λ more.
      let two : 2 ≤ g.nodes = omega (arith, more) in
      let b = 2 * length g.keys + 5 * (g.nodes * k) in
      let is : IsBound g.nodes (length g.keys) b = record { levels = k; log2 = log2; bound = refl } in
      let run = picks may g turns words es r after ok picked in
      let few = fewer may g es r run.0 ok two b is run.1 ended in
      omega (arith, few))
      (cases_lt g.nodes 2)

  pub rounds_within : (wake : WakeSet) → AllMayWake (may_wake g wake) g → IsPickedByRounds (may_wake g wake) g turns words es r after →
      (b : ℕ) → IsRoundBound wake g b → r ≤ b
  rounds_within All woken picked b is =
      let few = all_within (may_wake g All) (λ v low high. refl) picked is.0 is.1 in
      let same = is.2 in
      omega (arith, few, same)
  rounds_within First woken picked b is =
      let few = some_within (may_wake g First) woken picked is.0 is.1 in
      let same = is.2 in
      omega (arith, few, same)
  rounds_within (Listed wakers) woken picked b is =
      let few = some_within (may_wake g (Listed wakers)) woken picked is.0 is.1 in
      let same = is.2 in
      omega (arith, few, same)
