-- Rounds in which each queue has one turn: two of them do what one with two turns does.
use Rattle.std.proofs.Common.{◌≡◌, ℕ, zero, suc, ◌≤◌, ◌+◌, ◌*◌, List, [], ◌∷◌, ◌++◌, length, refl, subst, ⊎_elim, arith}
use Rattle.std.specs.List.{All}
use Rattle.ghs_graph.specs.Graph.{Shape, IsGraph}
use Rattle.peer_network.specs.declared.event.Event.{Event}
use Rattle.peer_network.specs.Network.{Network, network_of}
use Rattle.ghs_protocol.specs.Net.{Net}
use Rattle.ghs_protocol.specs.Ledger.{in_all}
use Rattle.ghs_protocol.specs.Laws.{IsNetOf}
use Rattle.ghs_protocol.specs.Living.{if_can, all_that_can, Stands, Now, Soon, StandsTwice, Now_and_soon, Soon_twice, Comes}
use Rattle.ghs_protocol.specs.Fairness.{IsSingleRound, SingleRoundsEnd}
use Rattle.ghs_protocol.proofs.charges.Bound.{sends_within}
use Rattle.ghs_protocol.proofs.progress.Finish.{reached, component, going}
use Rattle.ghs_protocol.proofs.progress.Rounds.{net_all, round_gets_on, at_most, onto}
use Rattle.ghs_protocol.proofs.progress.Runs.{no_run_is_stuck}

pub stands_behind : {e : Event} (es : List Event) {fs : List Event} → Stands e fs → Stands e (es ++ fs)
stands_behind [] s = s
stands_behind (x ∷ es) s = Soon (stands_behind es s)

stands_in_both : {e : Event} {es fs : List Event} → Stands e es → Stands e fs → StandsTwice e (es ++ fs)
stands_in_both (Now {es = es}) t = Now_and_soon (stands_behind es t)
stands_in_both (Soon s) t = Soon_twice (stands_in_both s t)

all_append : (g : Network) (es fs : List Event) (w : Net) → all_that_can g w (es ++ fs) ≡ all_that_can g (all_that_can g w es) fs
all_append g [] fs w = refl
all_append g (e ∷ es) fs w = all_append g es fs (if_can g w e)

module _ (g : Shape) (graph : IsGraph g) (b : ℕ) (within : (w : Net) → IsNetOf g w → in_all w.sent ≤ b) where
  comes : (k : ℕ) (rs : List (List Event)) →
      All (IsSingleRound (network_of g)) rs →
      (w : Net) → IsNetOf g w →
      b + g.nodes ≤ k + reached (network_of g) w →
      2 * k ≤ length rs →
      Comes (network_of g) w rs
  comes zero rs rounds w n le enough =
      ⊎_elim
      (λ z.
      absurd
      (at_most g graph b within w n (omega (arith, le)) (component g graph z.0) (no_run_is_stuck g w n (component g graph z.0) z.1)))
      (λ all. record { first = []; others = rs; whole = refl; ended = all })
      (going g graph w)
  comes (suc k) [] rounds w n le enough = absurd (omega (arith, enough))
  comes (suc k) (es ∷ []) rounds w n le enough = absurd (omega (arith, enough))
  comes (suc k) (es ∷ (fs ∷ rs)) rounds w n le enough =
      ⊎_elim
      (λ z.
      let a = round_gets_on g graph w n (component g graph z.0) (no_run_is_stuck g w n (component g graph z.0) z.1) (es ++ fs)
      (λ v p at. stands_in_both (rounds 0 es (omega arith) v p at) (rounds 1 fs (omega arith) v p at)) in
      let c = subst (λ x. suc (reached (network_of g) w) ≤ reached (network_of g) x) (all_append (network_of g) es fs w) a in
      onto g graph b within w es (fs ∷ rs)
      (onto g graph b within (all_that_can (network_of g) w es) fs rs
      (comes k rs (λ i d lt. rounds (suc (suc i)) d (omega (arith, lt))) (all_that_can (network_of g) (all_that_can (network_of g) w es) fs)
      (net_all g graph fs (all_that_can (network_of g) w es) (net_all g graph es w n)) (omega (arith, le, c)) (omega (arith, enough)))))
      (λ all. record { first = []; others = es ∷ (fs ∷ rs); whole = refl; ended = all })
      (going g graph w)

pub single_rounds_end : SingleRoundsEnd
single_rounds_end g w n b is rs rounds enough = comes g n.graph b (λ x m. sends_within g x m b is) (b + g.nodes) rs rounds w n (omega arith) enough
