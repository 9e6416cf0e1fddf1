-- What the clock asks of an event before it hears of it.
use Rattle.std.proofs.Common.{ℕ, ◌-◌, ◌^◌, ◌<◌, Bool, length, sym, subst, arith}
use Rattle.ghs_node.specs.declared.delta.Fate.{Fate}
use Rattle.peer_network.specs.declared.event.Event.{Event}
use Rattle.ghs_core.specs.NetState.{NetState, network}
use Rattle.peer_chains.specs.Chains.{Chains, hears}
use Rattle.ghs_following.specs.Chains.{is_deferred}
use Rattle.peer_chains.specs.Kept.{Kept, seen}
use Rattle.ghs_following.specs.Kept.{AreChains}
use Rattle.peer_chains.proofs.lemmas.Bounding.{IsWithin, hears_within}
use Rattle.ghs_following.proofs.lemmas.Bounding.{run_within}

-- no number comes near the end of its range
pub hears_small : (s : NetState) (k : Kept) (e : Event) (asleep : Bool) (f : Fate) → AreChains s k → length s.trace < 2 ^ 41 →
    (v : ℕ) → (hears e asleep (is_deferred f) (seen k)).node v < 2 ^ 64 - 1
hears_small s k e asleep f are few v =
    let n = length s.trace in
    let within : IsWithin n n (seen k) = subst (λ (c : Chains). IsWithin n n c) (sym are.same) (run_within (network s) s.trace) in
    let at = (hears_within e n asleep (is_deferred f) (seen k) within).node v in
    omega (arith, at, few)
