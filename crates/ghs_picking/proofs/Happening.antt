-- Events that happen and are followed.
use Rattle.std.proofs.Common.{◌≡◌, ◌≤◌, ◌<◌, ◌+◌, ◌^◌, ℕ, true, Option, Some, List, [], ◌∷◌, ◌++◌, length, sym, ◌∙◌, ap, subst, arith}
use Rattle.std.specs.Prelude.{IfOk, Result, Ok, Err}
use Rattle.std.proofs.lemmas.Option.{same_Some}
use Rattle.ghs_graph.specs.Graph.{Shape}
use Rattle.peer_network.specs.Network.{network_of}
use Rattle.ghs_sched.specs.Runs.{IsEnd}
use Rattle.ghs_sched.specs.declared.fault.RunFault.{RunFault}
use Rattle.ghs_sched.specs.declared.fault.RunFault.TheVariants.{TurnLimit, Memory}
use Rattle.ghs_sched.specs.declared.run.RunEnd.{RunEnd}
use Rattle.peer_network.specs.declared.wake_set.WakeSet.{WakeSet}
use Rattle.ghs_following.specs.Chains.{longest_chain}
use Rattle.ghs_picking.specs.Picking.{AreRounds}
use Rattle.ghs_choices.specs.declared.schedule_kind.ScheduleKind.TheVariants.{Rounds}
use Rattle.ghs_picking.proofs.BySeed.{has_ended}
use Rattle.std.proofs.lemmas.Bool.{and_parts, ltb-true}
use Rattle.peer_network.specs.declared.event.Event.{Event}
use Rattle.ghs_core.specs.NetState.{NetState, network}
use Rattle.ghs_world.specs.Steps.{Makes}
use Rattle.ghs_world.specs.WorldState.{WorldState, has_turn}
use Rattle.ghs_following.proofs.lemmas.Moved.{moved}

-- where a turn is left, there were few events
pub few_left : (s : WorldState) (turns : ℕ) → turns ≡ s.turns → turns ≤ 2 ^ 40 → has_turn s ≡ true → length s.net.trace < 2 ^ 40
few_left s turns is few left =
    let lt : length s.net.trace + length s.outs < s.turns = ltb-true _ _ (and_parts _ _ left).0 in
    omega (arith, lt, is, few)

-- what is kept of a run once an event has happened is kept of its world
pub made_kept : {K : Type 0} (is_of : Shape → List Event → K → Type 0) (s new : WorldState) (n : NetState) (e : Event) (k : K) → n ≡ s.net →
    is_of n.graph (n.trace ++ e ∷ []) k → Makes s e new → is_of new.net.graph new.net.trace k
made_kept is_of s new n e k same then made =
    let before = subst (λ (m : NetState). is_of m.graph (m.trace ++ e ∷ []) k) same then in
    moved is_of s.net.graph new.net.graph (s.net.trace ++ e ∷ []) new.net.trace k made.graph made.trace before

-- the rounds of a run that has ended are its longest chain
pub rounds_are_chain : (seed : ℕ) (wake : WakeSet) (turns : ℕ) (g : Shape) (new : WorldState) (o : Option ℕ) (n : ℕ)
    (r : Result RunEnd RunFault) (e : RunEnd) →
    new.net.graph ≡ g → AreRounds Rounds seed wake turns g new.net.trace o → o ≡ Some n → IfOk r (λ x. IsEnd new x) → r ≡ Ok e →
    n ≡ longest_chain (network new.net) new.net.trace
rounds_are_chain seed wake turns g new o n r e graph rounds some end ok =
    let is : IsEnd new e = subst (λ (x : Result RunEnd RunFault). IfOk x (λ y. IsEnd new y)) ok end in
    let same : n ≡ rounds.0 = same_Some n rounds.0 (sym some ∙ rounds.1) in
    same ∙ sym (rounds.2.chain (has_ended g new e graph is)) ∙ ap (λ (s : Shape). longest_chain (network_of s) new.net.trace) (sym graph)

-- a run that has stopped for another cause than memory
pub ended_well : (e : RunEnd) → ◌≡◌ {A = Result RunEnd RunFault} (Ok e) (Err Memory) → ⊥
ended_well e h = cc

pub stopped_well : (f : RunFault) → f ≡ TurnLimit → ◌≡◌ {A = Result RunEnd RunFault} (Err f) (Err Memory) → ⊥
stopped_well f limit h = let z : ◌≡◌ {A = Result RunEnd RunFault} (Err TurnLimit) (Err Memory) = sym (ap Err limit) ∙ h in cc
