-- The greatest rank is that of the Take that comes next.
use Rattle.std.proofs.Common.{◌≡◌, ℕ, suc, ◌<◌, Bool, true, false, Some, List, get_or, refl, ◌∙◌, ap, subst, ⊎_elim, arith, slice_get}
use Rattle.std.proofs.lemmas.Bool.{and_parts, cases_Bool}
use Rattle.ghs_maxima.specs.Maxima.{AreZeros, IsGreatest}
use Rattle.peer_network.specs.declared.event.Event.{Event}
use Rattle.peer_network.specs.declared.event.Event.TheVariants.{Wake, Take}
use Rattle.peer_network.specs.Network.{is_port, At}
use Rattle.peer_network.proofs.lemmas.Events.{at_of}
use Rattle.ghs_core.specs.NetState.{network}
use Rattle.peer_index.specs.Places.{HasPlace, all_events, place}
use Rattle.peer_index.proofs.lemmas.Places.{only_place}
use Rattle.ghs_world.specs.WorldState.{WorldState}
use Rattle.ghs_patient.specs.Choices.{moves_in}
use Rattle.ghs_orders.specs.Kept.{AreNumbers, AreRanks, NumbersState, rank_if}
use Rattle.ghs_orders.specs.LifoRuns.{IsLatestIn, NoTakeMovesIn, newest_in}

rank_some : (b : Bool) (n : ℕ) → 0 < rank_if b n → b ≡ true
rank_some true n lt = refl
rank_some false n lt = absurd (omega (arith, lt))

module _ (s : WorldState) (k : NumbersState) (ranks : List ℕ) (numbers : AreNumbers (network s.net) (newest_in s) k)
    (are : AreRanks s k.newest ranks) where
  -- a Take that moves the run on is at a port
  at_port : (v p : ℕ) → moves_in s (Take v p) ≡ true → At (network s.net) v p
  at_port v p t = at_of (network s.net) v p (and_parts (is_port (network s.net) v p) _ (and_parts _ _ t).0).0

  -- and has one more than its number
  rank_is : (v p : ℕ) → moves_in s (Take v p) ≡ true → get_or ranks (place (network s.net) (Take v p)) 0 ≡ suc ((newest_in s).last v p)
  rank_is v p t =
      are.rank (Take v p) (at_port v p t) ∙ ap (λ b. rank_if b (get_or k.newest (place (network s.net) (Take v p)) 0)) t
      ∙ ap suc (numbers.last v p (at_port v p t))

  latest : (i : ℕ) (e : Event) → IsGreatest ranks i → HasPlace (network s.net) e → i ≡ place (network s.net) e → IsLatestIn s e
  latest i (Wake v) most there is =
      let none = are.rank (Wake v) there in
      let some : 0 < get_or ranks (place (network s.net) (Wake v)) 0 = subst (λ j. 0 < get_or ranks j 0) is most.some in
      absurd (omega (arith, none, some))
  latest i (Take v p) most there is =
      let some : 0 < get_or ranks (place (network s.net) (Take v p)) 0 = subst (λ j. 0 < get_or ranks j 0) is most.some in
      let moves : moves_in s (Take v p) ≡ true =
      rank_some (moves_in s (Take v p)) (get_or k.newest (place (network s.net) (Take v p)) 0)
      (subst (λ n. 0 < n) (are.rank (Take v p) there) some) in
      let own : get_or ranks i 0 ≡ suc ((newest_in s).last v p) = ap (λ j. get_or ranks j 0) is ∙ rank_is v p moves in
      (moves, λ u q t. let le = most.greatest (place (network s.net) (Take u q)) in let other = rank_is u q t in omega (arith, le, own, other))

  -- the event at the place of the greatest rank
  pub found : (i : ℕ) (e : Event) → IsGreatest ranks i → slice_get (all_events (network s.net)) i ≡ Some e → IsLatestIn s e
  found i e most at = let z = only_place (network s.net) i e at in latest i e most z.0 z.1

  -- where all are 0
  pub found_none : AreZeros ranks → NoTakeMovesIn s
  found_none zeros v p = ⊎_elim
      (λ (t : moves_in s (Take v p) ≡ true).
      let none = zeros (place (network s.net) (Take v p)) in let is = rank_is v p t in absurd (omega (arith, none, is)))
      (λ f. f)
      (cases_Bool (moves_in s (Take v p)))
