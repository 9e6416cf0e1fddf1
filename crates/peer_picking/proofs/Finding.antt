-- The greatest rank is that of the Take that comes next.
use Rattle.std.proofs.Common.{◌≡◌, ℕ, ◌<◌, Bool, true, false, nat_lt, Some, length, get_or, slice_get, refl, ◌∙◌, ap, subst, ⊎_elim, arith}
use Rattle.std.proofs.lemmas.Bool.{and_from, and_parts, cases_Bool}
use Rattle.ghs_maxima.specs.Maxima.{AreZeros, IsGreatest}
use Rattle.peer_network.specs.declared.event.Event.{Event}
use Rattle.peer_network.specs.declared.event.Event.TheVariants.{Wake, Take}
use Rattle.peer_network.specs.Network.{At, Network, is_port}
use Rattle.peer_network.proofs.lemmas.Events.{at_of, is_port_of}
use Rattle.peer_index.specs.Places.{HasPlace, all_events, place}
use Rattle.peer_index.proofs.lemmas.Places.{only_place}
use Rattle.peer_machine.specs.Rules.{Rules}
use Rattle.peer_machine.specs.Net.{Net, is_lawful}
use Rattle.peer_picking.specs.LifoKept.{AreRanks, LatestState, rank_if}
use Rattle.peer_picking.specs.Latest.{IsLatest, NoTake}
use Rattle.peer_picking.specs.Newest.{Newest}
use Rattle.peer_picking.proofs.Apart.{AreOf}

rank_some : (b : Bool) (n : ℕ) → 0 < rank_if b n → b ≡ true
rank_some true n lt = refl
rank_some false n lt = absurd (omega (arith, lt))

module _ {S M : Type 0} (r : Rules S M) (g : Network) (w : Net S M) (n : Newest) (x : LatestState) (are : AreRanks g w n x) where
  -- a Take that is lawful is at a port
  at_port : (v p : ℕ) → is_lawful r g w (Take v p) ≡ true → At g v p
  at_port v p t = at_of g v p (and_parts (is_port g v p) _ t).0

  -- and its rank is its number
  rank_is : (v p : ℕ) → is_lawful r g w (Take v p) ≡ true → get_or x.ranks (place g (Take v p)) 0 ≡ n.last v p
  rank_is v p t = are.rank (Take v p) (at_port v p t) ∙ ap (λ b. rank_if b (n.last v p)) (and_parts (is_port g v p) _ t).1

  latest : (i : ℕ) (e : Event) → IsGreatest x.ranks i → HasPlace g e → i ≡ place g e → IsLatest r g w n e
  latest i (Wake v) most there is =
      let none = are.rank (Wake v) there in
      let some : 0 < get_or x.ranks (place g (Wake v)) 0 = subst (λ j. 0 < get_or x.ranks j 0) is most.some in
      absurd (omega (arith, none, some))
  latest i (Take v p) most there is =
      let some : 0 < get_or x.ranks (place g (Take v p)) 0 = subst (λ j. 0 < get_or x.ranks j 0) is most.some in
      let waits = rank_some (nat_lt 0 (length (w.queue v p))) (n.last v p) (subst (λ m. 0 < m) (are.rank (Take v p) there) some) in
      let lawful : is_lawful r g w (Take v p) ≡ true = and_from (is_port g v p) _ (is_port_of g v p there) waits in
      let own : get_or x.ranks i 0 ≡ n.last v p = ap (λ j. get_or x.ranks j 0) is ∙ rank_is v p lawful in
      (lawful, λ u q t. let le = most.greatest (place g (Take u q)) in let other = rank_is u q t in omega (arith, le, own, other))

  -- the event at the place of the greatest rank
  pub found : (i : ℕ) (e : Event) → IsGreatest x.ranks i → slice_get (all_events g) i ≡ Some e → IsLatest r g w n e
  found i e most at = let z = only_place g i e at in latest i e most z.0 z.1

  -- where all are 0
  pub found_none : AreOf r g w n → AreZeros x.ranks → NoTake r g w
  found_none of zeros v p = ⊎_elim
      (λ (t : is_lawful r g w (Take v p) ≡ true).
      let none = zeros (place g (Take v p)) in
      let is = rank_is v p t in
      let some = of.some v p (and_parts (is_port g v p) _ t).1 in
      absurd (omega (arith, none, is, some)))
      (λ f. f)
      (cases_Bool (is_lawful r g w (Take v p)))
