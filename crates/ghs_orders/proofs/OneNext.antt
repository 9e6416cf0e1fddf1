-- One event at most is next in turn.
use Rattle.std.proofs.Common.{◌≡◌, ℕ, Bool, ⊎_elim, arith}
use Rattle.peer_network.specs.declared.event.Event.{Event}
use Rattle.peer_network.specs.Network.{Network}
use Rattle.ghs_protocol.specs.Net.{Net}
use Rattle.peer_index.proofs.lemmas.Places.{place_apart}
use Rattle.ghs_patient.proofs.lemmas.Places.{lawful_place}
use Rattle.ghs_orders.specs.RoundRobinLaws.{TurnIsOne}
use Rattle.ghs_orders.specs.Turns.{IsFirstFrom, IsNextInTurn, NoneFrom}

module _ (may : ℕ → Bool) (g : Network) (w : Net) where
  first_is_one : (from : ℕ) (e f : Event) → IsFirstFrom may g w from e → IsFirstFrom may g w from f → e ≡ f
  first_is_one from e f a b =
      let le = a.first f b.lawful b.here in
      let ge = b.first e a.lawful a.here in
      place_apart g e f (lawful_place may g w e a.lawful) (lawful_place may g w f b.lawful) (omega (arith, le, ge))

  not_both : (from : ℕ) (e : Event) {C : Type 0} → IsFirstFrom may g w from e → NoneFrom may g w from → C
  not_both from e a none = absurd (let lt = none e a.lawful in let le = a.here in omega (arith, lt, le))

  one : (from : ℕ) (e f : Event) → IsNextInTurn may g w from e → IsNextInTurn may g w from f → e ≡ f
  one from e f x y = ⊎_elim
      (λ (a : IsFirstFrom may g w from e). ⊎_elim (λ (b : IsFirstFrom may g w from f). first_is_one from e f a b) (λ b. not_both from e a b.0) y)
      (λ a. ⊎_elim (λ (b : IsFirstFrom may g w from f). not_both from f b a.0) (λ b. first_is_one 0 e f a.1 b.1) y)
      x

pub turn_is_one : TurnIsOne
turn_is_one may g w from e f x y = one may g w from e f x y
