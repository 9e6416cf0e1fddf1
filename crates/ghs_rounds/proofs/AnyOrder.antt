-- Runs by rounds in whatever order, where the events of a round are told by the chains.
use Rattle.std.proofs.Common.{◌≡◌, ℕ, suc, Bool, List, [], ◌∷◌, ◌++◌}
use Rattle.std.specs.List.{Contains}
use Rattle.ghs_graph.specs.Graph.{Shape}
use Rattle.peer_network.specs.declared.event.Event.{Event}
use Rattle.ghs_protocol.specs.Marks.{HasEnded}
use Rattle.ghs_protocol.specs.Run.{net_after}
use Rattle.ghs_patient.proofs.lemmas.Picked.{picked_in}
use Rattle.ghs_rounds.specs.Rounds.{events_in}
use Rattle.ghs_rounds.specs.Runs.{IsPickedByRounds}
use Rattle.ghs_rounds.specs.Runs as runs

pub data FromByNumbers (may : ℕ → Bool) (g : Shape) (start : List Event) (first : ℕ) : List Event → ℕ → Type 0 where
  Begun : FromByNumbers may g start first start first
  Went : (es : List Event) (r : ℕ) (e : Event) → FromByNumbers may g start first es r → (HasEnded g (net_after g es) → ⊥) →
      Contains (events_in may g es r) e → FromByNumbers may g start first (es ++ e ∷ []) r
  Over : (es : List Event) (r : ℕ) → FromByNumbers may g start first es r → (HasEnded g (net_after g es) → ⊥) → events_in may g es r ≡ [] →
      FromByNumbers may g start first es (suc r)

abbrev pub ByNumbers : (ℕ → Bool) → Shape → List Event → ℕ → Type 0
ByNumbers may g es r = FromByNumbers may g [] 0 es r

-- one that goes on is a run from where the first began
pub goes_on : (may : ℕ → Bool) (g : Shape) (start : List Event) (first : ℕ) → ByNumbers may g start first →
    (es : List Event) (r : ℕ) → FromByNumbers may g start first es r → ByNumbers may g es r
goes_on may g start first by _ _ Begun = by
goes_on may g start first by _ _ (Went es r e so_far going one) = Went es r e (goes_on may g start first by es r so_far) going one
goes_on may g start first by _ _ (Over es r so_far going over) = Over es r (goes_on may g start first by es r so_far) going over

-- a schedule's order is one
pub by_numbers : (may : ℕ → Bool) (g : Shape) (turns : ℕ) (words : List ℕ) (es : List Event) (r : ℕ) (s : List ℕ) →
    IsPickedByRounds may g turns words es r s → ByNumbers may g es r
by_numbers may g turns words _ _ _ runs.Begun = Begun
by_numbers may g turns words _ _ _ (runs.Picked es r s e before going less pick) =
    Went es r e (by_numbers may g turns words es r s before) going (picked_in (events_in may g es r) s e pick)
by_numbers may g turns words _ _ _ (runs.Over es r s before going less over) =
    Over es r (by_numbers may g turns words es r s before) going over
