-- Which event comes next in turn: lap after lap the places of all events are gone over in their order, and what may happen when its place comes
-- happens.
use Rattle.std.specs.Prelude.{◌≡◌, ℕ, suc, ◌<◌, ◌≤◌, ◌⊎◌, Bool, true, List, [], ◌∷◌}
use Rattle.peer_network.specs.declared.event.Event.{Event}
use Rattle.peer_network.specs.declared.event.Event.TheVariants.{Wake, Take}
use Rattle.peer_network.specs.Network.{Network}
use Rattle.ghs_protocol.specs.Net.{Net, is_lawful_under}
use Rattle.peer_index.specs.Places.{place}

-- of the events that may happen under the wake set it is the first at this place or a later one
pub record IsFirstFrom (may : ℕ → Bool) (g : Network) (w : Net) (from : ℕ) (e : Event) : Type 0 where
  pub lawful : is_lawful_under may g w e ≡ true
  pub here : from ≤ place g e
  pub first : (f : Event) → is_lawful_under may g w f ≡ true → from ≤ place g f → place g e ≤ place g f

-- none of them stands there
abbrev pub NoneFrom : (ℕ → Bool) → Network → Net → ℕ → Type 0
NoneFrom may g w from = (f : Event) → is_lawful_under may g w f ≡ true → place g f < from

-- Where a lap has come to this place, the first from there on is next; where there is none the next lap begins, with the first of all.
abbrev pub IsNextInTurn : (ℕ → Bool) → Network → Net → ℕ → Event → Type 0
IsNextInTurn may g w from e = IsFirstFrom may g w from e ⊎ (NoneFrom may g w from × IsFirstFrom may g w 0 e)

-- how many of a node's ports stand at an event's place or before it
abbrev pub ports_done : Event → ℕ
ports_done (Wake v) = 0
ports_done (Take v p) = suc p

-- to which place a lap has come: that behind the last event; the first lap begins at the first place
abbrev pub behind_from : Network → ℕ → List Event → ℕ
behind_from g from [] = from
behind_from g from (e ∷ es) = behind_from g (suc (place g e)) es

abbrev pub place_behind : Network → List Event → ℕ
place_behind g es = behind_from g 0 es
