-- An index of a network's events: some of them are marked.
use Rattle.std.specs.Prelude.{◌≡◌, ℕ, suc, ◌+◌, ◌-◌, ◌<◌, ◌≤◌, Bool, List, length, map, slice_index}
use Rattle.std.specs.List.{Contains}
use Rattle.peer_network.specs.declared.event.Event.{Event}
use Rattle.peer_network.specs.Network.{Network}
use Rattle.ghs_flags.specs.Flags.{at}
use Rattle.peer_index.specs.declared.ends.Ends.{Ends}
use Rattle.peer_index.specs.Places.{events_to, all_events, far_place, place, HasPlace}

-- where the events of each node begin among all events, the far place of each event, and which events are marked
pub record IndexState : Type 0 where
  pub bases : List ℕ
  pub fars : List ℕ
  pub marks : List Bool

-- Of the nodes 1 to n the places of their first events, and behind them how many events they have. The number 0 is no node.
pub record AreBases (g : Network) (n : ℕ) (bases : List ℕ) : Type 0 where
  pub count : length bases ≡ n + 2
  pub base : (m : ℕ) → m ≤ n → slice_index bases (suc m) ≡ length (events_to g m)

-- an event of node v stands at the place
pub record IsOwner (bases : List ℕ) (at v : ℕ) : Type 0 where
  pub node : 1 ≤ v
  pub last : v + 1 < length bases
  pub from : slice_index bases v ≤ at
  pub to : at < slice_index bases (v + 1)

-- of each place the node whose event stands there
pub record AreOwners (bases owners : List ℕ) : Type 0 where
  pub count : length owners ≡ slice_index bases (length bases - 1)
  pub owner : (at : ℕ) → at < length owners → IsOwner bases at (slice_index owners at)

-- of events, one after another, the far places
abbrev pub AreFars : Network → List Event → List ℕ → Type 0
AreFars g es fars = fars ≡ map (far_place g) es

-- of each place where the events of its owner begin
abbrev pub AreOwnBases : List ℕ → List ℕ → List ℕ → Type 0
AreOwnBases bases owners own = own ≡ map (λ (v : ℕ). slice_index bases v) owners

-- the owners, the far places and the owners' bases, that stand side by side in one list
abbrev pub owners_in : List Ends → List ℕ
owners_in ends = map (λ (e : Ends). e.owner) ends

abbrev pub fars_in : List Ends → List ℕ
fars_in ends = map (λ (e : Ends). e.far) ends

abbrev pub own_bases_in : List Ends → List ℕ
own_bases_in ends = map (λ (e : Ends). e.base) ends

-- of the first events the owners, far places and owners' bases
pub record AreEnds (g : Network) (bases : List ℕ) (es : List Event) (ends : List Ends) : Type 0 where
  pub owner : (at : ℕ) → at < length ends → IsOwner bases at (slice_index (owners_in ends) at)
  pub fars : AreFars g es (fars_in ends)
  pub own : AreOwnBases bases (owners_in ends) (own_bases_in ends)

-- the index has a far place and a mark for each event of the network
pub record IsFor (g : Network) (x : IndexState) : Type 0 where
  pub bases : AreBases g g.count x.bases
  pub fars : AreFars g (all_events g) x.fars
  pub many : length x.marks ≡ length (all_events g)

-- the marked events are those that pass
pub record IsIndexOf (g : Network) (p : Event → Bool) (x : IndexState) : Type 0 where
  pub bases : AreBases g g.count x.bases
  pub fars : AreFars g (all_events g) x.fars
  pub marks : x.marks ≡ map p (all_events g)

-- the same, but perhaps for some events
pub record IsIndexBut (g : Network) (p : Event → Bool) (some : List Event) (x : IndexState) : Type 0 where
  pub index : IsFor g x
  pub marks : (e : Event) → HasPlace g e → (Contains some e → ⊥) → at x.marks (place g e) ≡ p e
