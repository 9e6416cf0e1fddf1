-- What a node counts beside its state, so that a reaction needn't go over its ports.
use Rattle.std.specs.Prelude.{◌≡◌, ℕ, ◌<◌, ◌≤◌, ◌^◌, Bool, false, true, List, length, slice_index_or}
use Rattle.boruvka_node.specs.declared.port_state.PortState.{PortState}
use Rattle.boruvka_node.specs.State.{State, missing, no_port}
use Rattle.boruvka_node.specs.Words.{is_basic}

abbrev pub is_basic_at : List PortState → ℕ → Bool
is_basic_at ps k = is_basic (slice_index_or ps k no_port).mark

-- from place start on no port before place i is Basic; the one at i is, if there is one
pub record IsFirstBasic (ps : List PortState) (start i : ℕ) : Type 0 where
  pub from : start ≤ i
  pub within : i ≤ length ps
  pub before : (k : ℕ) → start ≤ k → k < i → is_basic_at ps k ≡ false
  pub here : i < length ps → is_basic_at ps i ≡ true

-- as many ports as a node may have, and the place of the first Basic one
pub record IsCursor (ps : List PortState) (i : ℕ) : Type 0 where
  pub few : length ps < 2 ^ 24
  pub first : IsFirstBasic ps 0 i

-- a key for each port, and how many ports a search wants for something from
pub record AreCounted (n : State) (count : ℕ) : Type 0 where
  pub keys : length n.keys ≡ length n.ports
  pub missing : count ≡ missing n
