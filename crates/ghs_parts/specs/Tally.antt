-- How the parts are kept while a run is gone over.
use Rattle.std.specs.Prelude.{◌≡◌, ◌≢◌, ℕ, ◌+◌, ◌<◌, ◌≤◌, List, [], length, slice_index, take}
use Rattle.std.specs.List.{slice_index_or}
use Rattle.ghs_graph.specs.Graph.{Shape}
use Rattle.ghs_node.specs.declared.level.TheConstants.{TOP_LEVEL}
use Rattle.ghs_node.specs.Words.{Outgoing}
use Rattle.ghs_core.specs.Dispatch.{CountsSends}
use Rattle.peer_network.specs.declared.event.Event.{Event}
use Rattle.ghs_choices.specs.declared.by.By.{By}
use Rattle.ghs_choices.specs.declared.by.By.TheVariants.{Node, Level, Rule}
use Rattle.ghs_parts.specs.declared.part.Part.{Part}
use Rattle.ghs_parts.specs.Deeds.{Deed, deeds, sent_of}
use Rattle.ghs_parts.specs.Parts.{first_of, greatest_level, sum_in}
use Rattle.ghs_parts.specs.Rule.{rules}

abbrev pub no_part : Part
no_part = record { events = 0; kinds = [] }

-- the part at a place, from 0 on
abbrev pub part_at : List Part → ℕ → Part
part_at parts i = slice_index_or parts i no_part

-- it is what the deeds of part p come to
pub record IsPart (by : By) (ds : List Deed) (p : ℕ) (part : Part) : Type 0 where
  pub events : part.events ≡ sum_in by p (λ (d : Deed). 1) ds
  pub kinds : (k : ℕ) → k < 7 → slice_index part.kinds k ≡ sum_in by p (sent_of k) ds
  pub width : length part.kinds ≡ 7

-- they are the parts from the first on
abbrev pub AreParts : By → List Deed → List Part → Type 0
AreParts by ds parts = (i : ℕ) → i < length parts → IsPart by ds (first_of by + i) (part_at parts i)

-- how many parts there may be
abbrev pub room_of : By → Shape → ℕ
room_of Node g = g.nodes
room_of Level g = TOP_LEVEL + 1
room_of Rule g = length rules

-- as far as these events, all parts that may be, and the greatest level by then
pub record IsTally (by : By) (g : Shape) (es : List Event) (parts : List Part) (level : ℕ) : Type 0 where
  pub room : length parts ≡ room_of by g
  pub are : AreParts by (deeds g es) parts
  pub greatest : level ≡ greatest_level (deeds g es)
  pub most : level ≤ TOP_LEVEL

-- the part at a place has an event more, which sends these messages
pub record HasAdded (place : ℕ) (sends : Outgoing) (old new : List Part) : Type 0 where
  pub count : length new ≡ length old
  pub events : (part_at new place).events ≡ (part_at old place).events + 1
  pub kinds : CountsSends sends (part_at old place).kinds (part_at new place).kinds
  pub width : length (part_at new place).kinds ≡ length (part_at old place).kinds
  pub others : (i : ℕ) → i ≢ place → part_at new i ≡ part_at old i

-- those that a run has
abbrev pub parts_kept : By → List Part → ℕ → List Part
parts_kept Node parts level = parts
parts_kept Level parts level = take (level + 1) parts
parts_kept Rule parts level = parts
