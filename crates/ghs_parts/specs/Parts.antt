-- The figures of a run by part.
use Rattle.std.specs.Prelude.{ℕ, ◌+◌, max, List, [], ◌∷◌, length, map}
use Rattle.std.specs.List.{range_with_len}
use Rattle.ghs_graph.specs.Graph.{Shape}
use Rattle.ghs_node.specs.declared.row_name.RowName.{RowName}
use Rattle.peer_network.specs.declared.event.Event.{Event}
use Rattle.peer_network.specs.Events.{event_node}
use Rattle.ghs_choices.specs.declared.by.By.{By}
use Rattle.ghs_choices.specs.declared.by.By.TheVariants.{Node, Level, Rule}
use Rattle.peer_parts.specs.Parts as parts
use Rattle.ghs_parts.specs.declared.part.Part.{Part}
use Rattle.ghs_parts.specs.Deeds.{Deed, deeds, sent_of}
use Rattle.ghs_parts.specs.Rule.{rule_place, rules}

-- the number of a part: of a node, of its level, or of the row that applied
abbrev pub place_of_part : By → ℕ → ℕ → RowName → ℕ
place_of_part Node v level row = v
place_of_part Level v level row = level
place_of_part Rule v level row = rule_place row

-- the part to which a deed belongs
abbrev pub part_of : By → Deed → ℕ
part_of by d = place_of_part by (event_node d.step.moment.event) d.level d.step.moment.row

-- a number of each deed, added up over those of part p
abbrev pub sum_in : By → ℕ → (Deed → ℕ) → List Deed → ℕ
sum_in by p number ds = parts.sum_in (part_of by) p number ds

-- how many messages of the kind at place k a run's part p has sent, and how many events it has
abbrev pub sent_by : By → Shape → List Event → ℕ → ℕ → ℕ
sent_by by g es p k = sum_in by p (sent_of k) (deeds g es)

abbrev pub events_by : By → Shape → List Event → ℕ → ℕ
events_by by g es p = sum_in by p (λ (d : Deed). 1) (deeds g es)

-- the greatest level of a node, 0 where nothing has happened
abbrev pub greatest_level : List Deed → ℕ
greatest_level [] = 0
greatest_level (d ∷ ds) = max d.level (greatest_level ds)

-- nodes are numbered from 1, levels and rows from 0
abbrev pub first_of : By → ℕ
first_of Node = 1
first_of Level = 0
first_of Rule = 0

-- how many parts there are: all nodes, the levels up to the greatest, all rows
abbrev pub count_of : By → Shape → List Event → ℕ
count_of Node g es = g.nodes
count_of Level g es = greatest_level (deeds g es) + 1
count_of Rule g es = length rules

-- what the deeds of part p come to
abbrev pub sums_of : By → List Deed → ℕ → Part
sums_of by ds p = record { events = sum_in by p (λ (d : Deed). 1) ds; kinds = map (λ k. sum_in by p (sent_of k) ds) (range_with_len 0 7) }

-- the parts of a run, from the first on
abbrev pub parts_of : By → Shape → List Event → List Part
parts_of by g es = map (sums_of by (deeds g es)) (range_with_len (first_of by) (count_of by g es))
