-- What holds of the figures of every run.
use Rattle.std.specs.Prelude.{◌≡◌, ℕ, ◌≤◌, List, length}
use Rattle.ghs_graph.specs.Graph.{Shape, IsGraph}
use Rattle.ghs_node.specs.declared.row_name.RowName.{RowName}
use Rattle.peer_network.specs.declared.event.Event.{Event}
use Rattle.peer_network.specs.Sums.{sum_below, sum_over_nodes}
use Rattle.peer_network.specs.Network.{network_of}
use Rattle.ghs_protocol.specs.Run.{IsRun, net_after}
use Rattle.ghs_choices.specs.declared.by.By.TheVariants.{Node, Level, Rule}
use Rattle.ghs_parts.specs.Deeds.{deeds}
use Rattle.ghs_parts.specs.Parts.{count_of, events_by, greatest_level, sent_by}
use Rattle.ghs_parts.specs.Rule.{rule_at, rule_place}

-- what all nodes have sent of the kind at place k is what was sent of it
abbrev pub NodesAddUp : Type 0
NodesAddUp =
    (g : Shape) (es : List Event) (k : ℕ) → IsRun (network_of g) es →
    sum_over_nodes (network_of g) (λ v. sent_by Node g es v k) ≡ (net_after g es).sent k

-- so is what was sent of it at all levels
abbrev pub LevelsAddUp : Type 0
LevelsAddUp =
    (g : Shape) (es : List Event) (k : ℕ) → IsRun (network_of g) es →
    sum_below (count_of Level g es) (λ l. sent_by Level g es l k) ≡ (net_after g es).sent k

-- each event has one row
abbrev pub RulesAddUp : Type 0
RulesAddUp = (g : Shape) (es : List Event) → sum_below (count_of Rule g es) (λ r. events_by Rule g es r) ≡ length es

-- No node is above the greatest level at the end, and no lesser number has this: levels don't fall.
abbrev pub GreatestIsOfNodes : Type 0
GreatestIsOfNodes =
    (g : Shape) (es : List Event) (b : ℕ) → IsGraph g → IsRun (network_of g) es →
    ((v : ℕ) → ((net_after g es).node v).head.level ≤ greatest_level (deeds g es)) ×
    (((v : ℕ) → 1 ≤ v → v ≤ g.nodes → ((net_after g es).node v).head.level ≤ b) → greatest_level (deeds g es) ≤ b)

-- the row at a row's place is itself
abbrev pub PlacesAreRules : Type 0
PlacesAreRules = (r : RowName) → rule_at (rule_place r) ≡ r
