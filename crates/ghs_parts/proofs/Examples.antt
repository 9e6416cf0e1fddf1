-- Small runs, computed from the definitions.
use Rattle.std.proofs.Common.{◌≡◌, List, [], ◌∷◌, refl}
use Rattle.ghs_graph.specs.Graph.{Shape}
use Rattle.ghs_graph.specs.Ports.{ports_of}
use Rattle.peer_network.specs.declared.event.Event.{Event}
use Rattle.peer_network.specs.declared.event.Event.TheVariants.{Wake, Take}
use Rattle.ghs_protocol.specs.Run.{net_after}
use Rattle.ghs_choices.specs.declared.by.By.TheVariants.{Node, Level, Rule}
use Rattle.ghs_parts.specs.Deeds.{deeds}
use Rattle.ghs_parts.specs.Parts.{events_by, greatest_level, sent_by}
use Rattle.ghs_parts.specs.Rule.{rule_place}
use Rattle.ghs_node.specs.declared.row_name.RowName.TheVariants as names

-- two nodes and a link of weight 5
abbrev pair : Shape
pair = record { nodes = 2; keys = record { weight = 5; a = 1; b = 2 } ∷ [] }

-- Node 1 wakes, and its Connect wakes node 2, which sends a Connect and an Initiate in one event.
abbrev woken : List Event
woken = Wake 1 ∷ Take 2 0 ∷ []

woken_one : sent_by Node pair woken 1 0 ≡ 1
unfolding net_after ports_of
woken_one = refl

woken_two : sent_by Node pair woken 2 0 ≡ 1
unfolding net_after ports_of
woken_two = refl

woken_initiate : sent_by Node pair woken 2 1 ≡ 1
unfolding net_after ports_of
woken_initiate = refl

woken_rule : events_by Rule pair woken (rule_place names.WokenMerges) ≡ 1
unfolding net_after ports_of
woken_rule = refl

-- Both wake, merge, search and report: two Connects and two Initiates go out at level 0, two Reports at level 1.
abbrev whole : List Event
whole = Wake 1 ∷ Wake 2 ∷ Take 1 0 ∷ Take 2 0 ∷ Take 1 0 ∷ Take 2 0 ∷ Take 1 0 ∷ []

whole_low : sent_by Level pair whole 0 1 ≡ 2
unfolding net_after ports_of
whole_low = refl

whole_high : sent_by Level pair whole 1 5 ≡ 2
unfolding net_after ports_of
whole_high = refl

whole_top : greatest_level (deeds pair whole) ≡ 1
unfolding net_after ports_of
whole_top = refl

whole_merges : events_by Rule pair whole (rule_place names.ConnectMerges) ≡ 2
unfolding net_after ports_of
whole_merges = refl

whole_halts : events_by Rule pair whole (rule_place names.ReportHalts) ≡ 1
unfolding net_after ports_of
whole_halts = refl

-- Three nodes in a row. Nodes 1 and 2 merge, node 2 tests the link to node 3, which is asleep: it wakes, sends its Connect,
-- and puts the Test back, twice. The Test counts for node 2 alone, and once.
abbrev three : Shape
three = record { nodes = 3; keys = record { weight = 5; a = 1; b = 2 } ∷ record { weight = 7; a = 2; b = 3 } ∷ [] }

abbrev tested : List Event
tested = Wake 1 ∷ Wake 2 ∷ Take 1 0 ∷ Take 2 0 ∷ Take 2 0 ∷ Take 3 0 ∷ Take 3 0 ∷ []

tested_sender : sent_by Node three tested 2 2 ≡ 1
unfolding net_after ports_of
tested_sender = refl

tested_receiver : sent_by Node three tested 3 2 ≡ 0
unfolding net_after ports_of
tested_receiver = refl

tested_waits : events_by Rule three tested (rule_place names.TestWaits) ≡ 1
unfolding net_after ports_of
tested_waits = refl
