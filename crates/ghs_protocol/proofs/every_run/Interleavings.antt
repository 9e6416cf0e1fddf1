-- What holds however the events of a run interleave, put together.
use Rattle.ghs_graph.specs.Graph.{Shape}
use Rattle.peer_network.specs.Network.{network_of}
use Rattle.ghs_protocol.specs.Net.{Net}
use Rattle.ghs_protocol.specs.Laws.{IsNetOf}
use Rattle.ghs_protocol.specs.Interleavings.{FragmentsAreLarge, RejectedLinksInside, RejectedMarksStay, EventsHaveRules, WorkHasReaction}
use Rattle.ghs_protocol.proofs.every_run.Firsts.{earlier, further}
use Rattle.peer_network.proofs.lemmas.Graphs.{graph_wired, graph_few}
use Rattle.ghs_protocol.proofs.every_run.Holds as runs
use Rattle.ghs_protocol.proofs.acts.Grounds.{graph_ground}

pub holds : (g : Shape) (w : Net) → IsNetOf g w → runs.Holds (network_of g) w
holds g w n = runs.after_holds (network_of g) (graph_ground g n.graph) (graph_few g n.graph) n.events w n.run

pub fragments_are_large : FragmentsAreLarge
fragments_are_large g w n = runs.large (network_of g) (graph_wired g n.graph) w (holds g w n)

pub rejected_links_inside : RejectedLinksInside
rejected_links_inside g w n = runs.rejected_inside (network_of g) (graph_wired g n.graph) w (holds g w n)

pub events_have_rules : EventsHaveRules
events_have_rules g w n = runs.has_rule (network_of g) (graph_wired g n.graph) w (holds g w n) n.graph.nodes

pub work_has_reaction : WorkHasReaction
work_has_reaction g w n = runs.has_reaction (network_of g) (graph_wired g n.graph) w (holds g w n) n.graph.nodes

pub rejected_marks_stay : RejectedMarksStay
rejected_marks_stay g w w' l v p =
    runs.rejected_stays (network_of g) (graph_ground g l.graph) l.further w w' (holds g w (earlier g w w' l)) (further g w w' l) v p
