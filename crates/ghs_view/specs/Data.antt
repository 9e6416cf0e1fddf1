-- The data of a run: the network, the words of the protocol, the steps from the opening on, and the counts behind the last of them.
use Rattle.std.specs.Prelude.{ℕ, List, ◌++◌, length}
use Rattle.std.specs.List.{flat_map}
use Rattle.ghs_view.specs.declared.protocol.TheConstants.{PROTOCOL}
use Rattle.ghs_graph.specs.Graph.{Shape}
use Rattle.peer_network.specs.declared.event.Event.{Event}
use Rattle.ghs_protocol.specs.Ledger.{waiting}
use Rattle.ghs_protocol.specs.Net.{Net}
use Rattle.peer_network.specs.Network.{Network, network_of}
use Rattle.ghs_protocol.specs.Run.{net_after}
use Rattle.peer_page.specs.Counts.{counts_line}
use Rattle.peer_page.specs.Head.{head_json}
use Rattle.peer_page.specs.Links.{link_json}
use Rattle.ghs_steps.specs.Json.{step_json}
use Rattle.ghs_steps.specs.Step.{steps}

-- the counts of a net after so many events, of the seven kinds
abbrev pub ledger_json : Network → ℕ → Net → List ℕ
ledger_json n events w = counts_line 7 events w.sent w.consumed w.requeued (waiting n w)

-- the network, the words of the protocol, the links in key order, the steps of the events that are shown, and the counts behind
-- them; the run has so many events in all, and opens before one of them
abbrev pub data_json : Shape → ℕ → ℕ → ℕ → List Event → List ℕ
data_json g bound events from shown =
    head_json g bound events from (length shown)
    ++ PROTOCOL.now
    ++ flat_map link_json g.keys
    ++ flat_map step_json (steps g shown)
    ++ ledger_json (network_of g) (length shown) (net_after g shown)
