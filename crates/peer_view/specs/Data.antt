-- The data of a run: the network, the words of the protocol, the steps from the opening on, and the counts behind the last of them.
use Rattle.std.specs.Prelude.{ℕ, List, ◌++◌, length}
use Rattle.std.specs.List.{flat_map}
use Rattle.ghs_choices.specs.declared.form.Form.TheVariants.{Json}
use Rattle.ghs_graph.specs.Graph.{Shape}
use Rattle.peer_network.specs.declared.event.Event.{Event}
use Rattle.peer_network.specs.Network.{Network, network_of}
use Rattle.peer_machine.specs.Ledger.{waiting}
use Rattle.peer_machine.specs.Net.{Net}
use Rattle.peer_machine.specs.Rules.{Rules}
use Rattle.peer_machine.specs.Run.{net_after}
use Rattle.peer_page.specs.Counts.{counts_line}
use Rattle.peer_page.specs.Head.{head_json}
use Rattle.peer_page.specs.Links.{link_json}
use Rattle.peer_steps.specs.Lines.{all_lines}
use Rattle.peer_words.specs.Looks.{Looks}
use Rattle.peer_words.specs.Words.{Words}
use Rattle.peer_view.specs.Protocol.{protocol_line}

-- the counts of a net after so many events
abbrev pub ledger_json : {S M : Type 0} → Rules S M → Network → ℕ → Net S M → List ℕ
ledger_json r n events w = counts_line r.kinds events w.sent w.consumed w.deferred (waiting n w)

-- the network and the bound on its messages, the words of the protocol, the links in key order, the steps of the events that are
-- shown, and the counts behind them; the run has so many events in all, and opens before one of them
abbrev pub data_json : {S M : Type 0} → Rules S M → Words S M → Looks → (Shape → ℕ) → Shape → ℕ → ℕ → List Event → List ℕ
data_json r words looks bound g events from shown =
    head_json g (bound g) events from (length shown)
    ++ protocol_line r words looks
    ++ flat_map link_json g.keys
    ++ all_lines r words Json g shown
    ++ ledger_json r (network_of g) (length shown) (net_after r g shown)
