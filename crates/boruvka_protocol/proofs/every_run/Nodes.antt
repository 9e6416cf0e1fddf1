-- Laws of nodes: they keep their ports, stay awake and lose no level; sleepers are untouched and silent.
use Rattle.std.proofs.Common.{◌≡◌, ℕ, Some, sym, ◌∙◌}
use Rattle.ghs_graph.specs.Graph.{Shape}
use Rattle.peer_network.specs.declared.event.Event.{Event}
use Rattle.peer_network.specs.Network.{network_of}
use Rattle.peer_network.proofs.lemmas.Graphs.{graph_wired}
use Rattle.peer_machine.specs.Net.{Net, opening}
use Rattle.peer_machine.specs.Run.{run, IsLater}
use Rattle.peer_machine.specs.Steps.{Happens}
use Rattle.peer_machine.proofs.lemmas.Runs.{run_keeps, run_joins}
use Rattle.boruvka_node.specs.declared.message.Message.{Message}
use Rattle.boruvka_node.specs.State.{State}
use Rattle.boruvka_node.specs.Boruvka.{boruvka}
use Rattle.boruvka_protocol.specs.Laws.{NodesKeepPorts, SleepersAreUntouched, SleepersAreSilent, NodesStayAwake, LevelsStay}
use Rattle.boruvka_protocol.proofs.invariant.Whole.{Ground}
use Rattle.boruvka_protocol.proofs.rows.Grows.{Grows, grows_on, grows_not}
use Rattle.boruvka_protocol.proofs.every_run.Ground.{ground_event, event_grows, ground_after}

pub nodes_keep_ports : NodesKeepPorts
nodes_keep_ports g w h v = (ground_after g w h).nodes v

pub sleepers_are_untouched : SleepersAreUntouched
sleepers_are_untouched g w h v s = (ground_after g w h).untouched v s

pub sleepers_are_silent : SleepersAreSilent
sleepers_are_silent g w h v p at s = (ground_after g w h).silent v p at s

-- the ground holds, and each node has grown from what it was in w
record HasGrown (g : Shape) (w x : Net State Message) : Type 0 where
  ground : Ground (network_of g) x
  grows : (v : ℕ) → Grows (w.node v) (x.node v)

pub nodes_grow : (g : Shape) (w w' : Net State Message) → IsLater boruvka g w w' → (v : ℕ) → Grows (w.node v) (w'.node v)
nodes_grow g w w' h = (run_keeps boruvka (network_of g) (HasGrown g w) more h.further w w' start on).grows
  where
    more : (x y : Net State Message) (e : Event) → HasGrown g w x → Happens boruvka (network_of g) x e y → HasGrown g w y
    more x y e i k = record {
      ground = ground_event (network_of g) (graph_wired g h.graph) x y e i.ground k;
      grows = λ v. grows_on (i.grows v) (event_grows (network_of g) x y e i.ground k v);
    }

    start : HasGrown g w w
    start = record {
      ground = ground_after g w (record { graph = h.graph; events = h.events; run = h.run });
      grows = λ v. grows_not (w.node v);
    }

    on : run boruvka (network_of g) h.further w ≡ Some w'
    on = sym (run_joins boruvka (network_of g) h.events h.further (opening boruvka (network_of g)) w h.run) ∙ h.later

pub nodes_stay_awake : NodesStayAwake
nodes_stay_awake g w w' h v up = (nodes_grow g w w' h v).awake up

pub levels_stay : LevelsStay
levels_stay g w w' h v = (nodes_grow g w w' h v).level
