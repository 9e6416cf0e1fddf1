-- What is kept of a run, and what is seen before an event.
use Rattle.std.specs.Prelude.{◌≡◌, ◌*◌, ◌^◌, ◌≤◌, List, length}
use Rattle.ghs_graph.specs.Graph.{Shape}
use Rattle.peer_network.specs.declared.event.Event.{Event}
use Rattle.peer_network.specs.Network.{network_of}
use Rattle.peer_machine.specs.Net.{event_node}
use Rattle.peer_net.specs.NetState.{NetState, is_deferred, net_of}
use Rattle.peer_chains.specs.Kept.{Kept, Fits, seen}
use Rattle.peer_machine.specs.Rules.{Rules}
use Rattle.peer_lengths.specs.declared.meter.Seen.{Seen}
use Rattle.peer_lengths.specs.declared.sent.Sent.{Sent}
use Rattle.peer_lengths.specs.Sends.{bits_in, longest_in}
use Rattle.peer_lengths.specs.Chain.{numbers_of}

module _ {S M : Type 0} (r : Rules S M) (g : Shape) where
  -- messages are measured: how many they are, and their bits. Each was told in 32 bits
  pub record AreMeasured (ms : List M) (s : Sent) : Type 0 where
    pub count : s.count ≡ length ms
    pub bits : s.bits ≡ bits_in r g ms
    pub longest : s.longest ≡ longest_in r g ms
    pub few : s.bits ≤ 2 ^ 32 * s.count

  -- the numbers that are kept are those of a run
  pub record AreNumbersOf (es : List Event) (k : Kept) : Type 0 where
    pub fits : Fits g k
    pub same : seen k ≡ numbers_of r (network_of g) es

-- whether the node of an event sleeps in a net, and whether it defers the event's message
pub record HasSeen {S M : Type 0} (r : Rules S M) (s : NetState) (e : Event) (x : Seen) : Type 0 where
  pub asleep : x.asleep ≡ r.is_asleep ((net_of r s).node (event_node e))
  pub deferred : x.deferred ≡ is_deferred r (net_of r s) e
