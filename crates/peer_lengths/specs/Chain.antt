-- Chains of messages, each sent because of the one before. Each node has a number, at first 0, and each message that waits: how many messages have
-- led to it, one because of another.
use Rattle.std.specs.Prelude.{ℕ, suc, List}
use Rattle.peer_network.specs.declared.event.Event.{Event}
use Rattle.peer_network.specs.Network.{Network}
use Rattle.peer_chains.specs.Chains.{Chains, no_chains, hears, sent, most_below}
use Rattle.peer_machine.specs.Rules.{Rules}
use Rattle.peer_machine.specs.Net.{Net, event_node, opening}
use Rattle.peer_net.specs.NetState.{is_deferred}
use Rattle.peer_lengths.specs.Sends.{sends_at, followed}

module _ {S M : Type 0} (r : Rules S M) where
  -- A node that consumes a message, or is woken by it, has the greater of its own number and the message's, and then each message that it sends has
  -- one more. A message that is deferred keeps its number.
  abbrev pub numbers_then : Network → Net S M → Event → Chains → Chains
  numbers_then g w e c =
      sent g (event_node e) (sends_at r w e) (hears e (r.is_asleep (w.node (event_node e))) (is_deferred r w e) c)

  -- the numbers after a run
  unfoldable pub numbers_of : Network → List Event → Chains
  numbers_of g es = followed r (numbers_then g) g es (opening r g) no_chains

  -- the longest chain of a run: the greatest number of a node
  abbrev pub longest_chain : Network → List Event → ℕ
  longest_chain g es = most_below (suc g.count) (numbers_of g es).node
