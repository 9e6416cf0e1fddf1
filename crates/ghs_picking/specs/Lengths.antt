-- How long a run is.
use Rattle.std.specs.Prelude.{List}
use Rattle.ghs_graph.specs.Graph.{Shape}
use Rattle.peer_network.specs.declared.event.Event.{Event}
use Rattle.peer_network.specs.Network.{network_of}
use Rattle.ghs_following.specs.Chains.{longest_chain}
use Rattle.ghs_bits.specs.Bits.{bits_sent, longest_sent}
use Rattle.ghs_picking.specs.declared.lengths.RunLengths.{RunLengths}

-- its longest chain, in messages; and in bits all that it sends together, and the longest message
abbrev pub lengths_of : Shape → List Event → RunLengths
lengths_of g es = record { chain = longest_chain (network_of g) es; bits = bits_sent g es; longest = longest_sent g es }
