-- How long a run is, and what is kept of it for that.
use Rattle.std.specs.Prelude.{◌≡◌, Bool, false, List}
use Rattle.ghs_graph.specs.Graph.{Shape}
use Rattle.peer_network.specs.declared.event.Event.{Event}
use Rattle.peer_network.specs.Network.{network_of}
use Rattle.peer_chains.specs.Kept.{Kept}
use Rattle.peer_machine.specs.Rules.{Rules}
use Rattle.peer_lengths.specs.declared.lengths.Lengths.{Lengths}
use Rattle.peer_lengths.specs.declared.sent.Sent.{Sent}
use Rattle.peer_lengths.specs.Sends.{all_sent, bits_sent, longest_sent}
use Rattle.peer_lengths.specs.Chain.{longest_chain}
use Rattle.peer_lengths.specs.Kept.{AreMeasured, AreNumbersOf}

-- the numbers, whether they were lost, what was sent, and by which scale it was measured
pub record MeterState (C : Type 0) : Type 0 where
  pub chains : Kept
  pub lost : Bool
  pub sent : Sent
  pub scale : C

module _ {S M : Type 0} (r : Rules S M) where
  -- how long the run of some events is: its longest chain, its bits, and its longest message
  pub record AreLengths (g : Shape) (es : List Event) (l : Lengths) : Type 0 where
    pub chain : l.chain ≡ longest_chain r (network_of g) es
    pub bits : l.bits ≡ bits_sent r g es
    pub longest : l.longest ≡ longest_sent r g es

  -- a meter is that of a run; its numbers too, unless they were lost
  pub record IsMeterOf {C : Type 0} (is_scale : Shape → C → Type 0) (g : Shape) (es : List Event) (m : MeterState C) : Type 0 where
    pub scale : is_scale g m.scale
    pub sent : AreMeasured r g (all_sent r (network_of g) es) m.sent
    pub chains : m.lost ≡ false → AreNumbersOf r g es m.chains
