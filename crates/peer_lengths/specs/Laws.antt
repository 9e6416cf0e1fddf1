-- What holds of the length of every run, under any rules.
use Rattle.std.specs.Prelude.{◌≡◌, ◌*◌, ◌≤◌, List, length}
use Rattle.ghs_graph.specs.Graph.{Shape}
use Rattle.peer_network.specs.declared.event.Event.{Event}
use Rattle.peer_network.specs.Sums.{sum_below}
use Rattle.peer_network.specs.Network.{Network, network_of}
use Rattle.peer_machine.specs.Rules.{Rules, HasKinds}
use Rattle.peer_machine.specs.Net.{Net}
use Rattle.peer_machine.specs.Run.{IsAfter}
use Rattle.peer_machine.specs.Ledger.{in_all}
use Rattle.peer_lengths.specs.Sends.{all_sent, bits_of_kind, bits_sent, longest_sent}
use Rattle.peer_lengths.specs.Chain.{longest_chain}

module _ {S M : Type 0} (r : Rules S M) where
  -- the messages of a run are as many as its net has counted
  abbrev pub SendsAreCounted : Type 0
  SendsAreCounted =
      HasKinds r → (g : Network) (es : List Event) (w : Net S M) → IsAfter r g es w → length (all_sent r g es) ≡ in_all r w.sent

  -- they have no more bits than if each were as long as the longest
  abbrev pub BitsAreWithin : Type 0
  BitsAreWithin =
      HasKinds r → (g : Shape) (es : List Event) (w : Net S M) → IsAfter r (network_of g) es w →
      bits_sent r g es ≤ in_all r w.sent * longest_sent r g es

  -- and as many as those of each kind together
  abbrev pub BitsAreByKind : Type 0
  BitsAreByKind =
      HasKinds r → (g : Shape) (es : List Event) → bits_sent r g es ≡ sum_below r.kinds (λ k. bits_of_kind r g k (all_sent r (network_of g) es))

  -- no chain has more messages than were sent
  abbrev pub ChainsAreSent : Type 0
  ChainsAreSent = HasKinds r → (g : Network) (es : List Event) (w : Net S M) → IsAfter r g es w → longest_chain r g es ≤ in_all r w.sent
