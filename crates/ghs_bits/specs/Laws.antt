-- What holds of the bits of every run.
use Rattle.std.specs.Prelude.{◌≡◌, ℕ, suc, ◌+◌, ◌*◌, ◌^◌, ◌<◌, ◌≤◌, Some, None, List, [], ◌∷◌, length}
use Rattle.ghs_graph.specs.Bound.{IsBound, IsFloorLog2}
use Rattle.ghs_graph.specs.Graph.{Shape, IsGraph}
use Rattle.ghs_node.specs.declared.kind.Kind.{Kind}
use Rattle.ghs_node.specs.declared.kind.Kind.TheVariants as kinds
use Rattle.ghs_node.specs.declared.message.Message.{Message}
use Rattle.ghs_node.specs.declared.message.Message.TheVariants.{Connect, Initiate, Test, Accept, Reject, Report, ChangeRoot}
use Rattle.ghs_node.specs.Kind.{place_of}
use Rattle.peer_network.specs.declared.event.Event.{Event}
use Rattle.peer_network.specs.Network.{network_of}
use Rattle.ghs_protocol.specs.Net.{Net}
use Rattle.ghs_protocol.specs.Run.{IsAfter}
use Rattle.ghs_bits.specs.declared.widths.Widths.{Widths}
use Rattle.ghs_bits.specs.Bits.{all_sent, bits_sent}
use Rattle.ghs_bits.specs.Length.{greatest_weight, key_width, length_of, longest_length, width_of, widths_of}

-- k is the least number of bits, one at least, in which n can be written
pub record IsWidth (n k : ℕ) : Type 0 where
  pub some : 1 ≤ k
  pub fits : n < 2 ^ k
  pub least : (j : ℕ) → 1 ≤ j → n < 2 ^ j → k ≤ j

-- the bits that a number needs are the least in which it can be written
abbrev pub WidthsAreLeast : Type 0
WidthsAreLeast = (n : ℕ) → IsWidth n (width_of n)

-- a level has the bits that the floor of log2 of the nodes needs
abbrev pub LevelsAreFloors : Type 0
LevelsAreFloors = (g : Shape) (k : ℕ) → IsFloorLog2 g.nodes k → (widths_of g).level ≡ width_of k

-- no message of a graph has more bits than 83, where each weight has 32 at most
abbrev pub LengthsAreShort : Type 0
LengthsAreShort =
    (g : Shape) → IsGraph g → greatest_weight g.keys < 2 ^ 32 → (m : Message) → length_of (widths_of g) m ≤ 83

-- what every message of a kind has; a Report may have a key besides
abbrev pub kind_length : Widths → Kind → ℕ
kind_length w kinds.Connect = 3 + w.level
kind_length w kinds.Initiate = 3 + w.level + key_width w + 1
kind_length w kinds.Test = 3 + w.level + key_width w
kind_length w kinds.Accept = 3
kind_length w kinds.Reject = 3
kind_length w kinds.Report = 3 + 1
kind_length w kinds.ChangeRoot = 3

-- the bits of all messages that were sent of a kind, of a Report without its key
abbrev pub bits_of_kind : Widths → Net → Kind → ℕ
bits_of_kind w net k = net.sent (place_of k) * kind_length w k

-- how many Reports have a key
abbrev pub keyed_in : List Message → ℕ
keyed_in [] = 0
keyed_in (Connect l ∷ ms) = keyed_in ms
keyed_in (Initiate l f s ∷ ms) = keyed_in ms
keyed_in (Test l f ∷ ms) = keyed_in ms
keyed_in (Accept ∷ ms) = keyed_in ms
keyed_in (Reject ∷ ms) = keyed_in ms
keyed_in (Report None ∷ ms) = keyed_in ms
keyed_in (Report (Some k) ∷ ms) = suc (keyed_in ms)
keyed_in (ChangeRoot ∷ ms) = keyed_in ms

-- the bits of a run, by kind
abbrev pub by_kind : Widths → Net → ℕ → ℕ
by_kind w net keyed =
    bits_of_kind w net kinds.Connect + bits_of_kind w net kinds.Initiate + bits_of_kind w net kinds.Test + bits_of_kind w net kinds.Accept
    + bits_of_kind w net kinds.Reject
    + bits_of_kind w net kinds.Report
    + bits_of_kind w net kinds.ChangeRoot
    + keyed * key_width w

abbrev pub BitsAreByKind : Type 0
BitsAreByKind =
    (g : Shape) (es : List Event) (net : Net) → IsAfter (network_of g) es net →
    bits_sent g es ≡ by_kind (widths_of g) net (keyed_in (all_sent (network_of g) es))

-- no more than the bound on messages, each as long as an Initiate
abbrev pub BitsAreWithinBound : Type 0
BitsAreWithinBound =
    (g : Shape) (b : ℕ) (es : List Event) → IsGraph g → IsBound g.nodes (length g.keys) b → (net : Net) → IsAfter (network_of g) es net →
    bits_sent g es ≤ b * longest_length (widths_of g)
