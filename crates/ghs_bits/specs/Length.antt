-- How many bits a message has.
use Rattle.std.specs.Prelude.{ℕ, zero, suc, ◌+◌, ◌-◌, ◌*◌, ◌^◌, max, nat_lt, if◌then◌else◌, Some, None, List, [], ◌∷◌}
use Rattle.ghs_graph.specs.declared.key.Key.{Key}
use Rattle.ghs_graph.specs.Graph.{Shape}
use Rattle.ghs_node.specs.declared.message.Message.{Message}
use Rattle.ghs_node.specs.declared.message.Message.TheVariants.{Connect, Initiate, Test, Accept, Reject, Report, ChangeRoot}
use Rattle.ghs_bits.specs.declared.widths.Widths.{Widths}

-- the least number from k on of bits in which n can be written, where it is one of the next few
unfoldable pub width_from : ℕ → ℕ → ℕ → ℕ
width_from n k zero = k
width_from n k (suc few) = if nat_lt n (2 ^ k) then k else width_from n (suc k) few

-- the bits that a number needs: one at least, also for 0
unfoldable pub width_of : ℕ → ℕ
width_of n = width_from n 1 n

-- the greatest weight of some links; 0, where there are none
abbrev pub greatest_weight : List Key → ℕ
greatest_weight [] = 0
greatest_weight (k ∷ ks) = max k.weight (greatest_weight ks)

-- the highest level is the floor of log2 of the nodes, one less than what their number needs
unfoldable pub widths_of : Shape → Widths
widths_of g = record {
  number = width_of g.nodes;
  weight = width_of (greatest_weight g.keys);
  level = width_of (width_of g.nodes - 1);
}

-- a key is two numbers and a weight
abbrev pub key_width : Widths → ℕ
key_width w = 2 * w.number + w.weight

-- three bits for the kind, one for the phase of an Initiate, and one for whether a Report has a key
abbrev pub length_of : Widths → Message → ℕ
length_of w (Connect l) = 3 + w.level
length_of w (Initiate l f s) = 3 + w.level + key_width w + 1
length_of w (Test l f) = 3 + w.level + key_width w
length_of w Accept = 3
length_of w Reject = 3
length_of w (Report None) = 3 + 1
length_of w (Report (Some k)) = 3 + 1 + key_width w
length_of w ChangeRoot = 3

-- no message has more than an Initiate
abbrev pub longest_length : Widths → ℕ
longest_length w = 3 + w.level + key_width w + 1
