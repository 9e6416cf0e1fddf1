-- How many bits a message has.
use Rattle.std.specs.Prelude.{ℕ, ◌+◌, ◌*◌, length, min}
use Rattle.ghs_graph.specs.Graph.{Shape}
use Rattle.ghs_bits.specs.Length.{key_width, width_of, widths_of}
use Rattle.ghs_bits.specs.declared.widths.Widths.{Widths}
use Rattle.gather_node.specs.declared.message.Message.{Message}
use Rattle.gather_node.specs.declared.message.Message.TheVariants.{Explore, Back, Tree}

-- a list of n links: how many they are, in count bits, and their keys
abbrev pub list_length : Widths → ℕ → ℕ → ℕ
list_length w count n = count + n * key_width w

-- two bits for the kind, then the wave's number and the list
abbrev pub full_length : Widths → ℕ → Message → ℕ
full_length w count (Explore x) = 2 + w.number
full_length w count (Back x ks) = 2 + w.number + list_length w count (length ks)
full_length w count (Tree ks) = 2 + list_length w count (length ks)

-- 4,294,967,295 bits at most, as a program counts them
abbrev pub length_by : Widths → ℕ → Message → ℕ
length_by w count m = min 4294967295 (full_length w count m)

-- the number of links of a list has as many bits as that of the graph's links needs
abbrev pub length_of : Shape → Message → ℕ
length_of g m = length_by (widths_of g) (width_of (length g.keys)) m
