-- How many messages a run of Borůvka in step may send.
use Rattle.std.specs.Prelude.{ℕ, ◌+◌, ◌*◌, ◌^◌, nat_le, length, count_by}
use Rattle.std.specs.List.{range_with_len}
use Rattle.ghs_graph.specs.Graph.{Shape}

-- the floor of log2 of n, for n from 1 on: so many of the numbers k from 1 to n have 2 to the k at most n
unfoldable pub floor_log2 : ℕ → ℕ
floor_log2 n = count_by (λ k. nat_le (2 ^ k) n) (range_with_len 1 n)

-- each level above 0 costs a Name a direction of a link, and at a node a call, a Report and a step of the token; level 0 costs a Connect a node
abbrev pub bound_of : Shape → ℕ
bound_of g = 2 * (length g.keys * floor_log2 g.nodes) + 3 * (g.nodes * floor_log2 g.nodes) + g.nodes
