-- The links of each kind. A link stands at its larger end: here are, for a node from 2 on, the smaller ends of its links.
use Rattle.std.specs.Prelude.{ℕ, zero, suc, ◌+◌, ◌-◌, ◌*◌, ◌/◌, ◌%◌, ◌^◌, ◌==◌, Bool, true, false, cond, max, min, nat_le, nat_lt, not, ◌&&◌, ◌||◌, List, [], ◌∷◌, ◌++◌}
use Rattle.std.specs.Int.{is_power_of_two, trailing_zeros, w32}
use Rattle.ghs_make.specs.Word.{word}
use Rattle.ghs_make.specs.declared.kind.Kind.{Kind}
use Rattle.ghs_make.specs.declared.kind.Kind.TheVariants.{Path, Ring, Star, Grid, Complete, Tree, Random, Road, Forest, Slow, Busy, FarCore, ChainWake}
use Rattle.ghs_make.specs.declared.plan.Plan.{Plan}
use Rattle.ghs_make.specs.declared.word.TheConstants.{PICKS, DEAD_ENDS}

-- the list with just this node, where the test holds
abbrev pub one_if : Bool → ℕ → List ℕ
one_if true u = u ∷ []
one_if false u = []

-- what a function gives for the first so many numbers
abbrev pub firsts : (ℕ → ℕ) → ℕ → List ℕ
firsts f zero = []
firsts f (suc k) = firsts f k ++ f k ∷ []

-- Path, ring, star, complete network.

-- the node before
abbrev pub path_ends : ℕ → List ℕ
path_ends v = (v - 1) ∷ []

-- the node before, and for the last one of three or more the first
abbrev pub ring_ends : Plan → ℕ → List ℕ
ring_ends p v = one_if ((v == p.nodes) && nat_lt 2 v) 1 ++ (v - 1) ∷ []

abbrev pub star_ends : List ℕ
star_ends = 1 ∷ []

-- all nodes before
abbrev pub complete_ends : ℕ → List ℕ
complete_ends v = firsts (λ i. i + 1) (v - 1)

-- Grids: nodes stand in rows, row under row.

-- there is a row above the node's
abbrev pub has_above : Plan → ℕ → Bool
has_above p v = nat_lt p.width v

-- the node isn't the first one of its row
abbrev pub has_beside : Plan → ℕ → Bool
has_beside p v = not ((v - 1) % p.width == 0)

-- the node above and the one beside, where there are such
abbrev pub grid_ends : Plan → ℕ → List ℕ
grid_ends p v = one_if (has_above p v) (v - p.width) ++ one_if (has_beside p v) (v - 1)

-- Roads: a grid in which each node that could go to both has both links or one of them, as the seed picks.

-- one node in eight is meant to be a dead end
abbrev pub is_dead_end : Plan → ℕ → Bool
is_dead_end p u = word p.seed DEAD_ENDS u % 8 == 0

-- a node goes to a dead end only if it has nowhere else to go
abbrev pub are_alike : Bool → Bool → Bool
are_alike true b = b
are_alike false b = not b

abbrev pub ends_alike : Plan → ℕ → Bool
ends_alike p v = are_alike (is_dead_end p (v - p.width)) (is_dead_end p (v - 1))

abbrev pub both_picked : Plan → ℕ → Bool
both_picked p v = ends_alike p v && (word p.seed PICKS v % 2 == 0)

abbrev pub above_picked : Plan → ℕ → Bool
above_picked p v = cond (ends_alike p v) (word p.seed PICKS v / 2 % 2 == 0) (is_dead_end p (v - 1))

abbrev pub goes_up : Plan → ℕ → Bool
goes_up p v = has_above p v && (not (has_beside p v) || (both_picked p v || above_picked p v))

abbrev pub goes_beside : Plan → ℕ → Bool
goes_beside p v = has_beside p v && (not (has_above p v) || (both_picked p v || not (above_picked p v)))

abbrev pub road_ends : Plan → ℕ → List ℕ
road_ends p v = one_if (goes_up p v) (v - p.width) ++ one_if (goes_beside p v) (v - 1)

-- Tree, random network, forest: the nodes before are cut into as many parts as the node has links, and the seed picks one of each.

-- how many links there can be among the first v nodes beside a tree
abbrev pub spare_pairs : ℕ → ℕ
spare_pairs v = (v - 1) * (v - 2) / 2

-- how many links the first v nodes have
abbrev pub links_by : Kind → Plan → ℕ → ℕ
links_by Tree p v = v - 1
links_by Random p v = (v - 1) + (p.links - (p.nodes - 1)) * spare_pairs v / max 1 (spare_pairs p.nodes)
links_by Forest p v = p.links * (v - 1) / max 1 (p.nodes - 1)
links_by _ p v = 0

unfoldable pub links_among : Plan → ℕ → ℕ
links_among p v = links_by p.kind p v

-- where part i of d parts of c nodes begins
abbrev pub part_start : ℕ → ℕ → ℕ → ℕ
part_start c d i = i * c / d

-- the node that is picked of part i, by the word of the link's number
abbrev pub pick : ℕ → ℕ → ℕ → ℕ → ℕ → ℕ
pick seed first c d i = 1 + part_start c d i + word seed PICKS (first + i) % (part_start c d (i + 1) - part_start c d i)

abbrev pub picked_ends : Plan → ℕ → List ℕ
picked_ends p v =
    let first = links_among p (v - 1) in
    let d = links_among p v - first in
    firsts (pick p.seed first (v - 1) d) d

-- Slow and busy networks and far cores: a path, and blocks of 2, 4, 8 and more nodes that are hung to its two ends in turn.

-- how many nodes the path has
abbrev pub front_by : Kind → Plan → ℕ
front_by Slow p = p.nodes + 2 - 2 ^ (p.levels - 1)
front_by FarCore p = p.nodes + 2 - 2 ^ (p.levels - 2)
front_by _ p = p.nodes + 2 - 2 ^ p.levels

abbrev pub front : Plan → ℕ
front p = front_by p.kind p

-- a node's place behind the path, whose last node has place 1: block k has the places from 2 to the k on
abbrev pub place : Plan → ℕ → ℕ
place p v = v + 1 - front p

-- the node before; for the first one of a block the last one of the block before the last, and for that of the first block the path's
-- first node
abbrev pub block_end : Plan → ℕ → ℕ
block_end p v =
    let q = place p v in
    cond (is_power_of_two q) (cond (q == 2) 1 (front p + q / 2 - 2)) (v - 1)

abbrev pub chain_end : Plan → ℕ → ℕ
chain_end p v = cond (nat_le v (front p)) (v - 1) (block_end p v)

-- how many nodes the last block has
abbrev pub last_block : Plan → ℕ
last_block p = 2 ^ (p.levels - 1)

-- a node of the last block has a link across to u, unless it has one along the chain
abbrev pub crosses : Plan → ℕ → ℕ → Bool
crosses p v u = nat_le 1 u && not (u == chain_end p v)

abbrev pub across : Plan → ℕ → ℕ → List ℕ
across p v u = one_if (crosses p v u) u

-- the nodes of the last block are linked with all other nodes, each of these with one
abbrev pub cross_ends : Plan → ℕ → List ℕ
cross_ends p v = cond (nat_lt (p.nodes - last_block p) v)
    (across p v (v - 3 * last_block p) ++ across p v (v - 2 * last_block p) ++ across p v (v - last_block p)) []

abbrev pub busy_ends : Plan → ℕ → List ℕ
busy_ends p v = chain_end p v ∷ cross_ends p v

-- Far cores: each block is a path of its own, whose first node is linked with an end of the path.

-- how often 2 divides a number
unfoldable pub twos : ℕ → ℕ
twos n = trailing_zeros w32 n

-- one node, and so many from another one on
abbrev pub one_and_run : ℕ → ℕ → ℕ → List ℕ
one_and_run u start count = u ∷ firsts (λ i. start + i) count

-- how many blocks there are
abbrev pub blocks : Plan → ℕ
blocks p = p.levels - 3

-- askers are linked with the whole path: half of them stand behind its first node, the others before its last one
abbrev pub low_askers : Plan → ℕ
low_askers p = blocks p / 2

abbrev pub high_askers : Plan → ℕ
high_askers p = blocks p - low_askers p

abbrev pub is_high_asker : Plan → ℕ → Bool
is_high_asker p v = nat_le (front p - high_askers p) v && nat_lt v (front p)

-- on the path: the node before, and the askers among those before it; for an asker before the last node all before it
abbrev pub along_ends : Plan → ℕ → List ℕ
along_ends p v = cond (is_high_asker p v) (one_and_run (v - 1) 1 (v - 2)) (one_and_run (v - 1) 2 (min (low_askers p) (v - 3)))

-- the path's end at which block k hangs
abbrev pub hanging_end : Plan → ℕ → ℕ
hanging_end p k = cond (k % 2 == 0) 1 (front p)

-- the first node of block k is linked with one asker of the other end, and that of the last block with all of the path but its
-- ends and the askers: how many these are, and the first of them
abbrev pub watched : Plan → ℕ → ℕ
watched p k = cond (k == blocks p) (front p - 2 - blocks p) 1

abbrev pub first_watched : Plan → ℕ → ℕ
first_watched p k = cond (k % 2 == 0) (front p - k / 2 - watched p k) (2 + k / 2)

abbrev pub hung_ends : Plan → ℕ → List ℕ
hung_ends p k = one_and_run (hanging_end p k) (first_watched p k) (watched p k)

-- behind the path: for the first node of a block the ends above, for another one the node before
abbrev pub behind_ends : Plan → ℕ → List ℕ
behind_ends p v = let q = place p v in cond (is_power_of_two q) (hung_ends p (twos q)) ((v - 1) ∷ [])

abbrev pub far_ends : Plan → ℕ → List ℕ
far_ends p v = cond (nat_le v (front p)) (along_ends p v) (behind_ends p v)

-- Chain wakes: node 1 with each other node, and any two nodes from 3 on.
abbrev pub wake_ends : ℕ → List ℕ
wake_ends v = one_and_run 1 3 (v - 3)

-- The smaller ends of a node's links.
abbrev pub ends_by : Kind → Plan → ℕ → List ℕ
ends_by Path p v = path_ends v
ends_by Ring p v = ring_ends p v
ends_by Star p v = star_ends
ends_by Grid p v = grid_ends p v
ends_by Complete p v = complete_ends v
ends_by Tree p v = picked_ends p v
ends_by Random p v = picked_ends p v
ends_by Road p v = road_ends p v
ends_by Forest p v = picked_ends p v
ends_by Slow p v = chain_end p v ∷ []
ends_by Busy p v = busy_ends p v
ends_by FarCore p v = far_ends p v
ends_by ChainWake p v = wake_ends v

unfoldable pub smaller_ends : Plan → ℕ → List ℕ
smaller_ends p v = ends_by p.kind p v
