-- The definitions computed on small graphs.
use Rattle.std.proofs.Common.{◌≡◌, ℕ, List, [], ◌∷◌, refl, lit<, lit≤}
use Rattle.ghs_graph.specs.declared.key.Key.{Key}
use Rattle.ghs_graph.specs.declared.port.Port.{Port}
use Rattle.ghs_graph.specs.Links.{IsTree, total_weight}
use Rattle.ghs_graph.specs.Ports.{degree, ports_of}
use Rattle.ghs_graph.specs.Graph.{Shape}
use Rattle.ghs_graph.specs.Components.{IsRoot, HasComponents}
use Rattle.ghs_graph.specs.Bound.{IsFloorLog2, IsBound}
use Rattle.ghs_graph.proofs.lemmas.Computing.{is_rising, tree_is, root_tells, components_are}
use Rattle.ghs_graph.proofs.lemmas.Logs.{floor_log2_between}

abbrev key : ℕ → ℕ → ℕ → Key
key w a b = record { weight = w; a = a; b = b }

abbrev port : Key → ℕ → ℕ → Port
port k far far_port = record { key = k; far = far; far_port = far_port }

-- a triangle
abbrev triangle : List Key
triangle = key 1 1 2 ∷ key 2 2 3 ∷ key 3 1 3 ∷ []

ports_of_1 : ports_of triangle 1 ≡ port (key 1 1 2) 2 0 ∷ port (key 3 1 3) 3 1 ∷ []
unfolding ports_of
ports_of_1 = refl

ports_of_2 : ports_of triangle 2 ≡ port (key 1 1 2) 1 0 ∷ port (key 2 2 3) 3 0 ∷ []
unfolding ports_of
ports_of_2 = refl

ports_of_3 : ports_of triangle 3 ≡ port (key 2 2 3) 2 1 ∷ port (key 3 1 3) 1 1 ∷ []
unfolding ports_of
ports_of_3 = refl

-- two links between the same two nodes are two ports of each
abbrev twice : List Key
twice = key 4 1 2 ∷ key 7 1 2 ∷ []

ports_of_twice : ports_of twice 2 ≡ port (key 4 1 2) 1 0 ∷ port (key 7 1 2) 1 1 ∷ []
unfolding ports_of
ports_of_twice = refl

degree_of_twice : degree twice 1 ≡ 2
unfolding degree
degree_of_twice = refl

-- Forests. The lists are computed link by link from the definition of what links join.

tree_of_triangle : IsTree triangle (key 1 1 2 ∷ key 2 2 3 ∷ [])
tree_of_triangle = tree_is triangle (is_rising triangle refl)

-- a triangle of equal weights: each two of its links weigh 8, and the tree is the two with the least keys
abbrev even : List Key
even = key 4 1 2 ∷ key 4 1 3 ∷ key 4 2 3 ∷ []

weights_of_even : (total_weight (key 4 1 2 ∷ key 4 1 3 ∷ []) ≡ 8) × (total_weight (key 4 1 2 ∷ key 4 2 3 ∷ []) ≡ 8)
    × (total_weight (key 4 1 3 ∷ key 4 2 3 ∷ []) ≡ 8)
weights_of_even = (refl, refl, refl)

tree_of_even : IsTree even (key 4 1 2 ∷ key 4 1 3 ∷ [])
tree_of_even = tree_is even (is_rising even refl)

-- of two parallel links the lighter
tree_of_twice : IsTree twice (key 4 1 2 ∷ [])
tree_of_twice = tree_is twice (is_rising twice refl)

-- Roots and components.

root_of_one : IsRoot [] 1 1
root_of_one = (root_tells [] 1 1).0 refl

components_of_one : HasComponents (record { nodes = 1; keys = [] }) 1
components_of_one = components_are (record { nodes = 1; keys = [] })

-- two pieces and a node without links
abbrev pieces : Shape
pieces = record { nodes = 5; keys = key 5 1 2 ∷ key 6 3 4 ∷ [] }

root_of_2 : IsRoot pieces.keys 2 1
root_of_2 = (root_tells pieces.keys 2 1).0 refl

root_of_4 : IsRoot pieces.keys 4 3
root_of_4 = (root_tells pieces.keys 4 3).0 refl

root_of_5 : IsRoot pieces.keys 5 5
root_of_5 = (root_tells pieces.keys 5 5).0 refl

components_of_pieces : HasComponents pieces 3
components_of_pieces = components_are pieces

tree_of_pieces : IsTree pieces.keys (key 5 1 2 ∷ key 6 3 4 ∷ [])
tree_of_pieces = tree_is pieces.keys (is_rising pieces.keys refl)

-- Bounds.

floor_log2_1 : IsFloorLog2 1 0
floor_log2_1 = floor_log2_between 1 0 (lit≤ tt) (lit< tt)

floor_log2_3 : IsFloorLog2 3 1
floor_log2_3 = floor_log2_between 3 1 (lit≤ tt) (lit< tt)

floor_log2_4 : IsFloorLog2 4 2
floor_log2_4 = floor_log2_between 4 2 (lit≤ tt) (lit< tt)

floor_log2_1048575 : IsFloorLog2 1048575 19
floor_log2_1048575 = floor_log2_between 1048575 19 (lit≤ tt) (lit< tt)

floor_log2_1048576 : IsFloorLog2 1048576 20
floor_log2_1048576 = floor_log2_between 1048576 20 (lit≤ tt) (lit< tt)

bound_1_0 : IsBound 1 0 0
bound_1_0 = record { levels = 0; log2 = floor_log2_1; bound = refl }

bound_5_4 : IsBound 5 4 58
bound_5_4 = record { levels = 2; log2 = floor_log2_between 5 2 (lit≤ tt) (lit< tt); bound = refl }

bound_at_the_limits : IsBound 1048576 8388608 121634816
bound_at_the_limits = record { levels = 20; log2 = floor_log2_1048576; bound = refl }
