-- Lists of links: in key order, their minimum spanning forest, and what two have in common.
use Rattle.std.specs.Prelude.{◌-◌, Bool, false, not, ◌==◌, ◌&&◌, ◌||◌, nat_lt, nat_le, List, [], ◌∷◌, length, filter, slice_index_or, if◌then◌else◌}
use Rattle.ghs_graph.specs.declared.key.Key.{Key}
use Rattle.ghs_graph.specs.Graph.{NODE_LIMIT}
use Rattle.ghs_graph.specs.Key.{key_lt, no_key}
use Rattle.ghs_graph.specs.Computing.{joins}

abbrev pub is_same : Key → Key → Bool
is_same j k = (j.weight == k.weight) && ((j.a == k.a) && (j.b == k.b))

-- whether the link is one of the list
abbrev pub has : List Key → Key → Bool
has [] k = false
has (j ∷ js) k = is_same j k || has js k

-- one link more in a list in key order
abbrev pub insert : Key → List Key → List Key
insert k [] = k ∷ []
insert k (j ∷ js) = if key_lt k j then k ∷ j ∷ js else (if key_lt j k then j ∷ insert k js else j ∷ js)

-- the links in key order, each once
abbrev pub in_order : List Key → List Key
in_order [] = []
in_order (k ∷ ks) = insert k (in_order ks)

-- what may be a link of a graph: the smaller end comes first, and none is above the limit
abbrev pub is_link : Key → Bool
is_link k = nat_lt 0 k.a && (nat_lt k.a k.b && nat_le k.b NODE_LIMIT)

-- the link comes after all of a list in key order
abbrev pub follows : List Key → Key → Bool
follows ks k = (length ks == 0) || key_lt (slice_index_or ks (length ks - 1) no_key) k

-- the ends of the link aren't joined by those links that have smaller keys
abbrev pub is_needed : List Key → Key → Bool
is_needed ks k = not (joins (filter (λ j. key_lt j k) ks) k.a k.b)

-- the minimum spanning forest of the links, in key order; what is no link doesn't count
abbrev pub links_of : List Key → List Key
links_of ks = in_order (filter is_link ks)

unfoldable pub forest : List Key → List Key
forest ks = filter (is_needed (links_of ks)) (links_of ks)

-- the links of the first list that are in the second one too
abbrev pub common : List Key → List Key → List Key
common ks js = filter (has js) ks
