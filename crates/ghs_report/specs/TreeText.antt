-- The text of a tree.
use Rattle.std.specs.Prelude.{ℕ, List, [], ◌∷◌, ◌++◌, codes, decimal}
use Rattle.std.specs.List.{flat_map}
use Rattle.ghs_graph.specs.declared.key.Key.{Key}
use Rattle.ghs_graph.specs.Links.{total_weight}

-- `t A B W`: smaller end, larger end, weight
abbrev pub link_line : Key → List ℕ
link_line k = codes "t " ++ decimal k.a ++ codes " " ++ decimal k.b ++ codes " " ++ decimal k.weight ++ 10 ∷ []

-- `w TOTAL`
abbrev pub total_line : ℕ → List ℕ
total_line n = codes "w " ++ decimal n ++ 10 ∷ []

-- a line for each link, in the list's order, and one for the total weight
unfoldable pub tree_text : List Key → List ℕ
tree_text ks = flat_map link_line ks ++ total_line (total_weight ks)
