-- Levels of small graphs, computed from the definitions; their values by hand.
use Rattle.std.proofs.Common.{◌≡◌, ℕ, false, List, [], ◌∷◌, refl}
use Rattle.std.specs.List.{Contains}
use Rattle.std.proofs.lemmas.Bool.Decides.{not_from_Decides}
use Rattle.ghs_graph.specs.declared.key.Key.{Key}
use Rattle.ghs_graph.specs.Links.{Same}
use Rattle.ghs_graph.proofs.lemmas.Members.{first_in, later_in}
use Rattle.boruvka_protocol.specs.Levels.{IsLeastOut, Taken, HasWayOut, IsOfLevel}
use Rattle.boruvka_protocol.specs.Cores.{IsCore, LeadsTo, There, Falls}
use Rattle.boruvka_protocol.specs.WaysUp.{IsTop, IsUp, Here, Up, LeavesBelow, IsOffered, Own}
use Rattle.boruvka_protocol.proofs.lemmas.Computing.{taken, taken_alike, least_out_tells, none_leaves_tells, in_class_tells}
use Rattle.boruvka_protocol.proofs.lemmas.WaysOut.{next_of_level}

abbrev key : ℕ → ℕ → ℕ → Key
key w a b = record { weight = w; a = a; b = b }

-- The path 1-2-3-4 of weights 1, 3, 2. At level 1 it is two classes, each with its link as core; at level 2 one, with the link between.
path : List Key
path = key 1 1 2 ∷ key 2 3 4 ∷ key 3 2 3 ∷ []

lightest : Contains path (key 1 1 2)
unfolding path
lightest = first_in (key 1 1 2) (key 2 3 4 ∷ key 3 2 3 ∷ [])

middle : Contains path (key 3 2 3)
unfolding path
middle = later_in (key 1 1 2) (key 3 2 3) (key 2 3 4 ∷ key 3 2 3 ∷ []) (later_in (key 2 3 4) (key 3 2 3) (key 3 2 3 ∷ []) (first_in (key 3 2 3) []))

path_0 : taken path 0 ≡ []
unfolding path
path_0 = refl

path_1 : taken path 1 ≡ key 1 1 2 ∷ key 2 3 4 ∷ []
unfolding path
path_1 = refl

path_2 : taken path 2 ≡ key 1 1 2 ∷ key 2 3 4 ∷ key 3 2 3 ∷ []
unfolding path
path_2 = refl

-- each node goes out over its least link
path_least_2 : IsLeastOut path (Taken path 0) 2 (key 1 1 2)
unfolding path
path_least_2 = (least_out_tells path 0 2 (key 1 1 2) lightest).0 refl

path_core : IsCore path 0 2 (key 1 1 2)
unfolding path
path_core = record {
  inside = (in_class_tells path 1 2 1).0 refl;
  of_a = (least_out_tells path 0 1 (key 1 1 2) lightest).0 refl;
  of_b = (least_out_tells path 0 2 (key 1 1 2) lightest).0 refl;
}

-- both classes of level 1 go out over the link between them
path_core_2 : IsCore path 1 4 (key 3 2 3)
unfolding path
path_core_2 = record {
  inside = (in_class_tells path 2 4 2).0 refl;
  of_a = (least_out_tells path 1 2 (key 3 2 3) middle).0 refl;
  of_b = (least_out_tells path 1 3 (key 3 2 3) middle).0 refl;
}

path_way_out : HasWayOut path 1 1
unfolding path
path_way_out = let m = (least_out_tells path 1 1 (key 3 2 3) middle).0 refl in (key 3 2 3, m.link, m.leaves)

path_of_level : IsOfLevel path 2 1
path_of_level = next_of_level path 1 1 path_way_out

path_whole : HasWayOut path 2 1 → ⊥
unfolding path
path_whole = (none_leaves_tells path 2 1).0 refl

-- At level 1 the top of nodes 1 and 2 is 1, the smaller end of their core, to which 2 has its way up.
path_top : IsTop path 1 2 1
path_top = (key 1 1 2, path_core, refl)

path_up : IsUp (Taken path 1) 1 2 (key 1 1 2)
unfolding path
path_up = record { link = (taken_alike path 1).from (key 1 1 2) (first_in (key 1 1 2) (key 2 3 4 ∷ [])); ends = refl; on = Same }

-- from 2 the link to the other class leaves, which node 2 reports to node 1
path_out : IsOffered path (Taken path 1) 1 2 (key 3 2 3)
unfolding path
path_out = let m = (least_out_tells path 1 2 (key 3 2 3) middle).0 refl in Own m.link refl m.leaves

path_leaves : LeavesBelow path (Taken path 1) 1 1 (key 3 2 3)
unfolding path
path_leaves =
    let m = (least_out_tells path 1 2 (key 3 2 3) middle).0 refl in
    record { link = middle; node = 2; below = Up (key 1 1 2) path_up Here; ends = refl; leaves = m.leaves }

-- at level 2 the top is 2, the smaller end of the link between, and 1-2 is the way up from node 1
path_top_2 : IsTop path 2 1 2
unfolding path
path_top_2 = (
  key 3 2 3,
  record { inside = (in_class_tells path 2 1 2).0 refl; of_a = path_core_2.of_a; of_b = path_core_2.of_b },
  refl,
)

path_up_2 : IsUp (Taken path 2) 2 1 (key 1 1 2)
unfolding path
path_up_2 =
    record { link = (taken_alike path 2).from (key 1 1 2) (first_in (key 1 1 2) (key 2 3 4 ∷ key 3 2 3 ∷ [])); ends = refl; on = Same }

-- The triangle 1-2, 2-3, 1-3 of weights 1, 2, 3: one class at level 1, to which node 3 comes over 2-3, and which leaves out 1-3.
triangle : List Key
triangle = key 1 1 2 ∷ key 2 2 3 ∷ key 3 1 3 ∷ []

triangle_1 : taken triangle 1 ≡ key 1 1 2 ∷ key 2 2 3 ∷ []
unfolding triangle
triangle_1 = refl

triangle_2 : taken triangle 2 ≡ key 1 1 2 ∷ key 2 2 3 ∷ []
unfolding triangle
triangle_2 = refl

triangle_whole : HasWayOut triangle 1 3 → ⊥
unfolding triangle
triangle_whole = (none_leaves_tells triangle 1 3).0 refl

-- from node 3 least ways out fall to the core: 2-3 leads to node 2, of which 1-2 is the least
triangle_leads : LeadsTo triangle (Taken triangle 0) 3 (key 1 1 2)
unfolding triangle
triangle_leads =
    let first : Contains triangle (key 1 1 2) = first_in (key 1 1 2) (key 2 2 3 ∷ key 3 1 3 ∷ []) in
    let second : Contains triangle (key 2 2 3) =
    later_in (key 1 1 2) (key 2 2 3) (key 2 2 3 ∷ key 3 1 3 ∷ []) (first_in (key 2 2 3) (key 3 1 3 ∷ [])) in
    let of_2 : IsLeastOut triangle (Taken triangle 0) 2 (key 1 1 2) = (least_out_tells triangle 0 2 (key 1 1 2) first).0 refl in
    Falls (key 2 2 3) 2 (key 1 1 2) ((least_out_tells triangle 0 3 (key 2 2 3) second).0 refl)
    (refl, not_from_Decides false (in_class_tells triangle 0 3 2) refl) of_2 refl
    (There of_2 ((least_out_tells triangle 0 1 (key 1 1 2) first).0 refl) of_2)

-- Two pieces and a node by itself, which no link leaves: it is of level 0, and of no higher one.
pieces : List Key
pieces = key 5 1 2 ∷ key 6 3 4 ∷ []

pieces_1 : taken pieces 1 ≡ pieces
unfolding pieces
pieces_1 = refl

alone : IsOfLevel pieces 0 5
alone = tt

alone_stays : IsOfLevel pieces 1 5 → ⊥
unfolding pieces
alone_stays h = (none_leaves_tells pieces 0 5).0 refl (h 5 Same).1
