-- Who wakes by itself.
use Rattle.std.proofs.Common.{◌≡◌, ◌≤◌, ◌+◌, ◌==◌, ◌&&◌, not, ℕ, true, nat_lt, ⊎_elim, arith, refl}
use Rattle.std.specs.List.{list_any}
use Rattle.std.proofs.lemmas.Bool.{and_from, and_parts, cases_Bool, eq-eqb, ltb-true, not_from_false, or_left, or_right}
use Rattle.std.proofs.lemmas.List.Folds.{Any-from_list_any, list_any-from_Any}
use Rattle.ghs_graph.specs.Graph.{Shape, IsGraph}
use Rattle.ghs_graph.specs.Components.{IsRoot}
use Rattle.ghs_graph.specs.Computing.{is_root}
use Rattle.ghs_graph.specs.Links.{Same}
use Rattle.ghs_graph.proofs.lemmas.Components.{nodes_have_roots}
use Rattle.ghs_graph.proofs.lemmas.Computing.{root_tells}
use Rattle.ghs_graph.proofs.lemmas.Joining.{joined_back, joined_nodes, joined_then}
use Rattle.peer_network.specs.Wakes.{AllMayWake, is_first, is_in, is_under, may_wake}
use Rattle.peer_network.specs.declared.wake_set.WakeSet.{WakeSet}
use Rattle.peer_network.specs.declared.wake_set.WakeSet.TheVariants.{All, First, Listed}
use Rattle.peer_network.proofs.Firsts.{first_are_roots}

-- the root of a node is its own root
own_root : (g : Shape) (v r : ℕ) → IsRoot g.keys v r → is_first g r ≡ true
own_root g v r root = (first_are_roots g r).1 (record { joined = Same; least = λ u way. root.least u (joined_then root.joined way) })

-- a number under a root is that of a node of its component
under_means : (g : Shape) (r w : ℕ) → is_under g r w ≡ true → (1 ≤ w) × (w ≤ g.nodes) × IsRoot g.keys w r
unfolding is_under
under_means g r w told =
    let both = and_parts (is_in g w) (is_root g.keys w r) told in
    let ends = and_parts (nat_lt 0 w) (nat_lt w (g.nodes + 1)) both.0 in
    let low = ltb-true 0 w ends.0 in
    let high = ltb-true w (g.nodes + 1) ends.1 in
    (omega (arith, low), omega (arith, high), (root_tells g.keys w r).0 both.1)

-- in each set each node is joined with one that may wake
pub each_is_woken : (g : Shape) (wake : WakeSet) → IsGraph g → AllMayWake (may_wake g wake) g
each_is_woken g All ok v low high = (v, low, high, Same, refl)
each_is_woken g First ok v low high =
    let r = nodes_have_roots g.keys v in
    let n = joined_nodes g.nodes g.keys ok.among low high r.1.joined in
    (r.0, n.0, n.1, r.1.joined, own_root g v r.0 r.1)
each_is_woken g (Listed wakers) ok v low high =
    let r = nodes_have_roots g.keys v in
    let n = joined_nodes g.nodes g.keys ok.among low high r.1.joined in
    let under = list_any (is_under g r.0) wakers.nodes in
    let alone = is_first g r.0 && not under in
    ⊎_elim
    (λ some.
    let w = Any-from_list_any (is_under g r.0) wakers.nodes some in
    let m = under_means g r.0 w.1 w.4 in
    let listed = list_any-from_Any (λ x. x == w.1) wakers.nodes (w.0, w.1, w.2, w.3, eq-eqb w.1 w.1 refl) in (
      w.1,
      m.0,
      m.1,
      joined_then r.1.joined (joined_back m.2.joined),
      or_left (list_any (λ x. x == w.1) wakers.nodes) (is_first g w.1 && not (list_any (is_under g w.1) wakers.nodes)) listed,
    ))
    (λ none.
    let free = and_from (is_first g r.0) (not under) (own_root g v r.0 r.1) (not_from_false under none) in (
      r.0,
      n.0,
      n.1,
      r.1.joined,
      or_right (list_any (λ x. x == r.0) wakers.nodes) alone free,
    ))
    (cases_Bool under)
