-- Only a complete network, a far core and a chain wake can have more links than there may be.
use Rattle.std.proofs.Common.{◌≡◌, ◌∙◌, ℕ, zero, suc, ◌+◌, ◌-◌, ◌*◌, ◌≤◌, Bool, true, false, cond, List, [], ◌∷◌, ◌++◌, length, length-append, refl, sym, ap, arith, subst, ◌==◌, ◌&&◌, nat_le, nat_lt, min}
use Rattle.std.specs.Int.{is_power_of_two}
use Rattle.ghs_gr.specs.declared.raw_graph.TheConstants.{ARC_LIMIT}
use Rattle.ghs_make.specs.Ends.{across, behind_ends, complete_ends, cross_ends, ends_by, far_ends, first_watched, front, goes_beside, goes_up, hanging_end, has_above, has_beside, is_high_asker, last_block, links_among, links_by, low_askers, one_and_run, one_if, picked_ends, place, smaller_ends, twos, wake_ends, watched}
use Rattle.ghs_make.specs.Network.{A_chain_wake, A_far_core, HasManyEnds, count_of, count_of_nodes}
use Rattle.ghs_make.specs.Plan.{IsPlan, TakesLinks, pairs}
use Rattle.ghs_make.specs.declared.kind.Kind.{Kind}
use Rattle.ghs_make.specs.declared.kind.Kind.TheVariants.{Path, Ring, Star, Grid, Complete, Tree, Random, Road, Forest, Slow, Busy, FarCore, ChainWake}
use Rattle.ghs_make.specs.declared.plan.Plan.{Plan}
use Rattle.ghs_make.proofs.Counted.{count_is, count_whole, length_firsts, picked_forest, picked_random}
use Rattle.ghs_make.proofs.Counts.{count_more, count_none}
use Rattle.ghs_make.proofs.Picking.{forest_all, random_all}

one_short : (b : Bool) (u : ℕ) → length (one_if b u) ≤ 1
one_short true u = omega arith
one_short false u = omega arith

both_short : (a b : Bool) (u v : ℕ) → length (one_if a u ++ one_if b v) ≤ 2
both_short a b u v =
    let first = one_short a u in
    let second = one_short b v in
    omega (arith, first, second, length-append (one_if a u) (one_if b v))

across_short : (p : Plan) (v a b c : ℕ) → length (across p v a ++ across p v b ++ across p v c) ≤ 3
across_short p v a b c =
    let x = across p v a in
    let y = across p v b in
    let z = across p v c in
    let first : length x ≤ 1 = one_short _ a in
    let second : length y ≤ 1 = one_short _ b in
    let third : length z ≤ 1 = one_short _ c in
    omega (arith, first, second, third, length-append (x ++ y) z, length-append x y)

cond_short : (b : Bool) (xs : List ℕ) → length xs ≤ 3 → length (cond b xs []) ≤ 3
cond_short true xs short = short
cond_short false xs short = omega arith

-- at most four links lead from a node to smaller ones, in all kinds but three that are picked and the complete one
abbrev IsShort : Kind → Plan → Type 0
IsShort k p = (v : ℕ) → length (ends_by k p v) ≤ 4

ring_short : (p : Plan) → IsShort Ring p
ring_short p v =
    let wanted = (v == p.nodes) && nat_lt 2 v in
    let long = length-append (one_if wanted 1) ((v - 1) ∷ []) in
    let one = one_short wanted 1 in
    omega (arith, long, one)

grid_short : (p : Plan) → IsShort Grid p
grid_short p v = let two = both_short (has_above p v) (has_beside p v) (v - p.width) (v - 1) in omega (arith, two)

road_short : (p : Plan) → IsShort Road p
road_short p v = let two = both_short (goes_up p v) (goes_beside p v) (v - p.width) (v - 1) in omega (arith, two)

busy_short : (p : Plan) → IsShort Busy p
busy_short p v =
    let three : length (cross_ends p v) ≤ 3 =
    cond_short _ _ (across_short p v (v - 3 * last_block p) (v - 2 * last_block p) (v - last_block p)) in
    omega (arith, three)

count_short : (p : Plan) → ((v : ℕ) → length (smaller_ends p v) ≤ 4) → (k : ℕ) → count_of_nodes p k ≤ 4 * k
count_short p short zero = let none = count_none p in omega (arith, none)
count_short p short (suc k) =
    let inner = count_short p short k in
    let more = count_more p k in
    let four = short (k + 2) in
    let one : suc k ≡ k + 1 = omega arith in
    rw one (omega (arith, inner, more, four))

few_short : (p : Plan) → IsPlan p → IsShort p.kind p → count_of p ≤ ARC_LIMIT
unfolding smaller_ends
few_short p plan short =
    let most = count_short p short (p.nodes - 1) in
    let few = plan.few in
    omega (arith, most, few)

-- a complete network joins all pairs
complete_ends_of : (p : Plan) → p.kind ≡ Complete → (v : ℕ) → smaller_ends p v ≡ complete_ends v
unfolding smaller_ends
complete_ends_of p is v = ap (λ k. ends_by k p v) is

count_twice : (p : Plan) → p.kind ≡ Complete → (k : ℕ) → 2 * count_of_nodes p k ≡ k * k + k
count_twice p is zero = let none = count_none p in omega (arith, none)
count_twice p is (suc k) =
    let inner = count_twice p is k in
    let more = count_more p k in
    let long = ap length (complete_ends_of p is (k + 2)) ∙ length_firsts (λ i. i + 1) (k + 2 - 1) in
    let one : suc k ≡ k + 1 = omega arith in
    let square : (k + 1) * (k + 1) ≡ k * k + k + k + 1 = omega arith in
    rw one (omega (arith, inner, more, long, square))

times_before : (n k : ℕ) → n ≡ k + 1 → n * k ≡ k * k + k
times_before n k is = rw is (omega arith)

pub complete_pairs : (p : Plan) → 1 ≤ p.nodes → p.kind ≡ Complete → count_of p ≡ pairs p.nodes
complete_pairs p some is =
    let twice = count_twice p is (p.nodes - 1) in
    let whole = times_before p.nodes (p.nodes - 1) (omega (arith, some)) in
    omega (arith, twice, whole)

picked_tree : (p : Plan) → p.kind ≡ Tree → (v : ℕ) → smaller_ends p v ≡ picked_ends p v
unfolding smaller_ends
picked_tree p is v = ap (λ k. ends_by k p v) is

tree_all : (p : Plan) → p.kind ≡ Tree → links_among p p.nodes ≡ p.nodes - 1
unfolding links_among
tree_all p is = ap (λ k. links_by k p p.nodes) is

few_tree : (p : Plan) → IsPlan p → p.kind ≡ Tree → count_of p ≤ ARC_LIMIT
few_tree p plan is =
    let some = plan.some in
    let few = plan.few in
    let same : p.nodes - 1 + 1 ≡ p.nodes = omega arith in
    let all = (rw same at (count_is p plan (picked_tree p is) (p.nodes - 1))) ∙ tree_all p is in
    omega (arith, all, few)

few_random : (p : Plan) → IsPlan p → p.kind ≡ Random → count_of p ≤ ARC_LIMIT
few_random p plan is =
    let all = count_whole p plan (picked_random p is) (random_all p plan is) in
    let takes = subst (λ k. TakesLinks k p.nodes p.links) is plan.links in
    let few = takes.2 in
    omega (arith, all, few)

few_forest : (p : Plan) → IsPlan p → p.kind ≡ Forest → count_of p ≤ ARC_LIMIT
few_forest p plan is =
    let all = count_whole p plan (picked_forest p is) (forest_all p plan is) in
    let takes : p.links ≤ p.nodes - 1 = subst (λ k. TakesLinks k p.nodes p.links) is plan.links in
    let few = plan.few in
    omega (arith, all, takes, few)

few_kind : (k : Kind) (p : Plan) → IsPlan p → p.kind ≡ k → (k ≡ Complete → ⊥) → (HasManyEnds k → ⊥) → count_of p ≤ ARC_LIMIT
few_kind Path p plan is other few = few_short p plan (subst (λ k. IsShort k p) (sym is) (λ v. omega arith))
few_kind Ring p plan is other few = few_short p plan (subst (λ k. IsShort k p) (sym is) (ring_short p))
few_kind Star p plan is other few = few_short p plan (subst (λ k. IsShort k p) (sym is) (λ v. omega arith))
few_kind Grid p plan is other few = few_short p plan (subst (λ k. IsShort k p) (sym is) (grid_short p))
few_kind Complete p plan is other few = absurd (other refl)
few_kind Tree p plan is other few = few_tree p plan is
few_kind Random p plan is other few = few_random p plan is
few_kind Road p plan is other few = few_short p plan (subst (λ k. IsShort k p) (sym is) (road_short p))
few_kind Forest p plan is other few = few_forest p plan is
few_kind Slow p plan is other few = few_short p plan (subst (λ k. IsShort k p) (sym is) (λ v. omega arith))
few_kind Busy p plan is other few = few_short p plan (subst (λ k. IsShort k p) (sym is) (busy_short p))
few_kind FarCore p plan is other few = absurd (few A_far_core)
few_kind ChainWake p plan is other few = absurd (few A_chain_wake)

pub few_other : (p : Plan) → IsPlan p → (p.kind ≡ Complete → ⊥) → (HasManyEnds p.kind → ⊥) → count_of p ≤ ARC_LIMIT
few_other p plan other few = few_kind p.kind p plan refl other few

-- the smaller ends of a far core's and of a chain wake's links
pub far_ends_of : (p : Plan) → p.kind ≡ FarCore → (v : ℕ) → smaller_ends p v ≡ far_ends p v
unfolding smaller_ends
far_ends_of p is v = ap (λ k. ends_by k p v) is

pub wake_ends_of : (p : Plan) → p.kind ≡ ChainWake → (v : ℕ) → smaller_ends p v ≡ wake_ends v
unfolding smaller_ends
wake_ends_of p is v = ap (λ k. ends_by k p v) is

pub one_and_run_long : (u start count : ℕ) → length (one_and_run u start count) ≡ count + 1
one_and_run_long u start count = let long = length_firsts (λ i. start + i) count in omega (arith, long)

module _ (p : Plan) (v : ℕ) where
  pub high_long : nat_le v (front p) ≡ true → is_high_asker p v ≡ true → length (far_ends p v) ≡ v - 2 + 1
  high_long low high = rw (low, high) (one_and_run_long (v - 1) 1 (v - 2))

  pub low_long : nat_le v (front p) ≡ true → is_high_asker p v ≡ false → length (far_ends p v) ≡ min (low_askers p) (v - 3) + 1
  low_long low other = rw (low, other) (one_and_run_long (v - 1) 2 (min (low_askers p) (v - 3)))

  pub behind_long : nat_le v (front p) ≡ false → length (far_ends p v) ≡ length (behind_ends p v)
  behind_long behind = rw behind refl

  pub hung_long : is_power_of_two (place p v) ≡ true → length (behind_ends p v) ≡ watched p (twos (place p v)) + 1
  hung_long power =
      let k = twos (place p v) in
      rw power (one_and_run_long (hanging_end p k) (first_watched p k) (watched p k))

pub only_wake : (k : Kind) → HasManyEnds k → (k ≡ FarCore → ⊥) → k ≡ ChainWake
only_wake k A_far_core other = absurd (other refl)
only_wake k A_chain_wake other = refl
