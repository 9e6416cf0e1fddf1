-- What the links of a network join: where each node from 2 on has a link to a smaller one, all.
use Rattle.std.proofs.Common.{◌≡◌, ◌≢◌, ◌∙◌, ℕ, zero, suc, ◌+◌, ◌-◌, ◌%◌, ◌<◌, ◌≤◌, ◌⊎◌, ⊎_elim, inl, inr, Bool, true, false, not, ◌&&◌, ◌||◌, ◌==◌, List, [], ◌∷◌, ◌++◌, length, map, refl, sym, ap, subst, arith}
use Rattle.std.specs.Prelude.{cond, min, nat_le, nat_lt}
use Rattle.std.specs.Int.{is_power_of_two}
use Rattle.std.specs.List.{Contains}
use Rattle.std.proofs.Math.Nat.{mod-eq_of_lt}
use Rattle.std.proofs.lemmas.Bool.{cases_Bool, cases_lt, ltb-false, ne_eqb, not_from_false}
use Rattle.std.proofs.lemmas.List.Elements.{Contains-append_left, Contains-append_right}
use Rattle.ghs_gr.specs.RawGraph.{Triple}
use Rattle.ghs_graph.specs.declared.key.Key.{Key}
use Rattle.ghs_graph.specs.Key.{key_of}
use Rattle.ghs_graph.specs.Links.{Joined, Same, Over, Back, links}
use Rattle.ghs_graph.proofs.lemmas.Joining.{joined_back, joined_then}
use Rattle.ghs_graph.proofs.lemmas.Members.{first_in, in_cases, later_in, nothing_in}
use Rattle.ghs_make.specs.Ends.{above_picked, both_picked, ends_by, firsts, front, goes_beside, goes_up, has_above, has_beside, hung_ends, is_high_asker, links_among, links_by, low_askers, one_and_run, one_if, picked_ends, place, smaller_ends, twos}
use Rattle.ghs_make.specs.Laws.{JoinedIn}
use Rattle.ghs_make.specs.Network.{IsNetwork, count_of_nodes, links_at, links_of, links_of_nodes, weight_of}
use Rattle.ghs_make.specs.Plan.{IsPlan, TakesLinks}
use Rattle.ghs_make.specs.declared.kind.Kind.{Kind}
use Rattle.ghs_make.specs.declared.kind.Kind.TheVariants.{Path, Ring, Star, Grid, Complete, Tree, Random, Road, Forest, Slow, Busy, FarCore, ChainWake}
use Rattle.ghs_make.specs.declared.network.Network.{Network}
use Rattle.ghs_make.specs.declared.plan.Plan.{Plan}
use Rattle.ghs_make.proofs.Counts.{links_more}
use Rattle.ghs_make.proofs.Each.{Each}
use Rattle.ghs_make.proofs.Good.{IsBelow, good_ends}
use Rattle.ghs_make.proofs.Picking.{some_by}

-- a list has a first element
abbrev pub HasFirst : List ℕ → Type 0
HasFirst us = (u : ℕ) × (more : List ℕ) × (us ≡ u ∷ more)

first_behind : (us : List ℕ) (y : ℕ) → HasFirst (us ++ y ∷ [])
first_behind [] y = (y, [], refl)
first_behind (u ∷ us) y = (u, us ++ y ∷ [], refl)

first_firsts : (f : ℕ → ℕ) (d : ℕ) → 1 ≤ d → HasFirst (firsts f d)
first_firsts f zero some = absurd (omega arith)
first_firsts f (suc d) some = first_behind (firsts f d) (f d)

first_rows : (a b : Bool) (x y : ℕ) → (a ≡ false → b ≡ true) → HasFirst (one_if a x ++ one_if b y)
first_rows true b x y h = (x, one_if b y, refl)
first_rows false true x y h = (y, [], refl)
first_rows false false x y h = absurd (let e : false ≡ true = h refl in cc)

-- a node of the first row isn't the first one there
beside_or_above : (p : Plan) (v : ℕ) → 2 ≤ v → has_above p v ≡ false → has_beside p v ≡ true
beside_or_above p v low e =
    let within : v ≤ p.width = ltb-false p.width v e in
    let lt : v - 1 < p.width = omega arith in
    let same : (v - 1) % p.width ≡ v - 1 = mod-eq_of_lt lt in
    not_from_false _ (ne_eqb ((v - 1) % p.width) 0 (λ z. absurd (omega (arith, same, z))))

roads_go : (a b c d : Bool) → (a ≡ false → b ≡ true) → (a && (not b || (c || d))) ≡ false → (b && (not a || (c || not d))) ≡ true
roads_go false true c d h e = refl
roads_go false false c d h e = absurd (let f : false ≡ true = h refl in cc)
roads_go true false c d h e = absurd (let f : true ≡ false = e in cc)
roads_go true true true d h e = absurd (let f : true ≡ false = e in cc)
roads_go true true false true h e = absurd (let f : true ≡ false = e in cc)
roads_go true true false false h e = refl

first_far : (p : Plan) (v : ℕ) (a b c : Bool)
    → HasFirst (cond a (cond b (one_and_run (v - 1) 1 (v - 2)) (one_and_run (v - 1) 2 (min (low_askers p) (v - 3))))
    (cond c (hung_ends p (twos (place p v))) ((v - 1) ∷ [])))
first_far p v true true c = (_, _, refl)
first_far p v true false c = (_, _, refl)
first_far p v false b true = (_, _, refl)
first_far p v false b false = (_, _, refl)

first_by : (k : Kind) (p : Plan) → TakesLinks k p.nodes p.links → k ≢ Forest → (v : ℕ) → 2 ≤ v
    → ((k ≡ Tree) ⊎ (k ≡ Random) → 1 ≤ links_among p v - links_among p (v - 1)) → HasFirst (ends_by k p v)
first_by Path p h ne v low d = (v - 1, [], refl)
first_by Ring p h ne v low d = first_behind (one_if ((v == p.nodes) && nat_lt 2 v) 1) (v - 1)
first_by Star p h ne v low d = (1, [], refl)
first_by Grid p h ne v low d = first_rows (has_above p v) (has_beside p v) (v - p.width) (v - 1) (beside_or_above p v low)
first_by Complete p h ne v low d = first_firsts (λ i. i + 1) (v - 1) (omega arith)
first_by Tree p h ne v low d = first_firsts _ (links_among p v - links_among p (v - 1)) (d (inl refl))
first_by Random p h ne v low d = first_firsts _ (links_among p v - links_among p (v - 1)) (d (inr refl))
first_by Road p h ne v low d =
    first_rows (goes_up p v) (goes_beside p v) (v - p.width) (v - 1)
    (roads_go (has_above p v) (has_beside p v) (both_picked p v) (above_picked p v) (beside_or_above p v low))
first_by Forest p h ne v low d = absurd (ne refl)
first_by Slow p h ne v low d = (_, [], refl)
first_by Busy p h ne v low d = (_, _, refl)
first_by FarCore p h ne v low d = first_far p v (nat_le v (front p)) (is_high_asker p v) (is_power_of_two (place p v))
first_by ChainWake p h ne v low d = (_, _, refl)

pub first_end : (p : Plan) → IsPlan p → p.kind ≢ Forest → (v : ℕ) → 2 ≤ v → HasFirst (smaller_ends p v)
unfolding smaller_ends
first_end p h ne v low = first_by p.kind p h.links ne v low (some_by p h v low)

-- lists of links

pub contains_map : (ks : List Triple) (k : Triple) → Contains ks k → Contains (map key_of ks) (key_of k)
contains_map [] k c = absurd (nothing_in k c)
contains_map (x ∷ ks) k c = ⊎_elim
    (λ later. later_in (key_of x) (key_of k) (map key_of ks) (contains_map ks k later))
    (λ same. subst (λ (z : Triple). Contains (map key_of (x ∷ ks)) (key_of z)) same (first_in (key_of x) (map key_of ks)))
    (in_cases x k ks c)

pub contains_later : (n : Network) (j m : ℕ) (x : Triple) → j ≤ m → Contains (links_of_nodes n j) x → Contains (links_of_nodes n m) x
contains_later n j zero x le c = let none : j ≡ 0 = omega (arith, le) in subst (λ i. Contains (links_of_nodes n i) x) none c
contains_later n j (suc m) x le c = ⊎_elim
    (λ below.
    let low : j ≤ m = omega (arith, below) in
    let inner : Contains (links_of_nodes n m) x = contains_later n j m x low c in
    let one : m + 1 ≡ suc m = omega arith in
    subst (λ i. Contains (links_of_nodes n i) x) one (rw links_more (Contains-append_left (links_of_nodes n m) _ x inner)))
    (λ here. let same : j ≡ suc m = omega (arith, here, le) in subst (λ i. Contains (links_of_nodes n i) x) same c)
    (cases_lt j (suc m))

-- the link at the first end of a node
pub first_link : (n : Network) (k u : ℕ) (us : List ℕ) → k + 2 ≤ n.plan.nodes → smaller_ends n.plan (k + 2) ≡ u ∷ us
    → (w : ℕ) × Contains (links_of n) (w, u, k + 2)
first_link n k u us le e =
    let number = count_of_nodes n.plan k in
    let x : Triple = (weight_of n number u (k + 2), u, k + 2) in
    let new = links_at n number (k + 2) (u ∷ us) in
    let here : Contains (links_of_nodes n (k + 1)) x =
    rw (links_more n k, e) (Contains-append_right (links_of_nodes n k) new x (first_in x (links_at n (suc number) (k + 2) us))) in
    (weight_of n number u (k + 2), contains_later n (k + 1) (n.plan.nodes - 1) x (omega arith) here)

-- a link joins its ends
pub link_joins : (n : Network) (w u v x : ℕ) → Contains (links_of n) (w, u, v) → JoinedIn n u x → JoinedIn n v x
link_joins n w u v x c way = Back (record { weight = w; a = u; b = v }) (contains_map (links_of n) (w, u, v) c) way

joined_first : (n : Network) → IsNetwork n → n.plan.kind ≢ Forest → (m v : ℕ) → v ≤ m → 1 ≤ v → v ≤ n.plan.nodes → JoinedIn n v 1
joined_first n h ne zero v le low high = absurd (omega arith)
joined_first n h ne (suc m) zero le low high = absurd (omega arith)
joined_first n h ne (suc m) (suc zero) le low high = Same
joined_first n h ne (suc m) (suc (suc k)) le low high =
    let v = k + 2 in
    let same : k + 2 ≡ suc (suc k) = omega arith in
    let first = first_end n.plan h.plan ne v (omega arith) in
    let below : Each (IsBelow v) (first.0 ∷ first.1) = rw first.2 at (good_ends n.plan h.plan v (omega arith) (omega arith)).below in
    let under = below.0 in
    let inner = joined_first n h ne m first.0 (omega (arith, under.1)) under.0 (omega (arith, under.1)) in
    let link = first_link n k first.0 first.1 (omega arith) first.2 in
    subst (λ i. JoinedIn n i 1) same (link_joins n link.0 first.0 v 1 link.1 inner)

pub are_connected : (n : Network) → IsNetwork n → n.plan.kind ≢ Forest → (u v : ℕ) → 1 ≤ u → u ≤ n.plan.nodes → 1 ≤ v → v ≤ n.plan.nodes →
    JoinedIn n u v
are_connected n h ne u v a b c d =
    joined_then (joined_first n h ne u u (omega arith) a b) (joined_back (joined_first n h ne v v (omega arith) c d))
