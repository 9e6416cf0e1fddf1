-- How many pieces a forest has: as many as it has nodes without a link to a smaller one.
use Rattle.std.proofs.Common.{◌≡◌, ◌≢◌, ◌∙◌, ℕ, zero, suc, ◌+◌, ◌-◌, ◌<◌, ◌≤◌, ◌⊎◌, ⊎_elim, inl, inr, List, [], ◌∷◌, ◌++◌, length, length-append, map, refl, sym, ap, subst, arith}
use Rattle.std.specs.List.{AllPairs, Contains}
use Rattle.std.proofs.lemmas.Bool.{cases_lt}
use Rattle.std.proofs.lemmas.List.Elements.{Contains-append_cases, Contains-append_left, Contains-append_right}
use Rattle.ghs_gr.specs.RawGraph.{Triple}
use Rattle.ghs_graph.specs.declared.key.Key.{Key}
use Rattle.ghs_graph.specs.Key.{key_of}
use Rattle.ghs_graph.specs.Graph.{Shape}
use Rattle.ghs_graph.specs.Components.{HasComponents, IsRoot}
use Rattle.ghs_graph.specs.Links.{Joined, Same, Over, Back, links}
use Rattle.ghs_graph.proofs.lemmas.Joining.{joined_back, joined_then}
use Rattle.ghs_graph.proofs.lemmas.Members.{first_in, in_cases, later_in, nothing_in}
use Rattle.ghs_make.specs.Ends.{links_among, picked_ends, smaller_ends}
use Rattle.ghs_make.specs.Laws.{JoinedIn}
use Rattle.ghs_make.specs.Network.{IsNetwork, count_of_nodes, links_at, links_of, links_of_nodes, weight_of}
use Rattle.ghs_make.specs.Plan.{IsPlan}
use Rattle.ghs_make.specs.declared.kind.Kind.TheVariants.{Forest}
use Rattle.ghs_make.specs.declared.network.Network.{Network}
use Rattle.ghs_make.specs.declared.plan.Plan.{Plan}
use Rattle.ghs_make.proofs.Counted.{length_picked, picked_forest}
use Rattle.ghs_make.proofs.Counts.{count_more, count_none, links_more, links_none}
use Rattle.ghs_make.proofs.Each.{Apart, Each, apart_append, pairs_apart, each_append, each_map}
use Rattle.ghs_make.proofs.Good.{IsBelow, good_ends, good_picked}
use Rattle.ghs_make.proofs.Joining.{first_link, link_joins}
use Rattle.ghs_make.proofs.Picking.{forest_few}

-- where a node leads, from one smaller end to the next, so many steps on
abbrev step_of : List ℕ → ℕ → (ℕ → ℕ) → ℕ
step_of [] v go = v
step_of (u ∷ us) v go = go u

abbrev ends_of : Plan → ℕ → List ℕ
ends_of p zero = []
ends_of p (suc zero) = []
ends_of p (suc (suc k)) = smaller_ends p (k + 2)

abbrev head_by : Plan → ℕ → ℕ → ℕ
head_by p zero v = v
head_by p (suc m) v = step_of (ends_of p v) v (head_by p m)

below_of : (p : Plan) → IsPlan p → p.kind ≡ Forest → (v : ℕ) → Each (IsBelow v) (ends_of p v)
below_of p h is zero = tt
below_of p h is (suc zero) = tt
below_of p h is (suc (suc k)) = let same : k + 2 ≡ suc (suc k) = omega arith in
    let below : Each (IsBelow (k + 2)) (smaller_ends p (k + 2)) = rw (picked_forest p is (k + 2)) (good_picked p h (k + 2) (omega arith)).below in
    subst (λ v. Each (IsBelow v) (smaller_ends p (k + 2))) same below

-- with as many steps as the node's number all are gone
same_by : (us : List ℕ) (v : ℕ) (f g : ℕ → ℕ) → Each (IsBelow v) us → ((u : ℕ) → u < v → f u ≡ g u) → step_of us v f ≡ step_of us v g
same_by [] v f g below same = refl
same_by (u ∷ us) v f g below same = same u below.0.1

steps_same : (p : Plan) → IsPlan p → p.kind ≡ Forest → (m k v : ℕ) → v ≤ m → v ≤ k → head_by p m v ≡ head_by p k v
steps_same p h is zero zero v a b = refl
steps_same p h is zero (suc k) v a b = let none : v ≡ 0 = omega (arith, a) in rw none refl
steps_same p h is (suc m) zero v a b = let none : v ≡ 0 = omega (arith, b) in rw none refl
steps_same p h is (suc m) (suc k) v a b =
    same_by (ends_of p v) v (head_by p m) (head_by p k) (below_of p h is v) (λ u lt. steps_same p h is m k u (omega arith) (omega arith))

-- the least node of a node's piece
abbrev head_of : Plan → ℕ → ℕ
head_of p v = head_by p v v

one_step : (p : Plan) → IsPlan p → p.kind ≡ Forest → (v u : ℕ) → ends_of p v ≡ u ∷ [] → head_of p v ≡ head_of p u
one_step p h is zero u e = absurd (let f : (let n : List ℕ = [] in n) ≡ u ∷ [] = e in cc)
one_step p h is (suc v) u e =
    let below : Each (IsBelow (suc v)) (u ∷ []) = rw e at (below_of p h is (suc v)) in
    let under : u < suc v = below.0.1 in
    ap (λ us. step_of us (suc v) (head_by p v)) e ∙ steps_same p h is v u u (omega (arith, under)) (omega arith)

at_most_by : (us : List ℕ) (v : ℕ) (f : ℕ → ℕ) → Each (IsBelow v) us → ((u : ℕ) → f u ≤ u) → step_of us v f ≤ v
at_most_by [] v f below low = omega arith
at_most_by (u ∷ us) v f below low = let less : f u ≤ u = low u in let under = below.0.1 in omega (arith, less, under)

head_at_most : (p : Plan) → IsPlan p → p.kind ≡ Forest → (m v : ℕ) → head_by p m v ≤ v
head_at_most p h is zero v = omega arith
head_at_most p h is (suc m) v = at_most_by (ends_of p v) v (head_by p m) (below_of p h is v) (λ u. head_at_most p h is m u)

head_is : (p : Plan) (v : ℕ) → ends_of p v ≡ [] → head_of p v ≡ v
head_is p zero e = refl
head_is p (suc v) e = ap (λ us. step_of us (suc v) (head_by p v)) e

-- what holds of each element holds of one

each_has : {X : Type 0} (P : X → Type 0) (xs : List X) (x : X) → Each P xs → Contains xs x → P x
each_has P [] x p c = absurd (nothing_in x c)
each_has {X} P (y ∷ xs) x p c = ⊎_elim (λ later. each_has P xs x p.1 later) (λ same. subst (λ (z : X). P z) same p.0) (in_cases y x xs c)

each_key : (Q : Key → Type 0) (ks : List Triple) → Each (λ k. Q (key_of k)) ks → Each Q (map key_of ks)
each_key Q [] h = tt
each_key Q (k ∷ ks) h = (h.0, each_key Q ks h.1)

-- each node of a forest has one link to a smaller one at most

few_ends : (p : Plan) → IsPlan p → p.kind ≡ Forest → (k : ℕ) → length (smaller_ends p (k + 2)) ≤ 1
few_ends p h is k =
    let long = ap length (picked_forest p is (k + 2)) ∙ length_picked p k in
    let few = forest_few p h is k in
    omega (arith, long, few)

-- the link's larger end has it alone
abbrev IsOnlyLink : Plan → Triple → Type 0
IsOnlyLink p x = ends_of p x.2 ≡ x.1 ∷ []

only_at : (n : Network) (number v : ℕ) (us : List ℕ) → length us ≤ 1 → ends_of n.plan v ≡ us → Each (IsOnlyLink n.plan) (links_at n number v us)
only_at n number v [] few e = tt
only_at n number v (u ∷ []) few e = (e, tt)
only_at n number v (u ∷ w ∷ us) few e = absurd (omega arith)

only_links : (n : Network) → IsPlan n.plan → n.plan.kind ≡ Forest → (k : ℕ) → Each (IsOnlyLink n.plan) (links_of_nodes n k)
only_links n h is zero = rw links_none tt
only_links n h is (suc k) =
    let one : suc k ≡ k + 1 = omega arith in
    let two : k + 2 ≡ suc (suc k) = omega arith in
    let here : ends_of n.plan (k + 2) ≡ smaller_ends n.plan (k + 2) = ap (ends_of n.plan) two in
    rw (one, links_more n k)
    (each_append (IsOnlyLink n.plan) (links_of_nodes n k) _ (only_links n h is k)
    (only_at n (count_of_nodes n.plan k) (k + 2) (smaller_ends n.plan (k + 2)) (few_ends n.plan h is k) here))

-- joined nodes have the same head

abbrev HasOneHead : Plan → Key → Type 0
HasOneHead p k = head_of p k.b ≡ head_of p k.a

one_head : (n : Network) → IsPlan n.plan → n.plan.kind ≡ Forest → Each (HasOneHead n.plan) (map key_of (links_of n))
one_head n h is =
    each_key (HasOneHead n.plan) (links_of n)
    (each_map (IsOnlyLink n.plan) (λ k. HasOneHead n.plan (key_of k)) (links_of n)
    (λ k e. one_step n.plan h is k.2 k.1 e) (only_links n h is (n.plan.nodes - 1)))

joined_heads : (p : Plan) (ks : List Key) {u v : ℕ} → Each (HasOneHead p) ks → Joined (links ks) u v → head_of p u ≡ head_of p v
joined_heads p ks h Same = refl
joined_heads p ks h (Over k s way) = sym (each_has (HasOneHead p) ks k h s) ∙ joined_heads p ks h way
joined_heads p ks h (Back k s way) = each_has (HasOneHead p) ks k h s ∙ joined_heads p ks h way

-- the nodes without a link to a smaller one, among the first k + 1

abbrev none_of : List ℕ → ℕ → List ℕ
none_of [] v = v ∷ []
none_of (u ∷ us) v = []

abbrev heads : Plan → ℕ → List ℕ
heads p zero = 1 ∷ []
heads p (suc k) = heads p k ++ none_of (smaller_ends p (k + 2)) (k + 2)

abbrev IsHeadTo : Plan → ℕ → ℕ → Type 0
IsHeadTo p m v = (1 ≤ v) × (v ≤ m) × (ends_of p v ≡ [])

each_none : (p : Plan) (us : List ℕ) (v m : ℕ) → 1 ≤ v → v ≤ m → ends_of p v ≡ us → Each (IsHeadTo p m) (none_of us v)
each_none p [] v m low high e = ((low, high, e), tt)
each_none p (u ∷ us) v m low high e = tt

here_is : (p : Plan) (k : ℕ) → ends_of p (k + 2) ≡ smaller_ends p (k + 2)
here_is p k = let two : k + 2 ≡ suc (suc k) = omega arith in ap (ends_of p) two

each_head : (p : Plan) (k : ℕ) → Each (IsHeadTo p (k + 1)) (heads p k)
each_head p zero = ((omega arith, omega arith, refl), tt)
each_head p (suc k) =
    let one : suc k + 1 ≡ k + 2 = omega arith in
    rw one
    (each_append (IsHeadTo p (k + 2)) (heads p k) (none_of (smaller_ends p (k + 2)) (k + 2))
    (each_map (IsHeadTo p (k + 1)) (IsHeadTo p (k + 2)) (heads p k) (λ v h. (h.0, (let le = h.1 in omega arith), h.2)) (each_head p k))
    (each_none p (smaller_ends p (k + 2)) (k + 2) (k + 2) (omega arith) (omega arith) (here_is p k)))

apart_none : (us : List ℕ) (v : ℕ) → Apart (λ a b. a < b) (none_of us v)
apart_none [] v = (tt, tt)
apart_none (u ∷ us) v = tt

above_none : (us : List ℕ) (v x : ℕ) → x < v → Each (λ y. x < y) (none_of us v)
above_none [] v x lt = (lt, tt)
above_none (u ∷ us) v x lt = tt

apart_heads : (p : Plan) (k : ℕ) → Apart (λ a b. a < b) (heads p k)
apart_heads p zero = (tt, tt)
apart_heads p (suc k) =
    apart_append (λ a b. a < b) (heads p k) (none_of (smaller_ends p (k + 2)) (k + 2)) (apart_heads p k) (apart_none _ _)
    (each_map (IsHeadTo p (k + 1)) (λ x. Each (λ y. x < y) (none_of (smaller_ends p (k + 2)) (k + 2))) (heads p k)
    (λ x h. above_none (smaller_ends p (k + 2)) (k + 2) x (let le = h.1 in omega arith)) (each_head p k))

in_none : (us : List ℕ) (v : ℕ) → us ≡ [] → Contains (none_of us v) v
in_none [] v e = first_in v []
in_none (u ∷ us) v e = absurd (let f : u ∷ us ≡ [] = e in cc)

all_heads : (p : Plan) (k v : ℕ) → 1 ≤ v → v ≤ k + 1 → ends_of p v ≡ [] → Contains (heads p k) v
all_heads p zero v low high e = let same : 1 ≡ v = omega arith in subst (λ x. Contains (1 ∷ []) x) same (first_in 1 [])
all_heads p (suc k) v low high e = ⊎_elim
    (λ below. Contains-append_left (heads p k) (none_of (smaller_ends p (k + 2)) (k + 2)) v (all_heads p k v low (omega arith) e))
    (λ here.
    let same : k + 2 ≡ v = omega (arith, here, high) in
    let empty : smaller_ends p (k + 2) ≡ [] = sym (here_is p k) ∙ ap (ends_of p) same ∙ e in
    Contains-append_right (heads p k) (none_of (smaller_ends p (k + 2)) (k + 2)) v
    (subst (λ x. Contains (none_of (smaller_ends p (k + 2)) (k + 2)) x) same (in_none (smaller_ends p (k + 2)) (k + 2) empty)))
    (cases_lt v (k + 2))

length_none : (us : List ℕ) (v : ℕ) → length us ≤ 1 → length (none_of us v) + length us ≡ 1
length_none [] v few = refl
length_none (u ∷ []) v few = refl
length_none (u ∷ w ∷ us) v few = absurd (omega arith)

length_heads : (p : Plan) → IsPlan p → p.kind ≡ Forest → (k : ℕ) → length (heads p k) + count_of_nodes p k ≡ k + 1
length_heads p h is zero = let none = count_none p in omega (arith, none)
length_heads p h is (suc k) =
    let inner = length_heads p h is k in
    let more = count_more p k in
    let one : suc k ≡ k + 1 = omega arith in
    let here = length_none (smaller_ends p (k + 2)) (k + 2) (few_ends p h is k) in
    let long = length-append (heads p k) (none_of (smaller_ends p (k + 2)) (k + 2)) in
    let counts : count_of_nodes p (suc k) ≡ count_of_nodes p (k + 1) = ap (count_of_nodes p) one in
    omega (arith, inner, more, here, long, counts)

-- a root has no link to a smaller node

root_by : (n : Network) → IsNetwork n → (k : ℕ) (us : List ℕ) → k + 2 ≤ n.plan.nodes → smaller_ends n.plan (k + 2) ≡ us
    → ((u : ℕ) → JoinedIn n (k + 2) u → k + 2 ≤ u) → us ≡ []
root_by n h k [] le e least = refl
root_by n h k (u ∷ us) le e least =
    let link = first_link n k u us le e in
    let way : JoinedIn n (k + 2) u = link_joins n link.0 u (k + 2) u link.1 Same in
    let below : Each (IsBelow (k + 2)) (u ∷ us) = rw e at (good_ends n.plan h.plan (k + 2) (omega arith) le).below in
    let under = below.0.1 in
    let over = least u way in
    absurd (omega (arith, under, over))

root_alone : (n : Network) → IsNetwork n → (v : ℕ) → 1 ≤ v → v ≤ n.plan.nodes → IsRoot (map key_of (links_of n)) v v → ends_of n.plan v ≡ []
root_alone n h zero low high root = refl
root_alone n h (suc zero) low high root = refl
root_alone n h (suc (suc k)) low high root =
    let same : suc (suc k) ≡ k + 2 = omega arith in
    let least : (u : ℕ) → JoinedIn n (k + 2) u → k + 2 ≤ u = subst (λ v. (u : ℕ) → JoinedIn n v u → v ≤ u) same root.least in
    root_by n h k (smaller_ends n.plan (k + 2)) (omega arith) refl least

pub in_pieces : (n : Network) → IsNetwork n → n.plan.kind ≡ Forest →
    HasComponents (record { nodes = n.plan.nodes; keys = map key_of (links_of n) }) (n.plan.nodes - n.links)
in_pieces n h is =
    let p = n.plan in
    let some = h.plan.some in
    let k = p.nodes - 1 in
    let all : k + 1 ≡ p.nodes = omega arith in
    let each : Each (IsHeadTo p p.nodes) (heads p k) = rw all at (each_head p k) in
    let counted = h.counted in
    let long = length_heads p h.plan is k in
    let heads_one = one_head n h.plan is in
    record {
      leasts = heads p k;
      rising = pairs_apart (λ a b. a < b) (heads p k) (apart_heads p k);
      has = λ v c.
          let head = each_has (IsHeadTo p p.nodes) (heads p k) v each c in (
            head.0,
            head.1,
            record {
              joined = Same;
              least = λ u way.
                  let same : head_of p v ≡ head_of p u = joined_heads p (map key_of (links_of n)) heads_one way in
                  let own = head_is p v head.2 in
                  let low = head_at_most p h.plan is u u in
                  omega (arith, same, own, low);
            },
          );
      all = λ v low high root. all_heads p k v low (omega (arith, high, all)) (root_alone n h v low high root);
      number = omega (arith, long, counted, all);
    }
