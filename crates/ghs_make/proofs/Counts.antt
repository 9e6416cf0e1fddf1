-- How many links there are, node by node.
use Rattle.std.proofs.Common.{◌≡◌, ◌∙◌, ℕ, zero, suc, ◌+◌, ◌-◌, ◌<◌, ◌≤◌, ◌^◌, List, [], ◌∷◌, ◌++◌, length, take, get_or, add-one, add-suc, append_assoc, length-append, append-nil, refl, ap, sym, arith, ⊎_elim}
use Rattle.std.proofs.lemmas.Bool.{cases_lt}
use Rattle.std.specs.List.{flat_map}
use Rattle.std.proofs.lemmas.List.Concat.{flat_map-append}
use Rattle.ghs_gr.specs.RawGraph.{Triple}
use Rattle.ghs_gr.specs.declared.raw_graph.TheConstants.{ARC_LIMIT}
use Rattle.ghs_make.specs.Ends.{smaller_ends}
use Rattle.ghs_make.specs.Network.{IsNetwork, count_of, count_of_nodes, links_at, links_of_nodes, weight_of}
use Rattle.ghs_make.specs.Text.{arc_line}
use Rattle.ghs_make.specs.declared.network.Network.{Network}
use Rattle.ghs_make.specs.declared.plan.Plan.{Plan}

pub count_more : (p : Plan) (k : ℕ) → count_of_nodes p (k + 1) ≡ count_of_nodes p k + length (smaller_ends p (k + 2))
unfolding count_of_nodes
count_more p k = ap (count_of_nodes p) (add-one k)

pub count_none : (p : Plan) → count_of_nodes p 0 ≡ 0
unfolding count_of_nodes
count_none p = refl

pub count_mono : (p : Plan) (j k : ℕ) → j ≤ k → count_of_nodes p j ≤ count_of_nodes p k
count_mono p zero zero le = omega arith
count_mono p (suc j) zero le = absurd (omega arith)
count_mono p j (suc k) le = ⊎_elim
    (λ below.
    let low : j ≤ k = omega (arith, below) in
    let inner : count_of_nodes p j ≤ count_of_nodes p k = count_mono p j k low in
    let more = count_more p k in
    let one : suc k ≡ k + 1 = omega arith in
    rw one (omega (arith, inner, more)))
    (λ here. let same : j ≡ suc k = omega (arith, here, le) in rw same (omega arith))
    (cases_lt j (suc k))

-- the links of the nodes up to one are within those of the network
pub count_within : (n : Network) → IsNetwork n → (k : ℕ) → k + 1 < n.plan.nodes
    → count_of_nodes n.plan k + length (smaller_ends n.plan (k + 2)) ≤ ARC_LIMIT
count_within n h k lt =
    let mono = count_mono n.plan (k + 1) (n.plan.nodes - 1) (omega arith) in
    let more = count_more n.plan k in
    let counted = h.counted in
    let few = h.few in
    omega arith

pub length-links_at : (n : Network) (number v : ℕ) (us : List ℕ) → length (links_at n number v us) ≡ length us
length-links_at n number v [] = refl
length-links_at n number v (u ∷ us) = ap suc (length-links_at n (suc number) v us)

pub links_none : (n : Network) → links_of_nodes n 0 ≡ []
unfolding links_of_nodes
links_none n = refl

pub length-links : (n : Network) (k : ℕ) → length (links_of_nodes n k) ≡ count_of_nodes n.plan k
unfolding links_of_nodes count_of_nodes
length-links n zero = refl
length-links n (suc k) =
    let before = links_of_nodes n k in
    length-append before (links_at n (length before) (k + 2) (smaller_ends n.plan (k + 2)))
    ∙ ap (λ m. length before + m) (length-links_at n (length before) (k + 2) (smaller_ends n.plan (k + 2)))
    ∙ ap (λ m. m + length (smaller_ends n.plan (k + 2))) (length-links n k)

pub links_more : (n : Network) (k : ℕ)
    → links_of_nodes n (k + 1) ≡ links_of_nodes n k ++ links_at n (count_of_nodes n.plan k) (k + 2) (smaller_ends n.plan (k + 2))
unfolding links_of_nodes
links_more n k =
    ap (links_of_nodes n) (add-one k)
    ∙ ap (λ m. links_of_nodes n k ++ links_at n m (k + 2) (smaller_ends n.plan (k + 2))) (length-links n k)

-- one more link of a node
pub links_at_more : (n : Network) (number v : ℕ) (us : List ℕ) (i : ℕ) → i < length us
    → links_at n number v (take (i + 1) us) ≡ links_at n number v (take i us) ++ (weight_of n (number + i) (get_or us i 0) v, get_or us i 0, v) ∷ []
links_at_more n number v [] i lt = absurd (omega arith)
links_at_more n number v (u ∷ us) zero lt = let same : number + 0 ≡ number = omega arith in rw same refl
links_at_more n number v (u ∷ us) (suc i) lt =
    let inner = links_at_more n (suc number) v us i (omega arith) in
    let same : suc number + i ≡ number + suc i = omega arith in
    let first : Triple = (weight_of n number u v, u, v) in
    let one : suc i + 1 ≡ suc (i + 1) = omega arith in
    rw one (ap (λ ls. first ∷ ls) (rw same at inner))

pub lines_more : (n : Network) (number v : ℕ) (us old text : List ℕ) (i : ℕ) → i < length us
    → text ≡ old ++ flat_map arc_line (links_at n number v (take i us))
    → text ++ arc_line (weight_of n (number + i) (get_or us i 0) v, get_or us i 0, v)
    ≡ old ++ flat_map arc_line (links_at n number v (take (i + 1) us))
lines_more n number v us old text i lt so_far =
    let k : Triple = (weight_of n (number + i) (get_or us i 0) v, get_or us i 0, v) in
    let before = links_at n number v (take i us) in
    ap (λ t. t ++ arc_line k) so_far
    ∙ append_assoc old (flat_map arc_line before) (arc_line k)
    ∙ ap (λ t. old ++ t) (
    ap (λ t. flat_map arc_line before ++ t) (sym (append-nil (arc_line k)))
    ∙ sym (flat_map-append arc_line before (k ∷ []))
    ∙ ap (flat_map arc_line) (sym (links_at_more n number v us i lt))
    )
