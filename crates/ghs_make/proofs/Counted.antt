-- A network whose links a seed picks has as many as are asked for.
use Rattle.std.proofs.Common.{◌≡◌, ◌∙◌, ℕ, zero, suc, ◌+◌, ◌-◌, [], ◌∷◌, length, length-append, refl, sym, ap, arith}
use Rattle.ghs_make.specs.Ends.{ends_by, firsts, links_among, pick, picked_ends, smaller_ends}
use Rattle.ghs_make.specs.Network.{IsNetwork, count_of, count_of_nodes}
use Rattle.ghs_make.specs.Plan.{IsPlan}
use Rattle.ghs_make.specs.declared.kind.Kind.TheVariants.{Random, Forest}
use Rattle.ghs_make.specs.declared.network.Network.{Network}
use Rattle.ghs_make.specs.declared.plan.Plan.{Plan}
use Rattle.ghs_make.proofs.Counts.{count_more, count_none}
use Rattle.ghs_make.proofs.Picking.{forest_all, mono_by, none_among, random_all}

pub length_firsts : (f : ℕ → ℕ) (d : ℕ) → length (firsts f d) ≡ d
length_firsts f zero = refl
length_firsts f (suc d) =
    let inner = length_firsts f d in
    omega (arith, inner, length-append (firsts f d) (f d ∷ []))

pub picked_forest : (p : Plan) → p.kind ≡ Forest → (v : ℕ) → smaller_ends p v ≡ picked_ends p v
unfolding smaller_ends
picked_forest p is v = ap (λ k. ends_by k p v) is

pub picked_random : (p : Plan) → p.kind ≡ Random → (v : ℕ) → smaller_ends p v ≡ picked_ends p v
unfolding smaller_ends
picked_random p is v = ap (λ k. ends_by k p v) is

-- how many links a node has to smaller ones
pub length_picked : (p : Plan) (k : ℕ) → length (picked_ends p (k + 2)) ≡ links_among p (k + 2) - links_among p (k + 1)
length_picked p k =
    let before : k + 2 - 1 ≡ k + 1 = omega arith in
    let d = links_among p (k + 2) - links_among p (k + 1) in
    rw before (length_firsts (pick p.seed (links_among p (k + 1)) (k + 1) d) d)

pub count_is : (p : Plan) → IsPlan p → ((v : ℕ) → smaller_ends p v ≡ picked_ends p v) → (k : ℕ) → count_of_nodes p k ≡ links_among p (k + 1)
count_is p h is zero = count_none p ∙ sym (none_among p)
count_is p h is (suc k) =
    let inner = count_is p h is k in
    let more = count_more p k in
    let long = ap length (is (k + 2)) ∙ length_picked p k in
    let mono = mono_by p h k in
    let one : suc k ≡ k + 1 = omega arith in
    let two : suc k + 1 ≡ k + 2 = omega arith in
    rw (two, one) (omega (arith, inner, more, long, mono))

pub count_whole : (p : Plan) → IsPlan p → ((v : ℕ) → smaller_ends p v ≡ picked_ends p v) → links_among p p.nodes ≡ p.links → count_of p ≡ p.links
count_whole p h is all =
    let some = h.some in
    let same : p.nodes - 1 + 1 ≡ p.nodes = omega arith in
    (rw same at (count_is p h is (p.nodes - 1))) ∙ all

pub counts_kept : (n : Network) → IsNetwork n → (n.plan.kind ≡ Random → n.links ≡ n.plan.links) × (n.plan.kind ≡ Forest → n.links ≡ n.plan.links)
counts_kept n h = (
  λ is. h.counted ∙ count_whole n.plan h.plan (picked_random n.plan is) (random_all n.plan h.plan is),
  λ is. h.counted ∙ count_whole n.plan h.plan (picked_forest n.plan is) (forest_all n.plan h.plan is),
)
