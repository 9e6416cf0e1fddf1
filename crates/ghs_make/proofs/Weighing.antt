-- Weights are small.
use Rattle.std.proofs.Common.{◌≡◌, ◌∙◌, ℕ, ◌+◌, ◌-◌, ◌*◌, ◌%◌, ◌<◌, ◌≤◌, ◌^◌, Bool, true, false, cond, refl, sym, arith, Option, Some, None}
use Rattle.std.specs.Prelude.{nat_le, ◌==◌, ◌||◌}
use Rattle.std.specs.Int.{is_power_of_two, w32, trailing_zeros}
use Rattle.std.proofs.Math.Nat.{mod-lt}
use Rattle.std.proofs.lemmas.Bool.{leb-true, leb-false}
use Rattle.std.proofs.lemmas.Nat.Bits.{bit_at-trailing_zeros}
use Rattle.ghs_gr.specs.declared.raw_graph.TheConstants.{ARC_LIMIT, NODE_LIMIT}
use Rattle.ghs_make.specs.Ends.{chain_end, front, place, twos}
use Rattle.ghs_make.specs.Network.{IsNetwork, own_weight, own_weight_by, weight_by, weight_of}
use Rattle.ghs_make.specs.Plan.{IsPlan}
use Rattle.ghs_make.specs.Word.{word}
use Rattle.ghs_make.specs.declared.kind.Kind.{Kind}
use Rattle.ghs_make.specs.declared.kind.Kind.TheVariants as kind
use Rattle.ghs_make.specs.declared.network.Network.{Network}
use Rattle.ghs_make.specs.declared.plan.Plan.{Plan}
use Rattle.ghs_make.specs.declared.weights.Weights.{Weights}
use Rattle.ghs_make.specs.declared.weights.Weights.TheVariants.{Random, Rising, Falling, Equal}
use Rattle.ghs_make.specs.declared.word.TheConstants.{WEIGHING}

twos_few : (n : ℕ) → 1 ≤ n → n < 2 ^ 32 → twos n < 32
unfolding twos
twos_few n some few = (bit_at-trailing_zeros w32 n some few).0

chain_by : (p : Plan) (v : ℕ) (b c : Bool) → (c ≡ false → twos (place p v) < 32) → cond b (cond c 1 (1 + twos (place p v))) 64 < 10000000
chain_by p v true true h = omega arith
chain_by p v true false h = let few : twos (place p v) < 32 = h refl in omega arith
chain_by p v false c h = omega arith

far_by : (k : ℕ) (b c d e : Bool) → (b ≡ false → k < 32)
    → cond b (cond c 1 65) (cond d (cond e (32 + k) 64) (1 + k)) < 10000000
far_by k true true d e h = omega arith
far_by k true false d e h = omega arith
far_by k false c true true h = let few : k < 32 = h refl in omega arith
far_by k false c true false h = omega arith
far_by k false c false e h = let few : k < 32 = h refl in omega arith

wake_by : (v : ℕ) (b c : Bool) → v ≤ NODE_LIMIT → cond b (v + 1) (cond c (v - 1) v) < 10000000
wake_by v true c le = omega arith
wake_by v false true le = omega arith
wake_by v false false le = omega arith

few_behind : (p : Plan) (v : ℕ) → v ≤ NODE_LIMIT → nat_le v (front p) ≡ false → twos (place p v) < 32
few_behind p v le e = let behind : front p < v = leb-false v (front p) e in twos_few (place p v) (omega arith) (omega arith)

own_few_by : (k : Kind) (p : Plan) (u v : ℕ) → v ≤ NODE_LIMIT → own_weight_by k p u v < 10000000
own_few_by kind.FarCore p u v le =
    far_by (twos (place p v)) (nat_le v (front p)) (u == v - 1) (is_power_of_two (place p v)) ((u == 1) || (u == front p)) (few_behind p v le)
own_few_by kind.ChainWake p u v le = wake_by v (u == 1) (u == v - 1) le
own_few_by kind.Path p u v le = chain_by p v (u == chain_end p v) (nat_le v (front p)) (few_behind p v le)
own_few_by kind.Ring p u v le = chain_by p v (u == chain_end p v) (nat_le v (front p)) (few_behind p v le)
own_few_by kind.Star p u v le = chain_by p v (u == chain_end p v) (nat_le v (front p)) (few_behind p v le)
own_few_by kind.Grid p u v le = chain_by p v (u == chain_end p v) (nat_le v (front p)) (few_behind p v le)
own_few_by kind.Complete p u v le = chain_by p v (u == chain_end p v) (nat_le v (front p)) (few_behind p v le)
own_few_by kind.Tree p u v le = chain_by p v (u == chain_end p v) (nat_le v (front p)) (few_behind p v le)
own_few_by kind.Random p u v le = chain_by p v (u == chain_end p v) (nat_le v (front p)) (few_behind p v le)
own_few_by kind.Road p u v le = chain_by p v (u == chain_end p v) (nat_le v (front p)) (few_behind p v le)
own_few_by kind.Forest p u v le = chain_by p v (u == chain_end p v) (nat_le v (front p)) (few_behind p v le)
own_few_by kind.Slow p u v le = chain_by p v (u == chain_end p v) (nat_le v (front p)) (few_behind p v le)
own_few_by kind.Busy p u v le = chain_by p v (u == chain_end p v) (nat_le v (front p)) (few_behind p v le)

own_few : (p : Plan) (u v : ℕ) → v ≤ NODE_LIMIT → own_weight p u v < 10000000
unfolding own_weight
own_few p u v le = own_few_by p.kind p u v le

weight_few_by : (w : Option Weights) (n : Network) (number u v : ℕ) → n.links ≤ ARC_LIMIT → number < n.links → v ≤ NODE_LIMIT →
    weight_by w n number u v < 10000000
weight_few_by (Some Random) n number u v few lt le =
    let some : 0 < 1000000 = omega arith in
    let rest = mod-lt (word n.plan.seed WEIGHING number) some in omega (arith, rest)
weight_few_by (Some Rising) n number u v few lt le = omega arith
weight_few_by (Some Falling) n number u v few lt le = omega arith
weight_few_by (Some Equal) n number u v few lt le = omega arith
weight_few_by None n number u v few lt le = own_few n.plan u v le

pub weight_few : (n : Network) → IsNetwork n → (number u v : ℕ) → number < n.links → v ≤ n.plan.nodes → weight_of n number u v < 10000000
weight_few n h number u v lt le = let few = h.plan.few in weight_few_by n.weights n number u v h.few lt (omega arith)
