-- Networks: their links, in order, with their weights.
use Rattle.std.specs.Prelude.{ℕ, zero, suc, ◌≡◌, ◌+◌, ◌-◌, ◌%◌, ◌<◌, ◌≤◌, ◌==◌, cond, nat_le, ◌||◌, length, List, [], ◌∷◌, ◌++◌, Option, Some, None, unwrap_or}
use Rattle.std.specs.Int.{is_power_of_two}
use Rattle.ghs_gr.specs.RawGraph.{Triple}
use Rattle.ghs_gr.specs.declared.raw_graph.TheConstants.{ARC_LIMIT}
use Rattle.ghs_make.specs.Ends.{chain_end, front, place, smaller_ends, twos}
use Rattle.ghs_make.specs.Kind.{has_own_weights}
use Rattle.ghs_make.specs.Plan.{IsPlan, IsPlanOf, refusal}
use Rattle.ghs_make.specs.Word.{word}
use Rattle.ghs_make.specs.declared.fault.MakeFault.{MakeFault}
use Rattle.ghs_make.specs.declared.fault.MakeFault.TheVariants.{TooManyLinks, Memory}
use Rattle.ghs_make.specs.declared.kind.Kind.{Kind}
use Rattle.ghs_make.specs.declared.kind.Kind.TheVariants.{FarCore, ChainWake}
use Rattle.ghs_make.specs.declared.network.Network.{Network}
use Rattle.ghs_make.specs.declared.plan.Asked.{Asked}
use Rattle.ghs_make.specs.declared.plan.Plan.{Plan}
use Rattle.ghs_make.specs.declared.weights.Weights.{Weights}
use Rattle.ghs_make.specs.declared.weights.Weights.TheVariants.{Random, Rising, Falling, Equal}
use Rattle.ghs_make.specs.declared.word.TheConstants.{WEIGHING}

-- Weights.

-- along the chain of a slow or busy network the path's links weigh 1, and behind it each as much more as 2 divides the place of its
-- outer end; a link across weighs more than all of these
abbrev pub chain_weight : Plan → ℕ → ℕ → ℕ
chain_weight p u v = cond (u == chain_end p v) (cond (nat_le v (front p)) 1 (1 + twos (place p v))) 64

-- in a far core the path's links weigh 1, and those along a block as in slow networks; the first node of block k has a link of weight
-- 32 + k to the path's end, and its others weigh 64; those of askers weigh most
abbrev pub hung_weight : Plan → ℕ → ℕ → ℕ
hung_weight p u k = cond ((u == 1) || (u == front p)) (32 + k) 64

abbrev pub behind_weight : Plan → ℕ → ℕ → ℕ
behind_weight p u v = let q = place p v in cond (is_power_of_two q) (hung_weight p u (twos q)) (1 + twos q)

abbrev pub far_weight : Plan → ℕ → ℕ → ℕ
far_weight p u v = cond (nat_le v (front p)) (cond (u == v - 1) 1 65) (behind_weight p u v)

-- in a chain wake a node's link to the one before it weighs less than its others to smaller nodes, and that to node 1 more
abbrev pub wake_weight : ℕ → ℕ → ℕ
wake_weight u v = cond (u == 1) (v + 1) (cond (u == v - 1) (v - 1) v)

abbrev pub own_weight_by : Kind → Plan → ℕ → ℕ → ℕ
own_weight_by FarCore p u v = far_weight p u v
own_weight_by ChainWake p u v = wake_weight u v
own_weight_by _ p u v = chain_weight p u v

-- the weight of a link of a kind that has weights of its own
unfoldable pub own_weight : Plan → ℕ → ℕ → ℕ
own_weight p u v = own_weight_by p.kind p u v

-- the weight of the link of this number, counted from 0, which joins u and v
abbrev pub weight_by : Option Weights → Network → ℕ → ℕ → ℕ → ℕ
weight_by (Some Random) n number u v = 1 + word n.plan.seed WEIGHING number % 1000000
weight_by (Some Rising) n number u v = number + 1
weight_by (Some Falling) n number u v = n.links - number
weight_by (Some Equal) n number u v = 1
weight_by None n number u v = own_weight n.plan u v

abbrev pub weight_of : Network → ℕ → ℕ → ℕ → ℕ
weight_of n number u v = weight_by n.weights n number u v

-- Links, as keys: weight, smaller end, larger end.

-- the links of one node, from this number on
abbrev pub links_at : Network → ℕ → ℕ → List ℕ → List Triple
links_at n number v [] = []
links_at n number v (u ∷ us) = (weight_of n number u v, u, v) ∷ links_at n (suc number) v us

-- the links of the nodes from 2 on, of so many nodes
unfoldable pub links_of_nodes : Network → ℕ → List Triple
links_of_nodes n zero = []
links_of_nodes n (suc k) =
    let before = links_of_nodes n k in before ++ links_at n (length before) (k + 2) (smaller_ends n.plan (k + 2))

-- the links of a network, in order: node by node
abbrev pub links_of : Network → List Triple
links_of n = links_of_nodes n (n.plan.nodes - 1)

-- how many links the nodes from 2 on have, of so many nodes
unfoldable pub count_of_nodes : Plan → ℕ → ℕ
count_of_nodes p zero = 0
count_of_nodes p (suc k) = count_of_nodes p k + length (smaller_ends p (k + 2))

abbrev pub count_of : Plan → ℕ
count_of p = count_of_nodes p (p.nodes - 1)

-- a network whose numbers fit one another
pub record IsNetwork (n : Network) : Type 0 where
  pub plan : IsPlan n.plan
  pub counted : n.links ≡ count_of n.plan
  pub few : n.links ≤ ARC_LIMIT

-- how links weigh: as the seed picks, unless it is asked for or part of the kind
abbrev pub weights_asked : Asked → Option Weights
weights_asked asked = cond (has_own_weights asked.kind) None (Some (unwrap_or asked.weights Random))

-- the network of what is asked for
pub record IsNetworkOf (asked : Asked) (n : Network) : Type 0 where
  pub sound : refusal asked ≡ None
  pub plan : IsPlanOf asked n.plan
  pub weights : n.weights ≡ weights_asked asked

-- of these kinds too a network may have more links than there may be
pub data HasManyEnds : Kind → Type 0 where
  A_far_core : HasManyEnds FarCore
  A_chain_wake : HasManyEnds ChainWake

-- what is asked for has more links than there may be
abbrev pub HasTooMany : Asked → Type 0
HasTooMany asked = (p : Plan) × IsPlan p × IsPlanOf asked p × (refusal asked ≡ None) × (ARC_LIMIT < count_of p)

-- why there is no network: it was refused, or it has too many links; memory comes after these
abbrev pub IsRefusal : Asked → MakeFault → Type 0
IsRefusal asked TooManyLinks = HasTooMany asked
IsRefusal asked Memory = (refusal asked ≡ None) × (HasTooMany asked → ⊥)
IsRefusal asked fault = refusal asked ≡ Some fault
