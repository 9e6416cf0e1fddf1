-- What is asked for, and what it comes to.
use Rattle.std.specs.Prelude.{ℕ, ◌≡◌, ◌+◌, ◌-◌, ◌*◌, ◌/◌, ◌<◌, ◌≤◌, cond, min, nat_lt, not, ◌&&◌, ◌||◌, is_some, Option, Some, None}
use Rattle.ghs_gr.specs.declared.raw_graph.TheConstants.{ARC_LIMIT, NODE_LIMIT}
use Rattle.ghs_graph.specs.Bound.{IsFloorLog2}
use Rattle.ghs_make.specs.Kind.{has_own_weights, takes_links}
use Rattle.ghs_make.specs.declared.fault.MakeFault.{MakeFault}
use Rattle.ghs_make.specs.declared.fault.MakeFault.TheVariants.{Nodes, LinksGiven, WeightsGiven, Links}
use Rattle.ghs_make.specs.declared.kind.Kind.{Kind}
use Rattle.ghs_make.specs.declared.kind.Kind.TheVariants.{Random, Forest}
use Rattle.ghs_make.specs.declared.plan.Asked.{Asked}
use Rattle.ghs_make.specs.declared.plan.Plan.{Plan}

-- how many pairs so many nodes make
abbrev pub pairs : ℕ → ℕ
pairs n = n * (n - 1) / 2

-- the least and the greatest number of links that a kind takes
abbrev pub least_links : Kind → ℕ → ℕ
least_links Random n = n - 1
least_links _ n = 0

abbrev pub most_links : Kind → ℕ → ℕ
most_links Random n = min (pairs n) ARC_LIMIT
most_links _ n = n - 1

-- the fault of a number of links
abbrev pub links_fault : Kind → ℕ → Option ℕ → Option MakeFault
links_fault kind n None = None
links_fault kind n (Some links) =
    let least = least_links kind n in
    let most = most_links kind n in
    cond (nat_lt links least || nat_lt most links) (Some (Links least most)) None

-- the first thing that is wrong with what is asked for
abbrev pub refusal : Asked → Option MakeFault
refusal asked =
    cond (nat_lt asked.nodes 1 || nat_lt NODE_LIMIT asked.nodes) (Some Nodes)
    (cond (is_some asked.links && not (takes_links asked.kind)) (Some LinksGiven)
    (cond (is_some asked.weights && has_own_weights asked.kind) (Some WeightsGiven)
    (links_fault asked.kind asked.nodes asked.links)))

-- how many links there are in all: as many as are asked for; else, at random two for each node, or as many as there can be, and
-- in a forest three for four nodes
abbrev pub links_in_all : Kind → ℕ → Option ℕ → ℕ
links_in_all kind n (Some links) = links
links_in_all Random n None = min (2 * n) (most_links Random n)
links_in_all Forest n None = (n - 1) * 3 / 4
links_in_all _ n None = 0

abbrev pub links_asked : Asked → ℕ
links_asked asked = links_in_all asked.kind asked.nodes asked.links

-- a number of links that the kind takes
abbrev pub TakesLinks : Kind → ℕ → ℕ → Type 0
TakesLinks Random n links = (n ≤ links + 1) × (links ≤ pairs n) × (links ≤ ARC_LIMIT)
TakesLinks Forest n links = links ≤ n - 1
TakesLinks _ n links = Unit {0}

-- a plan whose numbers fit one another
pub record IsPlan (p : Plan) : Type 0 where
  pub some : 1 ≤ p.nodes
  pub few : p.nodes ≤ NODE_LIMIT
  pub links : TakesLinks p.kind p.nodes p.links
  pub square : p.width * p.width ≤ p.nodes
  pub next_square : p.nodes < (p.width + 1) * (p.width + 1)
  pub levels : IsFloorLog2 p.nodes p.levels

-- the plan of what is asked for
pub record IsPlanOf (asked : Asked) (p : Plan) : Type 0 where
  pub kind : p.kind ≡ asked.kind
  pub nodes : p.nodes ≡ asked.nodes
  pub seed : p.seed ≡ asked.seed
  pub links : p.links ≡ links_asked asked
