-- What holds of every graph, as one fact a law.
use Rattle.std.specs.Prelude.{◌≡◌, ◌≢◌, ℕ, ◌+◌, ◌*◌, ◌≤◌, ◌↔◌, ◌⊎◌, Bool, true, List, length}
use Rattle.std.specs.List.{AllPairs, Contains, sum_by}
use Rattle.std.specs.declared.cmp.Ordering.{Ordering}
use Rattle.std.specs.Ordering.{is_lt}
use Rattle.ghs_graph.specs.declared.key.Key.{Key}
use Rattle.ghs_graph.specs.declared.port.Port.{Port}
use Rattle.ghs_graph.specs.Key.{key_lt}
use Rattle.ghs_graph.specs.Links.{Joined, links, IsRising, IsTree, AreLinksOf, JoinAll, total_weight}
use Rattle.ghs_graph.specs.Ports.{port_number, port_on, ports_of, HasPort}
use Rattle.ghs_graph.specs.Graph.{Shape, IsGraph, nodes_of}
use Rattle.ghs_graph.specs.Components.{IsRoot, HasComponents}
use Rattle.ghs_graph.specs.Bound.{IsFloorLog2, IsBound}

-- Keys.

-- `<` of keys is their order, and equal keys are one
pub record OrdersKeys (cmp : Key → Key → Ordering) (eq : Key → Key → Bool) : Type 0 where
  pub less : (j k : Key) → is_lt (cmp j k) ≡ key_lt j k
  pub equal : (j k : Key) → (eq j k ≡ true) ↔ (j ≡ k)

-- Ports.

-- the far end of a port is another node of the graph
abbrev pub PortsEndElsewhere : Type 0
PortsEndElsewhere = (g : Shape) → IsGraph g → (v i : ℕ) (p : Port) → HasPort g.keys v i p → (1 ≤ p.far) × (p.far ≤ g.nodes) × (p.far ≢ v)

-- the far port of a port has the same key, and leads back
abbrev pub PortsLeadBack : Type 0
PortsLeadBack =
    (g : Shape) → IsGraph g → (v i : ℕ) (p : Port) → HasPort g.keys v i p
    → HasPort g.keys p.far p.far_port (record { key = p.key; far = v; far_port = i })

-- the keys of a node's ports rise
abbrev pub PortsRise : Type 0
PortsRise = (g : Shape) → IsGraph g → (v : ℕ) → AllPairs (λ p q. key_lt p.key q.key ≡ true) (ports_of g.keys v)

-- a link has one port at each of its ends, and no other
pub record HasTwoPorts (ks : List Key) (k : Key) : Type 0 where
  pub at_a : HasPort ks k.a (port_number ks k.a k) (port_on ks k.a k)
  pub at_b : HasPort ks k.b (port_number ks k.b k) (port_on ks k.b k)
  pub only : (v i : ℕ) (p : Port) → HasPort ks v i p → p.key ≡ k → ((v ≡ k.a) × (i ≡ port_number ks k.a k)) ⊎ ((v ≡ k.b) × (i ≡ port_number ks k.b k))

abbrev pub LinksHaveTwoPorts : Type 0
LinksHaveTwoPorts = (g : Shape) → IsGraph g → (k : Key) → Contains g.keys k → HasTwoPorts g.keys k

-- the nodes have twice as many ports as the graph has links
abbrev pub DegreesAreTwice : Type 0
DegreesAreTwice = (g : Shape) → IsGraph g → sum_by (λ v. length (ports_of g.keys v)) (nodes_of g) ≡ 2 * length g.keys

-- Components.

-- each node has a root
abbrev pub NodesHaveRoots : Type 0
NodesHaveRoots = (ks : List Key) (v : ℕ) → (r : ℕ) × IsRoot ks v r

-- nodes are joined exactly where they have the same root
abbrev pub RootsTell : Type 0
RootsTell = (ks : List Key) (u v r s : ℕ) → IsRoot ks u r → IsRoot ks v s → Joined (links ks) u v ↔ (r ≡ s)

-- there is one number of components: by so many the links of the forest are fewer than the nodes
abbrev pub ForestHasFewer : Type 0
ForestHasFewer =
    (g : Shape) → IsGraph g
    → (count : ℕ) × HasComponents g count
    × ((c : ℕ) (tree : List Key) → HasComponents g c → IsTree g.keys tree → (c ≡ count) × (length tree + c ≡ g.nodes))

-- The minimum spanning forest.

-- each rising list of keys has one minimum spanning forest
abbrev pub TreeIsOne : Type 0
TreeIsOne = (ks : List Key) → IsRising ks → (tree : List Key) × IsTree ks tree × ((other : List Key) → IsTree ks other → other ≡ tree)

-- the forest joins what the graph joins
abbrev pub TreeJoins : Type 0
TreeJoins = (ks tree : List Key) → IsRising ks → IsTree ks tree → JoinAll ks tree

-- the links of a list but one
abbrev pub links_but : List Key → Key → Key → Type 0
links_but ks k j = Contains ks j × (j ≢ k)

-- the ends of a link of the forest aren't joined by the other links of the forest
abbrev pub NoneIsSpare : Type 0
NoneIsSpare = (ks tree : List Key) → IsTree ks tree → (k : Key) → Contains tree k → Joined (links_but tree k) k.a k.b → ⊥

-- links of the graph that join whatever the graph joins weigh at least as much as the forest
abbrev pub TreeIsLeast : Type 0
TreeIsLeast = (ks tree some : List Key) → IsRising ks → IsTree ks tree → AreLinksOf ks some → JoinAll ks some → total_weight tree ≤ total_weight some

-- Bounds.

-- each number from 1 on has one floor of log2
abbrev pub FloorLog2IsOne : Type 0
FloorLog2IsOne = (n : ℕ) → 1 ≤ n → (k : ℕ) × IsFloorLog2 n k × ((j : ℕ) → IsFloorLog2 n j → j ≡ k)

-- each number of nodes from 1 on, with each number of links, has one bound
abbrev pub BoundIsOne : Type 0
BoundIsOne = (n e : ℕ) → 1 ≤ n → (b : ℕ) × IsBound n e b × ((c : ℕ) → IsBound n e c → c ≡ b)
