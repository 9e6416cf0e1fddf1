-- What holds of the levels of every graph, as one fact a law.
use Rattle.std.specs.Prelude.{◌≡◌, ◌≢◌, ◌⊎◌, ◌↔◌, ℕ, suc, ◌≤◌, ◌<◌, ◌^◌, List, [], length}
use Rattle.std.specs.List.{AllPairs, Contains}
use Rattle.ghs_graph.specs.declared.key.Key.{Key}
use Rattle.ghs_graph.specs.declared.port.Port.{Port}
use Rattle.ghs_graph.specs.Links.{Joined, links, InTree}
use Rattle.ghs_graph.specs.Ports.{ports_of, HasPort}
use Rattle.ghs_graph.specs.Graph.{Shape, IsGraph}
use Rattle.ghs_graph.specs.Bound.{IsFloorLog2}
use Rattle.boruvka_protocol.specs.Levels.{IsLeastOut, Taken, InClass, HasWayOut, IsOfLevel}
use Rattle.boruvka_protocol.specs.Cores.{IsCore, LeadsTo}
use Rattle.boruvka_protocol.specs.WaysUp.{IsTop, IsUp, IsBelow, LeavesBelow, IsSub, IsLeastOffered}

-- what is taken lies in the minimum spanning forest
abbrev pub TakenInTree : Type 0
TakenInTree = (g : Shape) → IsGraph g → (l : ℕ) (k : Key) → Taken g.keys l k → InTree g.keys k

-- a class with a way out is of its level, and the class that it becomes part of is of the next one
abbrev pub WaysOutLiftClasses : Type 0
WaysOutLiftClasses =
    (g : Shape) → IsGraph g → (l v : ℕ) → HasWayOut g.keys l v → IsOfLevel g.keys l v × IsOfLevel g.keys (suc l) v

-- at level 0 the least way out of a node is the link of its first port
abbrev pub FirstPortIsLeast : Type 0
FirstPortIsLeast =
    (g : Shape) → IsGraph g → (v : ℕ) (p : Port) → HasPort g.keys v 0 p → IsLeastOut g.keys (Taken g.keys 0) v p.key

-- a node without ports has no way out, at whatever level
abbrev pub NoPortNoWayOut : Type 0
NoPortNoWayOut = (g : Shape) → IsGraph g → (v l : ℕ) → ports_of g.keys v ≡ [] → HasWayOut g.keys l v → ⊥

-- the class of v at level l has at least n nodes
pub record HasNodes (g : Shape) (l v n : ℕ) : Type 0 where
  pub nodes : List ℕ
  pub rising : AllPairs (λ u w. u < w) nodes
  pub each : (u : ℕ) → Contains nodes u → (1 ≤ u) × (u ≤ g.nodes) × InClass g.keys l v u
  pub many : n ≤ length nodes

-- a class of level l has at least 2^l nodes
abbrev pub ClassesAreLarge : Type 0
ClassesAreLarge =
    (g : Shape) → IsGraph g → (l v : ℕ) → 1 ≤ v → v ≤ g.nodes → IsOfLevel g.keys l v → HasNodes g l v (2 ^ l)

-- so no class is of a level above the floor of log2 of the nodes
abbrev pub LevelsAreFew : Type 0
LevelsAreFew =
    (g : Shape) → IsGraph g → (l v k : ℕ) → 1 ≤ v → v ≤ g.nodes → IsOfLevel g.keys l v → IsFloorLog2 g.nodes k → l ≤ k

-- a class of a level above 0 has one core
abbrev pub ClassesHaveOneCore : Type 0
ClassesHaveOneCore =
    (g : Shape) → IsGraph g → (l v : ℕ) → IsOfLevel g.keys (suc l) v
    → (c : Key) × IsCore g.keys l v c × ((k : Key) → IsCore g.keys l v k → k ≡ c)

-- from each part of a class the least ways out fall to its core
abbrev pub PartsLeadToCore : Type 0
PartsLeadToCore =
    (g : Shape) → IsGraph g → (l v : ℕ) → IsOfLevel g.keys (suc l) v → (c : Key) → IsCore g.keys l v c
    → (u : ℕ) → InClass g.keys (suc l) v u → LeadsTo g.keys (Taken g.keys l) u c

-- level, core and top are the class's: what they are of one of its nodes they are of each
abbrev pub LevelIsOfClass : Type 0
LevelIsOfClass = (g : Shape) → IsGraph g → (l v u : ℕ) → InClass g.keys l v u → IsOfLevel g.keys l v → IsOfLevel g.keys l u

abbrev pub CoreIsOfClass : Type 0
CoreIsOfClass = (g : Shape) → IsGraph g → (l v u : ℕ) → InClass g.keys (suc l) v u → (c : Key) → IsCore g.keys l v c → IsCore g.keys l u c

abbrev pub TopIsOfClass : Type 0
TopIsOfClass = (g : Shape) → IsGraph g → (l v u : ℕ) → InClass g.keys l v u → (r : ℕ) → IsTop g.keys l v r → IsTop g.keys l u r

-- of the links inside a class those of the minimum spanning forest are taken, and no other
abbrev pub InsideIsTree : Type 0
InsideIsTree = (g : Shape) → IsGraph g → (l : ℕ) (k : Key) → InClass g.keys l k.a k.b → Taken g.keys l k ↔ InTree g.keys k

-- where no class has a way out, what is taken is the minimum spanning forest
abbrev pub WholeIsTree : Type 0
WholeIsTree =
    (g : Shape) → IsGraph g → (l : ℕ) → ((v : ℕ) → HasWayOut g.keys l v → ⊥) → (k : Key) → Taken g.keys l k ↔ InTree g.keys k

-- a class without a way out is a component
abbrev pub WholeIsComponent : Type 0
WholeIsComponent =
    (g : Shape) → IsGraph g → (l v : ℕ) → (HasWayOut g.keys l v → ⊥) → (u : ℕ) → InClass g.keys l v u ↔ Joined (links g.keys) v u

-- and what is taken in it is the minimum spanning forest's there
abbrev pub WholeIsTreeThere : Type 0
WholeIsTreeThere =
    (g : Shape) → IsGraph g → (l v : ℕ) → (HasWayOut g.keys l v → ⊥) → (k : Key) → Joined (links g.keys) v k.a
    → Taken g.keys l k ↔ InTree g.keys k

-- the class of v at level l is the last: of that level, and without a way out
pub record IsLast (ks : List Key) (l v : ℕ) : Type 0 where
  pub level : IsOfLevel ks l v
  pub whole : HasWayOut ks l v → ⊥

-- each node has one last level
abbrev pub NodesHaveOneLast : Type 0
NodesHaveOneLast = (g : Shape) → IsGraph g → (v : ℕ) → (l : ℕ) × IsLast g.keys l v × ((m : ℕ) → IsLast g.keys m v → m ≡ l)

-- at the floor of log2 of the nodes, and from there on, no class has a way out
abbrev pub LastLevelIsWhole : Type 0
LastLevelIsWhole =
    (g : Shape) → IsGraph g → (k l v : ℕ) → IsFloorLog2 g.nodes k → k ≤ l → HasWayOut g.keys l v → ⊥

-- so there what is taken is the minimum spanning forest
abbrev pub LastLevelIsTree : Type 0
LastLevelIsTree =
    (g : Shape) → IsGraph g → (k l : ℕ) → IsFloorLog2 g.nodes k → k ≤ l → (j : Key) → Taken g.keys l j ↔ InTree g.keys j

-- a class of a level has one top, which lies in it
abbrev pub ClassesHaveOneTop : Type 0
ClassesHaveOneTop =
    (g : Shape) → IsGraph g → (l v : ℕ) → IsOfLevel g.keys l v
    → (r : ℕ) × IsTop g.keys l v r × InClass g.keys l v r × ((s : ℕ) → IsTop g.keys l v s → s ≡ r)

-- each other node has one way up
abbrev pub OthersHaveOneWayUp : Type 0
OthersHaveOneWayUp =
    (g : Shape) → IsGraph g → (l v r : ℕ) → IsTop g.keys l v r → v ≢ r
    → (k : Key) × IsUp (Taken g.keys l) r v k × ((j : Key) → IsUp (Taken g.keys l) r v j → j ≡ k)

-- the top has none
abbrev pub TopsHaveNoWayUp : Type 0
TopsHaveNoWayUp = (g : Shape) → IsGraph g → (l v r : ℕ) → IsTop g.keys l v r → (k : Key) → IsUp (Taken g.keys l) r r k → ⊥

-- k is the way up from its end v, and not from its end u
abbrev pub IsUpFrom : (Key → Type 0) → ℕ → ℕ → ℕ → Key → Type 0
IsUpFrom S r v u k = IsUp S r v k × (IsUp S r u k → ⊥)

-- each link that is taken in a class is the way up from one of its ends
abbrev pub LinksAreWaysUp : Type 0
LinksAreWaysUp =
    (g : Shape) → IsGraph g → (l v r : ℕ) → IsTop g.keys l v r → (k : Key) → Taken g.keys l k → InClass g.keys l v k.a
    → IsUpFrom (Taken g.keys l) r k.a k.b k ⊎ IsUpFrom (Taken g.keys l) r k.b k.a k

-- the ways up lead from each node to the top
abbrev pub WaysUpLeadToTop : Type 0
WaysUpLeadToTop = (g : Shape) → IsGraph g → (l v r : ℕ) → IsTop g.keys l v r → IsBelow (Taken g.keys l) r v r

-- one link is the least that leaves from a node or from below it, or none leaves there
abbrev pub NodesHaveOneSub : Type 0
NodesHaveOneSub =
    (g : Shape) → IsGraph g → (l v r : ℕ) → IsTop g.keys l v r
    → ((k : Key) × IsSub g.keys (Taken g.keys l) r v k × ((j : Key) → IsSub g.keys (Taken g.keys l) r v j → j ≡ k))
    ⊎ ((k : Key) → LeavesBelow g.keys (Taken g.keys l) r v k → ⊥)

-- what a node hears of its children is enough: the least link out of the class from it or from below is the least of its own and theirs
abbrev pub SubsAreOfChildren : Type 0
SubsAreOfChildren =
    (g : Shape) → IsGraph g → (l v r : ℕ) (k : Key)
    → IsSub g.keys (Taken g.keys l) r v k ↔ IsLeastOffered g.keys (Taken g.keys l) r v k

-- at the top it is the least link out of the class
abbrev pub SubOfTopIsLeast : Type 0
SubOfTopIsLeast =
    (g : Shape) → IsGraph g → (l v r : ℕ) → IsTop g.keys l v r → (k : Key)
    → IsSub g.keys (Taken g.keys l) r r k ↔ IsLeastOut g.keys (Taken g.keys l) v k
