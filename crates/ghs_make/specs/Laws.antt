-- What holds of every network, as one fact a law.
use Rattle.std.specs.Prelude.{ℕ, ◌≡◌, ◌≢◌, ◌-◌, ◌<◌, ◌≤◌, ◌^◌, length, map, Ok}
use Rattle.std.specs.List.{All, AllPairs}
use Rattle.ghs_gr.specs.Judgement.{TextIs}
use Rattle.ghs_gr.specs.Key.{AreSameKeys}
use Rattle.ghs_gr.specs.RawGraph.{IsLinkOf, RawShape}
use Rattle.ghs_graph.specs.Components.{HasComponents}
use Rattle.ghs_graph.specs.Key.{key_of}
use Rattle.ghs_graph.specs.Links.{Joined, links}
use Rattle.ghs_make.specs.Network.{IsNetwork, links_of}
use Rattle.ghs_make.specs.Text.{text_of}
use Rattle.ghs_make.specs.declared.kind.Kind.TheVariants.{Random, Forest}
use Rattle.ghs_make.specs.declared.network.Network.{Network}

-- a network's text is read without a fault, and what is read has the network's nodes and its links
pub record IsRead (n : Network) : Type 0 where
  pub graph : RawShape
  pub text : TextIs (text_of n) (Ok graph)
  pub nodes : graph.nodes ≡ n.plan.nodes
  pub links : AreSameKeys graph.keys (links_of n)

abbrev pub NetworksAreRead : Type 0
NetworksAreRead = (n : Network) → IsNetwork n → n.plan.seed < 2 ^ 64 → n.plan.links < 2 ^ 32 → IsRead n

-- a link has two ends among the nodes, the smaller first, and no two links have the same ends
pub record AreSimple (n : Network) : Type 0 where
  pub among : All (IsLinkOf n.plan.nodes) (links_of n)
  pub apart : AllPairs (λ j k. (j.1 ≡ k.1) × (j.2 ≡ k.2) → ⊥) (links_of n)
  pub counted : length (links_of n) ≡ n.links

abbrev pub LinksAreSimple : Type 0
LinksAreSimple = (n : Network) → IsNetwork n → AreSimple n

-- what a network's links join
abbrev pub JoinedIn : Network → ℕ → ℕ → Type 0
JoinedIn n = Joined (links (map key_of (links_of n)))

-- any two nodes of a network are joined, unless it is a forest
abbrev pub NetworksAreConnected : Type 0
NetworksAreConnected =
    (n : Network) → IsNetwork n → n.plan.kind ≢ Forest → (u v : ℕ) → 1 ≤ u → u ≤ n.plan.nodes → 1 ≤ v → v ≤ n.plan.nodes → JoinedIn n u v

-- a network whose kind takes a number of links has so many
abbrev pub CountsAreKept : Type 0
CountsAreKept = (n : Network) → IsNetwork n → (n.plan.kind ≡ Random → n.links ≡ n.plan.links) × (n.plan.kind ≡ Forest → n.links ≡ n.plan.links)

-- a forest has as many pieces as it has nodes more than links
abbrev pub ForestsAreInPieces : Type 0
ForestsAreInPieces =
    (n : Network) → IsNetwork n → n.plan.kind ≡ Forest
    → HasComponents (record { nodes = n.plan.nodes; keys = map key_of (links_of n) }) (n.plan.nodes - n.links)
