-- The invariant: all clauses together.
use Rattle.std.specs.Prelude.{ℕ, None, length}
use Rattle.ghs_graph.specs.declared.key.Key.{Key}
use Rattle.peer_network.specs.Network.{Network, far, far_port, At, InNetwork}
use Rattle.ghs_protocol.specs.Net.{Net}
use Rattle.ghs_protocol.proofs.clauses.Scene.{Ghost, Scene, scene, End, end, tree_end, test_end, forest}
use Rattle.ghs_protocol.proofs.clauses.Nodes.{NodeFits}
use Rattle.ghs_protocol.proofs.clauses.TreeMessages.{TreeFits}
use Rattle.ghs_protocol.proofs.clauses.Search.{SearchFits}
use Rattle.ghs_protocol.proofs.clauses.Tests.{TestsFit}
use Rattle.ghs_protocol.proofs.clauses.Fragments.{Names, ForestFits}
use Rattle.ghs_protocol.proofs.clauses.Rest.{Alone, Named, Resting, DebtsCounted}

-- all clauses of one link, from one end
pub record LinkFits (N : ℕ → Key → Type 0) (e f : End) : Type 0 where
  pub tree : TreeFits N (tree_end e) (tree_end f)
  pub search : SearchFits (tree_end e) (tree_end f)
  pub tests : TestsFit (test_end e) (test_end f)

-- the names of a fragment's links
abbrev pub NamesOf : Network → Scene → ℕ → Key → Type 0
NamesOf g w a k = Names g (forest w) a k

-- each node keeps its clauses
abbrev pub NodesFit : Network → Scene → Type 0
NodesFit g w = (v : ℕ) → InNetwork g v → NodeFits (length (g.ports v)) (w.at v)

-- each link keeps them, from either end
abbrev pub LinksFit : Network → Scene → Type 0
LinksFit g w = (v p : ℕ) → At g v p → LinkFits (NamesOf g w) (end g w v p) (end g w (far g v p) (far_port g v p))

-- all clauses
pub record Invariant (g : Network) (w : Scene) : Type 0 where
  pub nodes : NodesFit g w
  pub trees : ForestFits g (forest w)
  pub links : LinksFit g w
  pub alone : Alone g w
  pub named : Named g w
  pub resting : Resting g w
  pub counted : DebtsCounted g w

-- some memory makes all clauses hold
pub record HasInvariant (g : Network) (n : Net) : Type 0 where
  pub ghost : Ghost
  pub holds : Invariant g (scene n ghost)

-- at the opening each node is a fragment of level 0 without a name
abbrev pub opening_ghost : Ghost
opening_ghost = record { fragment = λ v. v; coming = λ v. 0; coming_name = λ v. None; up = λ v. None }
