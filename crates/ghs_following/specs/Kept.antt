-- The chains of a run, as they are kept.
use Rattle.std.specs.Prelude.{◌≡◌, List, [], ◌∷◌, ◌++◌}
use Rattle.ghs_graph.specs.Graph.{Shape}
use Rattle.peer_network.specs.declared.event.Event.{Event}
use Rattle.peer_network.specs.Network.{network_of}
use Rattle.ghs_core.specs.NetState.{NetState}
use Rattle.peer_chains.specs.Kept.{Fits, Kept, seen}
use Rattle.ghs_following.specs.Chains.{chains_of}

-- the chains of a run of a graph
pub record AreChainsOf (g : Shape) (es : List Event) (k : Kept) : Type 0 where
  pub fits : Fits g k
  pub same : seen k ≡ chains_of (network_of g) es

-- of a net's run
abbrev pub AreChains : NetState → Kept → Type 0
AreChains s k = AreChainsOf s.graph s.trace k

-- of its run once the event has happened
abbrev pub AreChainsThen : NetState → Event → Kept → Type 0
AreChainsThen s e k = AreChainsOf s.graph (s.trace ++ e ∷ []) k
