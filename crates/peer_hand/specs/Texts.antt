-- Graphs and events of texts.
use Rattle.std.specs.Prelude.{◌≡◌, ℕ, List, Ok, Err, map}
use Rattle.ghs_gr.specs.Judgement.{TextIs}
use Rattle.ghs_gr.specs.RawGraph.{RawShape}
use Rattle.ghs_graph.specs.Graph.{Shape}
use Rattle.ghs_graph.specs.Key.{key_of}
use Rattle.peer_trace.specs.Reading.{HasFaultOf}
use Rattle.peer_trace.specs.declared.fault.StoredFault.TheVariants as stored
use Rattle.peer_trace.specs.declared.protocol.Protocol.{Protocol}
use Rattle.peer_hand.specs.declared.fault.HandFault.{HandFault}
use Rattle.peer_hand.specs.declared.fault.HandFault.TheVariants.{Graph, Trace, Other, Own, Memory}

-- the text is one of this graph
pub record IsTextOf (text : List ℕ) (g : Shape) : Type 0 where
  pub raw : RawShape
  pub is : TextIs text (Ok raw)
  pub nodes : g.nodes ≡ raw.nodes
  pub keys : g.keys ≡ map key_of raw.keys

-- why a text gives no graph, and no events of a protocol, memory aside
abbrev pub HasNoGraph : List ℕ → HandFault → Type 0
HasNoGraph text (Graph fault) = TextIs text (Err fault)
HasNoGraph text Memory = Unit {0}
HasNoGraph text _ = ⊥

abbrev pub HasNoEvents : Protocol → List ℕ → HandFault → Type 0
HasNoEvents p text (Trace fault) = HasFaultOf p text (stored.Trace fault)
HasNoEvents p text (Other other) = HasFaultOf p text (stored.Other other)
HasNoEvents p text Own = HasFaultOf p text stored.Own
HasNoEvents p text Memory = Unit {0}
HasNoEvents p text _ = ⊥
