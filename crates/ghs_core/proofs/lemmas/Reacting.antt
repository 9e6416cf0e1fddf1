-- A lawful event's work comes in at a port of its node, and what it sends goes out on ports.
use Rattle.std.proofs.Common.{ℕ, ◌<◌, List, [], ◌∷◌, length, subst, arith}
use Rattle.std.specs.List.{All}
use Rattle.std.proofs.lemmas.Bool.{and_parts}
use Rattle.ghs_graph.specs.Graph.{IsGraph}
use Rattle.ghs_graph.specs.Ports.{ports_of}
use Rattle.ghs_node.specs.declared.delta.Delta.{Delta}
use Rattle.ghs_node.specs.declared.message.Message.{Message}
use Rattle.ghs_node.specs.NodeState.{NodeState, degree}
use Rattle.ghs_node.specs.Reaction.{HasPort}
use Rattle.ghs_node.specs.Rows.{Row}
use Rattle.ghs_node.proofs.lemmas.{reaction_inverts, row_ported}
use Rattle.peer_network.specs.declared.event.Event.{Event}
use Rattle.peer_network.specs.declared.event.Event.TheVariants.{Wake, Take}
use Rattle.ghs_protocol.specs.Nodes.{IsNodeOf}
use Rattle.ghs_protocol.specs.Run.{IsRun}
use Rattle.peer_network.proofs.lemmas.Events.{at_of}
use Rattle.peer_network.proofs.lemmas.Graphs.{graph_few, graph_wired}
use Rattle.ghs_protocol.proofs.lemmas.Nodes.{ports_many}
use Rattle.ghs_protocol.proofs.lemmas.Runs.{after_is_net}
use Rattle.ghs_protocol.proofs.lemmas.WellFormed.{after_formed}
use Rattle.ghs_core.specs.NetState.{IsAnswer, IsLawful, NetState, delivery, event_node, net_of, network, work_at}

delivered : (n : NodeState) (p : ℕ) (q : List Message) → p < degree n → HasPort n (delivery p q)
delivered n p [] lt = tt
delivered n p (m ∷ ms) lt = lt

module _ (s : NetState) (graph : IsGraph s.graph) (run : IsRun (network s) s.trace) where
  pub node_is : (v : ℕ) → IsNodeOf (network s) v ((net_of s).node v)
  node_is v =
      (after_formed (network s) (graph_wired s.graph graph) (graph_few s.graph graph) s.trace (net_of s) (after_is_net s.graph s.trace run)).nodes v

  pub work_port : (e : Event) → IsLawful s e → HasPort ((net_of s).node (event_node e)) (work_at (net_of s) e)
  work_port (Wake v) h = tt
  work_port (Take v p) h =
      let lt = (at_of (network s) v p (and_parts _ _ h).0).port in
      let many = ports_many (node_is v) in
      delivered ((net_of s).node v) p ((net_of s).queue v p) (omega (arith, lt, many))

  pub row_sends : (e : Event) (d : Delta) → Row ((net_of s).node (event_node e)) (work_at (net_of s) e) d →
      All (λ (m : ℕ × Message). m.0 < length (ports_of s.graph.keys (event_node e))) d.sends
  row_sends e d row =
      subst (λ k. All (λ (m : ℕ × Message). m.0 < k) d.sends) (ports_many (node_is (event_node e)))
      (row_ported ((net_of s).node (event_node e)) (work_at (net_of s) e) d (node_is (event_node e)).node row)

  module _ (e : Event) (d : Delta) (lawful : IsLawful s e) (answer : IsAnswer s e d) where
    -- an answer is the reaction of a row
    pub answer_row : Row ((net_of s).node (event_node e)) (work_at (net_of s) e) d
    answer_row = reaction_inverts ((net_of s).node (event_node e)) (work_at (net_of s) e) d (work_port e lawful) answer

    pub answer_sends : All (λ (m : ℕ × Message). m.0 < length (ports_of s.graph.keys (event_node e))) d.sends
    answer_sends = row_sends e d answer_row
