-- A lawful event's work has a rule.
use Rattle.std.proofs.Common.{◌≡◌, ◌↔◌, Option, Some, None, Result, Ok, Err, refl}
use Rattle.ghs_node.specs.Rows.{Row}
use Rattle.ghs_graph.specs.Graph.{IsGraph}
use Rattle.ghs_node.specs.NodeState.{NodeState}
use Rattle.std.specs.Prelude.{IfErr, IsSome, IsErrOf}
use Rattle.ghs_node.specs.declared.delta.Delta.{Delta}
use Rattle.ghs_node.specs.declared.fault.NodeFault.{NodeFault}
use Rattle.ghs_node.specs.declared.fault.NodeFault.TheVariants.{NoPort, Unforeseen, Memory}
use Rattle.ghs_node.specs.NoRule.{NoRule}
use Rattle.ghs_node.specs.Laws.{ListHasNoRow}
use Rattle.ghs_node.proofs.lemmas.{row_computes, reaction_inverts}
use Rattle.ghs_node.specs.declared.work.Work.{Work}
use Rattle.ghs_node.specs.Reaction.{reaction, HasPort}
use Rattle.ghs_world.specs.Tickets.{HasRule}
use Rattle.peer_network.specs.declared.event.Event.{Event}
use Rattle.ghs_protocol.specs.Run.{IsRun}
use Rattle.ghs_core.specs.NetState.{NetState, event_node, work_at, IsLawful, network, net_of}
use Rattle.ghs_core.proofs.lemmas.Reacting.{work_port}

-- with the reaction that the net tells of, its node has a rule for it
pub has_rule : (s : NetState) (e : Event) (k : Work) →
    IsGraph s.graph →
    IsRun (network s) s.trace →
    IsLawful s e →
    k ≡ work_at (net_of s) e →
    IsSome (reaction ((net_of s).node (event_node e)) k) →
    HasRule ((net_of s).node (event_node e)) k
has_rule s e k graph run lawful same rule = record { port = rw same (work_port s graph run e lawful); rule = rule }

-- where there is a rule, lack of memory is the one fault
pub only_memory :
    ListHasNoRow →
    {A : Type 0} (n : NodeState) (k : Work) (r : Result A NodeFault) (f : NodeFault) →
    HasRule n k →
    r ≡ Err f →
    (IsErrOf r NoPort ↔ (HasPort n k → ⊥)) →
    (IsErrOf r Unforeseen ↔ (HasPort n k × NoRule n k)) →
    f ≡ Memory
only_memory apart n k r NoPort has e port rule = absurd (port.0 e has.port)
only_memory apart n k r Unforeseen has e port rule = absurd (unlisted (reaction n k) refl has.rule (rule.0 e).1)
  where
    unlisted : (o : Option Delta) → reaction n k ≡ o → IsSome o → NoRule n k → ⊥
    unlisted None same some none = cc
    unlisted (Some d) same some none = apart n k d none (reaction_inverts n k d has.port same)
only_memory apart n k r Memory has e port rule = refl

pub memory_alone :
    ListHasNoRow →
    {A : Type 0} (n : NodeState) (k : Work) (r : Result A NodeFault) →
    HasRule n k →
    (IsErrOf r NoPort ↔ (HasPort n k → ⊥)) →
    (IsErrOf r Unforeseen ↔ (HasPort n k × NoRule n k)) →
    IfErr r (λ f. f ≡ Memory)
memory_alone apart n k (Ok d) has port rule = tt
memory_alone apart n k (Err f) has port rule = only_memory apart n k (Err f) f has refl port rule

-- the row is the node's answer
pub answers : (n : NodeState) (k : Work) (d : Delta) → HasRule n k → Row n k d → reaction n k ≡ Some d
answers n k d has row = row_computes n k d row
