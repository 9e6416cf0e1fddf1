-- What an answer to work tells of the table.
use Rattle.std.proofs.Common.{◌≡◌, Option, Some, None, Result, Ok, Err, ◌<◌, length, refl, IsErrOf, OnOk}
use Rattle.ghs_node.specs.declared.delta.Delta.{Delta}
use Rattle.ghs_node.specs.declared.fault.NodeFault.{NodeFault}
use Rattle.ghs_node.specs.declared.fault.NodeFault.TheVariants.{NoPort, Unforeseen, Memory}
use Rattle.ghs_node.specs.declared.work.Work.{Work}
use Rattle.ghs_node.specs.NodeState.{NodeState, IsNode}
use Rattle.ghs_node.specs.Reaction.{reaction, HasPort, IsReaction}
use Rattle.ghs_node.specs.Rows.{Row}
use Rattle.ghs_node.specs.NoRule.{NoRule}
use Rattle.ghs_node.specs.Draft.{SendsSome, Answers}
use Rattle.ghs_node.proofs.Inversion.{reaction_inverts}
use Rattle.ghs_node.proofs.Ruleless.{reaction_ruleless}
use Rattle.ghs_node.proofs.Computed.{ruleless_computes}

module _ (n : NodeState) (w : Work) (f : IsNode n) (h : HasPort n w) where
  pub answered_row : (r : Result (Unit {0}) NodeFault) (d : Delta) → Answers r d (reaction n w) → OnOk r (Row n w d)
  answered_row (Ok u) d a = reaction_inverts n w d h a
  answered_row (Err e) d a = tt

  pub answered_change : (r : Result (Unit {0}) NodeFault) (d : Delta) → Answers r d (reaction n w) → OnOk r (IsReaction n d)
  answered_change (Ok u) d a = record { work = w; port = h; is = a }
  answered_change (Err e) d a = tt

  -- where lack of memory is answered, the row sends something
  sending_row : (o : Option Delta) → reaction n w ≡ o → SendsSome o → (d : Delta) × Row n w d × (0 < length d.sends)
  sending_row None e s = absurd s
  sending_row (Some d) e s = (d, reaction_inverts n w d h e, s)

  pub answered_memory : (r : Result (Unit {0}) NodeFault) (d : Delta) → Answers r d (reaction n w)
      → IsErrOf r Memory → (e : Delta) × Row n w e × (0 < length e.sends)
  answered_memory (Ok u) d a e = absurd cc
  answered_memory (Err NoPort) d a e = absurd a
  answered_memory (Err Unforeseen) d a e = absurd cc
  answered_memory (Err Memory) d a e = sending_row (reaction n w) refl a

  pub answered_unforeseen : (r : Result (Unit {0}) NodeFault) (d : Delta) → Answers r d (reaction n w)
      → (IsErrOf r Unforeseen → HasPort n w × NoRule n w) × (HasPort n w × NoRule n w → IsErrOf r Unforeseen)
  answered_unforeseen (Ok u) d a = (λ e. absurd cc, λ l. absurd (let z = ruleless_computes n w l.1 in cc))
  answered_unforeseen (Err NoPort) d a = absurd a
  answered_unforeseen (Err Unforeseen) d a = (λ e. (h, reaction_ruleless n w f.level a), λ l. refl)
  answered_unforeseen (Err Memory) d a = (λ e. absurd cc, λ l. absurd (rw (ruleless_computes n w l.1) at a))
