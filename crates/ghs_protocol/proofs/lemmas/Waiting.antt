-- What a node does with a message that waits.
use Rattle.std.proofs.Common.{◌≡◌, ◌≢◌, ℕ, ◌<◌, Some}
use Rattle.ghs_node.specs.declared.message.Phase.TheVariants.{Sleeping}
use Rattle.ghs_node.specs.declared.message.Message.{Message}
use Rattle.ghs_node.specs.declared.work.Work.TheVariants.{Deliver}
use Rattle.ghs_node.specs.Reaction.{reaction, requeues}
use Rattle.ghs_node.specs.Rows.{AwakeRow, Awake}
use Rattle.ghs_node.specs.Rows as rows
use Rattle.ghs_node.specs.NodeState.{NodeState, degree}
use Rattle.ghs_node.proofs.lemmas.{row_computes}
use Rattle.ghs_protocol.specs.Living.{Waits}
use Rattle.ghs_protocol.specs.Living as living

waits_row : (n : NodeState) (j : ℕ) (m : Message) → Waits n j m → AwakeRow n j m (requeues n.head)
waits_row n j _ (living.Connect_waits up le b) = rows.Connect_waits le b
waits_row n j _ (living.Test_waits up lt) = rows.Test_waits lt
waits_row n j _ (living.Report_waits way f) = rows.Report_waits way f

pub waits_awake : (n : NodeState) (j : ℕ) (m : Message) → Waits n j m → n.head.phase ≢ Sleeping
waits_awake n j _ (living.Connect_waits up le b) = up
waits_awake n j _ (living.Test_waits up lt) = up
waits_awake n j _ (living.Report_waits way f) = λ e. cc (e, f)

-- the reaction to a message that waits
pub waits_reaction : (n : NodeState) (p : ℕ) (m : Message) → p < degree n → Waits n p m → reaction n (Deliver p m) ≡ Some (requeues n.head)
waits_reaction n p m lt h = row_computes n (Deliver p m) (requeues n.head) (Awake (waits_awake n p m h) lt (waits_row n p m h))
