-- The pairs of state and work for which there is no rule.
use Rattle.std.specs.Prelude.{◌≡◌, ◌≢◌, ℕ, ◌<◌, ◌≤◌, Option, Some, None}
use Rattle.ghs_graph.specs.declared.key.Key.{Key}
use Rattle.ghs_node.specs.declared.level.TheConstants.{TOP_LEVEL}
use Rattle.ghs_node.specs.declared.mark.Mark.TheVariants.{Basic}
use Rattle.ghs_node.specs.declared.message.Phase.{Phase}
use Rattle.ghs_node.specs.declared.message.Phase.TheVariants.{Sleeping, Find}
use Rattle.ghs_node.specs.declared.message.Message.{Message}
use Rattle.ghs_node.specs.declared.message.Message.TheVariants.{Connect, Initiate, Accept, Reject, Report, ChangeRoot}
use Rattle.ghs_node.specs.declared.work.Work.{Work}
use Rattle.ghs_node.specs.declared.work.Work.TheVariants.{Wake, Deliver}
use Rattle.ghs_node.specs.NodeState.{NodeState, mark_at, degree}
use Rattle.ghs_node.specs.Reaction.{absorbs, searching}

-- messages that only a node that is awake can be sent
pub data IsForAwake : Message → Type 0 where
  An_initiate : {l : ℕ} {f : Key} {s : Phase} → IsForAwake (Initiate l f s)
  An_accept : IsForAwake Accept
  A_reject : IsForAwake Reject
  A_report : {w : Option Key} → IsForAwake (Report w)
  A_change_root : IsForAwake ChangeRoot

pub data NoRule (n : NodeState) : Work → Type 0 where
  Already_awake : n.head.phase ≢ Sleeping → NoRule n Wake
  Still_asleep : {j : ℕ} {m : Message} → n.head.phase ≡ Sleeping → IsForAwake m → NoRule n (Deliver j m)
  Initiate_too_low : {j l : ℕ} {f : Key} {s : Phase} → n.head.phase ≢ Sleeping → l ≤ n.head.level → NoRule n (Deliver j (Initiate l f s))
  Initiate_to_sleep : {j l : ℕ} {f : Key} → n.head.phase ≢ Sleeping → NoRule n (Deliver j (Initiate l f Sleeping))
  Accept_untested : {j : ℕ} → n.head.phase ≢ Sleeping → n.head.probe ≢ Some j → NoRule n (Deliver j Accept)
  Reject_untested : {j : ℕ} → n.head.phase ≢ Sleeping → n.head.probe ≢ Some j → NoRule n (Deliver j Reject)
  Report_unowed : {j : ℕ} {w : Option Key} → n.head.phase ≢ Sleeping → n.head.in_branch ≢ Some j → n.head.find_count ≡ 0
      → NoRule n (Deliver j (Report w))
  Root_without_best : {j : ℕ} → n.head.phase ≢ Sleeping → n.head.best ≡ None → NoRule n (Deliver j ChangeRoot)
  Merge_above_levels : {j l : ℕ} → n.head.phase ≢ Sleeping → n.head.level ≡ TOP_LEVEL → TOP_LEVEL ≤ l → mark_at n j ≢ Basic
      → NoRule n (Deliver j (Connect l))
  Absorbs_too_many : {j l : ℕ} → n.head.phase ≢ Sleeping → l < n.head.level → degree n < (absorbs n j).head.find_count
      → NoRule n (Deliver j (Connect l))
  Searches_too_many : {j l : ℕ} {f : Key} → n.head.phase ≢ Sleeping → n.head.level < l → degree n < (searching n j l f).find_count
      → NoRule n (Deliver j (Initiate l f Find))
