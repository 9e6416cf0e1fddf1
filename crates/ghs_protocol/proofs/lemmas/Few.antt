-- How many messages a reaction sends.
use Rattle.std.proofs.Common.{ℕ, suc, ◌≤◌, ◌==◌, Bool, true, false, List, [], ◌∷◌, length, cond, arith, Some, length-append}
use Rattle.ghs_node.specs.declared.head.Head.{Head}
use Rattle.ghs_node.specs.declared.mark.Mark.{Mark}
use Rattle.ghs_node.specs.declared.mark.Mark.TheVariants.{Basic, Branch, Rejected}
use Rattle.ghs_node.specs.declared.message.Phase.TheVariants.{Find, Found}
use Rattle.ghs_node.specs.declared.message.Message.{Message}
use Rattle.ghs_node.specs.declared.message.Message.TheVariants.{Initiate}
use Rattle.ghs_node.specs.declared.delta.Delta.{Delta}
use Rattle.ghs_node.specs.declared.work.Work.{Work}
use Rattle.ghs_node.specs.Words.{on_branches_from}
use Rattle.ghs_node.specs.NodeState.{NodeState, key_at, degree}
use Rattle.ghs_node.specs.Reaction.{Ending, Probing, Reporting, Waiting, last_sends, no_probe, searching, passed_on, answered, heard}
use Rattle.ghs_node.specs.Rows.{AwakeRow, Initiate_rests, Initiate_searches, Tests_cross, Accept_heard, Reject_heard, Report_heard, Row, Wakes, Wakes_alone, Woken_merges, Woken_connect_waits, Woken_test_waits, Woken_accepts, Awake}

-- the Branch ports are some of the ports
pub branches_few : (p : ℕ) (ms : List Mark) (j : ℕ) (m : Message) → length (on_branches_from p ms j m) ≤ length ms
branches_few p [] j m = omega arith
branches_few p (Basic ∷ ms) j m = omega (arith, branches_few (suc p) ms j m)
branches_few p (Rejected ∷ ms) j m = omega (arith, branches_few (suc p) ms j m)
branches_few p (Branch ∷ ms) j m = go (p == j) (branches_few (suc p) ms j m)
  where
    go : (b : Bool) → length (on_branches_from (suc p) ms j m) ≤ length ms →
        length (cond b (on_branches_from (suc p) ms j m) ((p, m) ∷ on_branches_from (suc p) ms j m)) ≤ suc (length ms)
    go true le = omega arith
    go false le = omega arith

pub last_few : (h : Head) (e : Ending) → length (last_sends h e) ≤ 1
last_few h (Probing p) = omega arith
last_few h Reporting = omega arith
last_few h Waiting = omega arith

awake_few : {n : NodeState} {j : ℕ} {m : Message} {d : Delta} → AwakeRow n j m d → length d.sends ≤ suc (degree n)
awake_few {n} (Initiate_rests {j = j} {l = l} {f = f} lt) = omega (arith, branches_few 0 n.marks j (Initiate l f Found))
awake_few {n} (Initiate_searches {j = j} {l = l} {f = f} {e = e} lt few s) =
    omega (
      arith,
      branches_few 0 n.marks j (Initiate l f Find),
      last_few (no_probe (searching n j l f)) e,
      length-append (passed_on n j l f Find) (last_sends (no_probe (searching n j l f)) e),
    )
awake_few {n} (Tests_cross {e = e} a b c s) = omega (arith, last_few (no_probe n.head) e)
awake_few {n} (Accept_heard {j = j} {e = e} a s) = omega (arith, last_few (answered n.head j (Some (key_at n j))) e)
awake_few {n} (Reject_heard {e = e} a s) = omega (arith, last_few (no_probe n.head) e)
awake_few {n} (Report_heard {j = j} {w = w} {e = e} c a b s) = omega (arith, last_few (heard n.head c j w) e)
awake_few _ = omega arith

-- a reaction sends at most one message more than the node has ports
pub row_few : {n : NodeState} {k : Work} {d : Delta} → Row n k d → length d.sends ≤ suc (degree n)
row_few (Wakes s lt) = omega arith
row_few (Wakes_alone s e) = omega arith
row_few (Woken_merges s lt) = omega arith
row_few (Woken_connect_waits s lt ne) = omega arith
row_few (Woken_test_waits s lt lo) = omega arith
row_few (Woken_accepts s lt) = omega arith
row_few (Awake up lt row) = awake_few row
