-- The names of the table's rows.
use Rattle.std.specs.Prelude.{◌≡◌, ℕ, not, ◌||◌, ◌==◌, nat_lt, None, length, if◌then◌else◌}
use Rattle.ghs_node.specs.declared.message.Message.{Message}
use Rattle.ghs_node.specs.declared.message.Message.TheVariants.{Connect, Initiate, Test, Accept, Reject, Report, ChangeRoot}
use Rattle.ghs_node.specs.declared.delta.Delta.{Delta}
use Rattle.ghs_node.specs.declared.work.Work.{Work}
use Rattle.ghs_node.specs.declared.work.Work.TheVariants.{Wake, Deliver}
use Rattle.ghs_node.specs.declared.row_name.RowName.{RowName}
use Rattle.ghs_node.specs.declared.row_name.RowName.TheVariants as names
use Rattle.ghs_node.specs.Words.{below, is_name, is_basic, is_sleeping, is_find, is_at, best_key}
use Rattle.ghs_node.specs.NodeState.{NodeState, mark_at, degree}
use Rattle.ghs_node.specs.Rows.{AwakeRow, Connect_absorbed, Connect_waits, Connect_merges, Initiate_rests, Initiate_searches, Test_waits, Test_accepted, Test_rejected, Tests_cross, Accept_heard, Reject_heard, Report_heard, Report_waits, Report_moves_root, Report_halts, Report_passes, Root_moves, Row, Wakes, Wakes_alone, Woken_merges, Woken_connect_waits, Woken_test_waits, Woken_accepts, Awake}

-- the name of a row of a node that is awake: its constructor's
abbrev pub awake_name : {n : NodeState} {j : ℕ} {m : Message} {d : Delta} → AwakeRow n j m d → RowName
awake_name (Connect_absorbed lt few) = names.ConnectAbsorbed
awake_name (Connect_waits le b) = names.ConnectWaits
awake_name (Connect_merges le b top) = names.ConnectMerges
awake_name (Initiate_rests lt) = names.InitiateRests
awake_name (Initiate_searches lt few s) = names.InitiateSearches
awake_name (Test_waits lt) = names.TestWaits
awake_name (Test_accepted le f) = names.TestAccepted
awake_name (Test_rejected le f p) = names.TestRejected
awake_name (Tests_cross le f p s) = names.TestsCross
awake_name (Accept_heard p c) = names.AcceptHeard
awake_name (Reject_heard p s) = names.RejectHeard
awake_name (Report_heard c i z e) = names.ReportHeard
awake_name (Report_waits i p) = names.ReportWaits
awake_name (Report_moves_root b k i p h lt) = names.ReportMovesRoot
awake_name (Report_halts i p h) = names.ReportHalts
awake_name (Report_passes i p b s) = names.ReportPasses
awake_name (Root_moves b k h) = names.RootMoves

-- the name of a row of the table
abbrev pub name_of : {n : NodeState} {w : Work} {d : Delta} → Row n w d → RowName
name_of (Wakes s lt) = names.Wakes
name_of (Wakes_alone s e) = names.WakesAlone
name_of (Woken_merges s lt) = names.WokenMerges
name_of (Woken_connect_waits s lt ne) = names.WokenConnectWaits
name_of (Woken_test_waits s lt l) = names.WokenTestWaits
name_of (Woken_accepts s lt) = names.WokenAccepts
name_of (Awake up lt r) = awake_name r

-- the state and the work have a row
abbrev pub HasRow : NodeState → Work → Type 0
HasRow n w = (d : Delta) × Row n w d

-- whatever row they have is the one of this name
abbrev pub IsNamed : NodeState → Work → RowName → Type 0
IsNamed n w r = (d : Delta) (row : Row n w d) → name_of row ≡ r

-- The name again, found by tests in the order of the reaction's, for a state and a work that have a row.

-- a node that sleeps; no other message comes to it
abbrev pub asleep_row : ℕ → Message → RowName
asleep_row j (Connect l) = if j == 0 then names.WokenMerges else names.WokenConnectWaits
asleep_row j (Test l f) = if l == 0 then names.WokenAccepts else names.WokenTestWaits
asleep_row j _ = names.WokenTestWaits

abbrev pub awake_row : NodeState → ℕ → Message → RowName
awake_row n j (Connect l) =
    if nat_lt l n.head.level then names.ConnectAbsorbed
    else (if is_basic (mark_at n j) then names.ConnectWaits else names.ConnectMerges)
awake_row n j (Initiate l f s) = if is_find s then names.InitiateSearches else names.InitiateRests
awake_row n j (Test l f) =
    if nat_lt n.head.level l then names.TestWaits
    else (if not (is_name n.head.name f) then names.TestAccepted
    else (if is_at n.head.probe j then names.TestsCross else names.TestRejected))
awake_row n j Accept = names.AcceptHeard
awake_row n j Reject = names.RejectHeard
awake_row n j (Report w) =
    if not (is_at n.head.in_branch j) then names.ReportHeard
    else (if is_find n.head.phase then names.ReportWaits
    else (if below (best_key n.head.best) w then names.ReportMovesRoot
    else (if below w None || below (best_key n.head.best) None then names.ReportPasses else names.ReportHalts)))
awake_row n j ChangeRoot = names.RootMoves

abbrev pub row_name : NodeState → Work → RowName
row_name n Wake = if degree n == 0 then names.WakesAlone else names.Wakes
row_name n (Deliver j m) = if is_sleeping n.head.phase then asleep_row j m else awake_row n j m
