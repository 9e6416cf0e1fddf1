-- The name that the tests find is that of the row.
use Rattle.std.proofs.Common.{◌≡◌, ◌≢◌, ℕ, ◌<◌, ◌||◌, true, None, Some, Option, length, refl, ne_eqb, arith}
use Rattle.std.proofs.lemmas.Bool.{lt-ltb, le-ltb}
use Rattle.ghs_node.specs.declared.message.Message.{Message}
use Rattle.ghs_node.specs.declared.delta.Delta.{Delta}
use Rattle.ghs_node.specs.declared.work.Work.{Work}
use Rattle.ghs_node.specs.NodeState.{NodeState, degree}
use Rattle.ghs_node.specs.Reaction.{HasPort}
use Rattle.ghs_node.specs.Rows.{AwakeRow, Connect_absorbed, Connect_waits, Connect_merges, Initiate_rests, Initiate_searches, Test_waits, Test_accepted, Test_rejected, Tests_cross, Accept_heard, Reject_heard, Report_heard, Report_waits, Report_moves_root, Report_halts, Report_passes, Root_moves, Row, Wakes, Wakes_alone, Woken_merges, Woken_connect_waits, Woken_test_waits, Woken_accepts, Awake}
use Rattle.ghs_node.specs.RowName.{awake_name, awake_row, name_of, row_name}
use Rattle.ghs_node.proofs.Computed.{passes_computes}
use Rattle.ghs_node.proofs.Tests.{is_at_is, is_at_not, is_basic_not, is_sleeping_not}

awake_named : (n : NodeState) (j : ℕ) (m : Message) (d : Delta) (row : AwakeRow n j m d) → awake_name row ≡ awake_row n j m
awake_named n j m d (Connect_absorbed lt few) = rw (lt-ltb _ _ lt) refl
awake_named n j m d (Connect_waits le b) = rw (le-ltb _ _ le, b) refl
awake_named n j m d (Connect_merges le b top) = rw (le-ltb _ _ le, is_basic_not _ b) refl
awake_named n j m d (Initiate_rests lt) = refl
awake_named n j m d (Initiate_searches lt few s) = refl
awake_named n j m d (Test_waits lt) = rw (lt-ltb _ _ lt) refl
awake_named n j m d (Test_accepted le f) = rw (le-ltb _ _ le, f) refl
awake_named n j m d (Test_rejected le f p) = rw (le-ltb _ _ le, f, is_at_not _ _ p) refl
awake_named n j m d (Tests_cross le f p s) = rw (le-ltb _ _ le, f, is_at_is _ _ p) refl
awake_named n j m d (Accept_heard p c) = refl
awake_named n j m d (Reject_heard p s) = refl
awake_named n j m d (Report_heard c i z e) = rw (is_at_not _ _ i) refl
awake_named n j m d (Report_waits i p) = rw (is_at_is _ _ i, p) refl
awake_named n j m d (Report_moves_root b k i p h lt) = rw (is_at_is _ _ i, p, h, lt) refl
awake_named n j m d (Report_halts i p h) = rw (is_at_is _ _ i, p, h) refl
awake_named n j m d (Report_passes {w = w} i p b s) = rw (is_at_is _ _ i, p, b, passes_computes n w _ b s) refl
awake_named n j m d (Root_moves b k h) = refl

-- of each row that a state and a work have
pub row_named : (n : NodeState) (w : Work) (d : Delta) (row : Row n w d) → name_of row ≡ row_name n w
row_named n w d (Wakes s lt) = let ne : degree n ≢ 0 = omega arith in rw (ne_eqb _ _ ne) refl
row_named n w d (Wakes_alone s e) = rw e refl
row_named n w d (Woken_merges s lt) = rw s refl
row_named n w d (Woken_connect_waits s lt ne) = rw (s, ne_eqb _ _ ne) refl
row_named n w d (Woken_test_waits {l = l} s lt lt') = let ne : l ≢ 0 = omega arith in rw (s, ne_eqb l 0 ne) refl
row_named n w d (Woken_accepts s lt) = rw s refl
row_named n w d (Awake up lt r) = rw (is_sleeping_not _ up) (awake_named n _ _ d r)

-- work that has a row comes to a port that is there
pub row_has_port : (n : NodeState) (w : Work) (d : Delta) → Row n w d → HasPort n w
row_has_port n w d (Wakes s lt) = tt
row_has_port n w d (Wakes_alone s e) = tt
row_has_port n w d (Woken_merges s lt) = lt
row_has_port n w d (Woken_connect_waits s lt ne) = lt
row_has_port n w d (Woken_test_waits s lt l) = lt
row_has_port n w d (Woken_accepts s lt) = lt
row_has_port n w d (Awake up lt r) = lt
