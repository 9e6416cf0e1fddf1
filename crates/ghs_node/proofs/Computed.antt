-- Each of the table's rows, and each entry of the list, is what the reaction computes.
use Rattle.std.proofs.Common.{◌≡◌, ◌≢◌, ℕ, ◌<◌, true, false, ◌||◌, nat_lt, Option, Some, None, List, [], ◌∷◌, length, refl, ap, cond, ne_eqb, sub-one, arith}
use Rattle.std.proofs.lemmas.Bool.{lt-ltb, le-ltb, le-leb, lt-leb}
use Rattle.ghs_graph.specs.declared.key.Key.{Key}
use Rattle.ghs_node.specs.declared.head.Head.{Head}
use Rattle.ghs_node.specs.declared.mark.Mark.{Mark}
use Rattle.ghs_node.specs.declared.message.Message.{Message}
use Rattle.ghs_node.specs.declared.delta.Delta.{Delta}
use Rattle.ghs_node.specs.declared.work.Work.{Work}
use Rattle.ghs_node.specs.Words.{Best, below, least_basic, best_key, Outgoing}
use Rattle.ghs_node.specs.NodeState.{NodeState}
use Rattle.ghs_node.specs.Reaction.{Ending, Probing, Reporting, Waiting, ends, close_ending, settle_ending, awake, asleep, reaction, at_wake, wakes, wakes_alone}
use Rattle.ghs_node.specs.Rows.{Closes, Reports, Waits, Settles, Probes, Exhausts, AwakeRow, Connect_absorbed, Connect_waits, Connect_merges, Initiate_rests, Initiate_searches, Test_waits, Test_accepted, Test_rejected, Tests_cross, Accept_heard, Reject_heard, Report_heard, Report_waits, Report_moves_root, Report_halts, Report_passes, Root_moves, Row, Wakes, Wakes_alone, Woken_merges, Woken_connect_waits, Woken_test_waits, Woken_accepts, Awake}
use Rattle.ghs_node.specs.NoRule.{NoRule, IsForAwake, An_initiate, An_accept, A_reject, A_report, A_change_root, Already_awake, Still_asleep, Initiate_too_low, Initiate_to_sleep, Accept_untested, Reject_untested, Report_unowed, Root_without_best, Merge_above_levels, Absorbs_too_many, Searches_too_many}
use Rattle.ghs_node.proofs.Tests.{is_at_is, is_at_not, is_basic_not, is_sleeping_not}

pub close_computes : (h : Head) (e : Ending) → Closes h e → close_ending h ≡ e
close_computes h Reporting (Reports z m) = rw (z, m)
close_computes h Waiting (Waits w) = rw w
close_computes h (Probing p) c = elim c [ ]

pub settle_computes : (ms : List Mark) (h : Head) (e : Ending) → Settles ms h e → settle_ending (least_basic ms) h ≡ e
settle_computes ms h e (Probes p l) = rw l
settle_computes ms h e (Exhausts l c) = rw l (close_computes h e c)

-- the same reaction, by the same ending
ends_alike : (h : Head) (m : Option (ℕ × Mark)) (s : Outgoing) {e f : Ending} → e ≡ f
    → ◌≡◌ {A = Option Delta} (Some (ends h m s e)) (Some (ends h m s f))
ends_alike h m s q = ap (λ (e : Ending). Some (ends h m s e)) q

pub passes_computes : (n : NodeState) (w : Option Key) (o : Best) → below (best_key o) w ≡ false → (w ≡ None → o ≢ None)
    → (below w None || below (best_key o) None) ≡ true
passes_computes n None None b s = absurd (s refl refl)
passes_computes n None (Some k) b s = refl
passes_computes n (Some k) o b s = refl

pub awake_computes : (n : NodeState) (j : ℕ) (m : Message) (d : Delta) → AwakeRow n j m d → awake n j m ≡ Some d
awake_computes n j m d (Connect_absorbed lt few) = rw (lt-ltb _ _ lt, le-leb _ _ few)
awake_computes n j m d (Connect_waits le b) = rw (le-ltb _ _ le, b)
awake_computes n j m d (Connect_merges le b top) = rw (le-ltb _ _ le, is_basic_not _ b, lt-ltb _ _ top)
awake_computes n j m d (Initiate_rests lt) = rw (lt-ltb _ _ lt)
awake_computes n j m d (Initiate_searches lt few s) = rw (lt-ltb _ _ lt, le-leb _ _ few) (ends_alike _ _ _ (settle_computes _ _ _ s))
awake_computes n j m d (Test_waits lt) = rw (lt-ltb _ _ lt)
awake_computes n j m d (Test_accepted le f) = rw (le-ltb _ _ le, f)
awake_computes n j m d (Test_rejected le f p) = rw (le-ltb _ _ le, f, is_at_not _ _ p)
awake_computes n j m d (Tests_cross le f p s) = rw (le-ltb _ _ le, f, is_at_is _ _ p) (ends_alike _ _ [] (settle_computes _ _ _ s))
awake_computes n j m d (Accept_heard p c) = rw (is_at_is _ _ p) (ends_alike _ _ [] (close_computes _ _ c))
awake_computes n j m d (Reject_heard p s) = rw (is_at_is _ _ p) (ends_alike _ _ [] (settle_computes _ _ _ s))
awake_computes n j m d (Report_heard c i f s) = rw (is_at_not _ _ i, f, sub-one) (ends_alike _ _ [] (close_computes _ _ s))
awake_computes n j m d (Report_waits i p) = rw (is_at_is _ _ i, p)
awake_computes n j m d (Report_moves_root b k i p h lt) = rw (is_at_is _ _ i, p, h, lt)
awake_computes n j m d (Report_halts i p h) = rw (is_at_is _ _ i, p, h)
awake_computes n j m d (Report_passes {w = w} i p b s) = rw (is_at_is _ _ i, p, b, passes_computes n w _ b s)
awake_computes n j m d (Root_moves b k h) = rw h

wake_computes : (n : NodeState) (ms : List Mark) → 0 < length ms → at_wake n ms ≡ wakes n
wake_computes n [] lt = absurd (omega arith)
wake_computes n (m ∷ ms) lt = refl

lone_computes : (n : NodeState) (ms : List Mark) → length ms ≡ 0 → at_wake n ms ≡ wakes_alone n
lone_computes n [] e = refl
lone_computes n (m ∷ ms) e = absurd (omega arith)

-- a row of the table is what the node does
pub row_computes : (n : NodeState) (w : Work) (d : Delta) → Row n w d → reaction n w ≡ Some d
row_computes n w d (Wakes s lt) = rw (s, wake_computes n n.marks lt)
row_computes n w d (Wakes_alone s e) = rw (s, lone_computes n n.marks e)
row_computes n w d (Woken_merges s lt) = rw s
row_computes n w d (Woken_connect_waits s lt ne) = rw (s, ne_eqb _ _ ne)
row_computes n w d (Woken_test_waits {l = l} s lt lt') = let ne : l ≢ 0 = omega arith in rw (s, ne_eqb l 0 ne)
row_computes n w d (Woken_accepts s lt) = rw s
row_computes n w d (Awake up lt r) = rw (is_sleeping_not _ up) (awake_computes n _ _ d r)

for_awake_computes : (n : NodeState) (j : ℕ) (m : Message) → IsForAwake m → asleep n j m ≡ None
for_awake_computes n j m An_initiate = refl
for_awake_computes n j m An_accept = refl
for_awake_computes n j m A_reject = refl
for_awake_computes n j m A_report = refl
for_awake_computes n j m A_change_root = refl

-- to work on the list a node has no reaction
pub ruleless_computes : (n : NodeState) (w : Work) → NoRule n w → reaction n w ≡ None
ruleless_computes n w (Already_awake up) = rw (is_sleeping_not _ up)
ruleless_computes n w (Still_asleep s m) = rw s (for_awake_computes n _ _ m)
ruleless_computes n w (Initiate_too_low up le) = rw (is_sleeping_not _ up, le-ltb _ _ le)
ruleless_computes n w (Initiate_to_sleep {l = l} up) =
    rw (is_sleeping_not _ up) (elim (nat_lt n.head.level l) as (λ b. ◌≡◌ {A = Option Delta} (cond b None None) None) [ true ↦ refl | false ↦ refl ])
ruleless_computes n w (Accept_untested up ne) = rw (is_sleeping_not _ up, is_at_not _ _ ne)
ruleless_computes n w (Reject_untested up ne) = rw (is_sleeping_not _ up, is_at_not _ _ ne)
ruleless_computes n w (Report_unowed up ne z) = rw (is_sleeping_not _ up, is_at_not _ _ ne, z)
ruleless_computes n w (Root_without_best up b) = rw (is_sleeping_not _ up, b)
ruleless_computes n w (Merge_above_levels {l = l} up top le b) = rw (is_sleeping_not _ up, top, le-ltb l 20 le, is_basic_not _ b)
ruleless_computes n w (Absorbs_too_many up lt many) = rw (is_sleeping_not _ up, lt-ltb _ _ lt, lt-leb _ _ many)
ruleless_computes n w (Searches_too_many up lt many) = rw (is_sleeping_not _ up, lt-ltb _ _ lt, lt-leb _ _ many)
