-- The table of reactions, a row a constructor.
use Rattle.std.specs.Prelude.{◌≡◌, ◌≢◌, ℕ, suc, ◌<◌, ◌≤◌, false, true, ◌&&◌, Option, Some, None, List, [], ◌∷◌}
use Rattle.ghs_graph.specs.declared.key.Key.{Key}
use Rattle.ghs_node.specs.declared.level.TheConstants.{TOP_LEVEL}
use Rattle.ghs_node.specs.declared.head.Head.{Head}
use Rattle.ghs_node.specs.declared.mark.Mark.{Mark}
use Rattle.ghs_node.specs.declared.mark.Mark.TheVariants.{Basic}
use Rattle.ghs_node.specs.declared.message.Phase.TheVariants.{Sleeping, Find, Found}
use Rattle.ghs_node.specs.declared.message.Message.{Message}
use Rattle.ghs_node.specs.declared.message.Message.TheVariants.{Connect, Initiate, Test, Accept, Reject, Report, ChangeRoot}
use Rattle.ghs_node.specs.declared.delta.Delta.{Delta}
use Rattle.ghs_node.specs.declared.work.Work.{Work}
use Rattle.ghs_node.specs.declared.work.Work.TheVariants.{Wake, Deliver}
use Rattle.ghs_node.specs.Words.{below, is_name, is_missing, is_zero, least_basic, best_key}
use Rattle.ghs_node.specs.NodeState.{NodeState, key_at, mark_at, degree, with_mark}
use Rattle.ghs_node.specs.Reaction.{Ending, Probing, Reporting, Waiting, does, requeues, stops, ends, no_probe, reject_at, moves_root, absorbs, merges, searching, passed_on, rests, answered, heard, woken, wakes, wakes_alone, once_woken}

-- close: the node reports where it waits for nothing, and else does nothing more
pub data Closes (h : Head) : Ending → Type 0 where
  Reports : h.find_count ≡ 0 → h.probe ≡ None → Closes h Reporting
  Waits : (is_zero h.find_count && is_missing h.probe) ≡ false → Closes h Waiting

-- settle, with these marks: the least Basic port is tested, and close where there is none
pub data Settles (ms : List Mark) (h : Head) : Ending → Type 0 where
  Probes : (p : ℕ) → least_basic ms ≡ Some p → Settles ms h (Probing p)
  Exhausts : {e : Ending} → least_basic ms ≡ None → Closes h e → Settles ms h e

-- the rows of a node that is awake, for a message at port j
pub data AwakeRow (n : NodeState) : ℕ → Message → Delta → Type 0 where
  Connect_absorbed : {j l : ℕ} → l < n.head.level → (absorbs n j).head.find_count ≤ degree n → AwakeRow n j (Connect l) (absorbs n j)
  Connect_waits : {j l : ℕ} → n.head.level ≤ l → mark_at n j ≡ Basic → AwakeRow n j (Connect l) (requeues n.head)
  Connect_merges : {j l : ℕ} → n.head.level ≤ l → mark_at n j ≢ Basic → n.head.level < TOP_LEVEL → AwakeRow n j (Connect l) (merges n j)
  Initiate_rests : {j l : ℕ} {f : Key} → n.head.level < l → AwakeRow n j (Initiate l f Found) (rests n j l f)
  Initiate_searches : {j l : ℕ} {f : Key} {e : Ending} → n.head.level < l → (searching n j l f).find_count ≤ degree n
      → Settles n.marks (no_probe (searching n j l f)) e
      → AwakeRow n j (Initiate l f Find) (ends (no_probe (searching n j l f)) None (passed_on n j l f Find) e)
  Test_waits : {j l : ℕ} {f : Key} → n.head.level < l → AwakeRow n j (Test l f) (requeues n.head)
  Test_accepted : {j l : ℕ} {f : Key} → l ≤ n.head.level → is_name n.head.name f ≡ false
      → AwakeRow n j (Test l f) (does n.head None ((j, Accept) ∷ []))
  Test_rejected : {j l : ℕ} {f : Key} → l ≤ n.head.level → is_name n.head.name f ≡ true → n.head.probe ≢ Some j
      → AwakeRow n j (Test l f) (does n.head (reject_at n j) ((j, Reject) ∷ []))
  Tests_cross : {j l : ℕ} {f : Key} {e : Ending} → l ≤ n.head.level → is_name n.head.name f ≡ true → n.head.probe ≡ Some j
      → Settles (with_mark n.marks (reject_at n j)) (no_probe n.head) e → AwakeRow n j (Test l f) (ends (no_probe n.head) (reject_at n j) [] e)
  Accept_heard : {j : ℕ} {e : Ending} → n.head.probe ≡ Some j → Closes (answered n.head j (Some (key_at n j))) e
      → AwakeRow n j Accept (ends (answered n.head j (Some (key_at n j))) None [] e)
  Reject_heard : {j : ℕ} {e : Ending} → n.head.probe ≡ Some j → Settles (with_mark n.marks (reject_at n j)) (no_probe n.head) e
      → AwakeRow n j Reject (ends (no_probe n.head) (reject_at n j) [] e)
  Report_heard : {j : ℕ} {w : Option Key} {e : Ending} (c : ℕ) → n.head.in_branch ≢ Some j → n.head.find_count ≡ suc c → Closes (heard n.head c j w) e
      → AwakeRow n j (Report w) (ends (heard n.head c j w) None [] e)
  Report_waits : {j : ℕ} {w : Option Key} → n.head.in_branch ≡ Some j → n.head.phase ≡ Find → AwakeRow n j (Report w) (requeues n.head)
  Report_moves_root : {j : ℕ} {w : Option Key} (b : ℕ) (k : Key) → n.head.in_branch ≡ Some j → n.head.phase ≡ Found → n.head.best ≡ Some (b, k)
      → below (Some k) w ≡ true → AwakeRow n j (Report w) (moves_root n b)
  Report_halts : {j : ℕ} → n.head.in_branch ≡ Some j → n.head.phase ≡ Found → n.head.best ≡ None → AwakeRow n j (Report None) (stops n.head)
  Report_passes : {j : ℕ} {w : Option Key} → n.head.in_branch ≡ Some j → n.head.phase ≡ Found → below (best_key n.head.best) w ≡ false
      → (w ≡ None → n.head.best ≢ None) → AwakeRow n j (Report w) (does n.head None [])
  Root_moves : {j : ℕ} (b : ℕ) (k : Key) → n.head.best ≡ Some (b, k) → AwakeRow n j ChangeRoot (moves_root n b)

-- the whole table
pub data Row (n : NodeState) : Work → Delta → Type 0 where
  Wakes : n.head.phase ≡ Sleeping → 0 < degree n → Row n Wake (wakes n)
  Wakes_alone : n.head.phase ≡ Sleeping → degree n ≡ 0 → Row n Wake (wakes_alone n)
  Woken_merges : {l : ℕ} → n.head.phase ≡ Sleeping → 0 < degree n
      → Row n (Deliver 0 (Connect l)) (once_woken (does (woken n).head None ((0, Initiate 1 (key_at n 0) Find) ∷ [])))
  Woken_connect_waits : {j l : ℕ} → n.head.phase ≡ Sleeping → j < degree n → j ≢ 0
      → Row n (Deliver j (Connect l)) (once_woken (requeues (woken n).head))
  Woken_test_waits : {j l : ℕ} {f : Key} → n.head.phase ≡ Sleeping → j < degree n → 0 < l
      → Row n (Deliver j (Test l f)) (once_woken (requeues (woken n).head))
  Woken_accepts : {j : ℕ} {f : Key} → n.head.phase ≡ Sleeping → j < degree n
      → Row n (Deliver j (Test 0 f)) (once_woken (does (woken n).head None ((j, Accept) ∷ [])))
  Awake : {j : ℕ} {m : Message} {d : Delta} → n.head.phase ≢ Sleeping → j < degree n → AwakeRow n j m d → Row n (Deliver j m) d
