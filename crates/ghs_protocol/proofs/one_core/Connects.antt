-- In each step as many ports become Branch as Connects are sent and fragments taken in.
use Rattle.std.proofs.Common.{◌≡◌, ◌≢◌, ℕ, ◌+◌, ◌<◌, cond, Option, Some, None, List, [], ◌∷◌, ◌++◌, length, get_or, get_or-set_same, get_or-set_other, refl, sym, ◌∙◌, ap, subst, ⊎_elim, arith}
use Rattle.std.proofs.lemmas.Bool.{cases_eq}
use Rattle.ghs_graph.specs.declared.key.Key.{Key}
use Rattle.ghs_node.specs.declared.mark.Mark.{Mark}
use Rattle.ghs_node.specs.declared.mark.Mark.TheVariants.{Basic, Branch, Rejected}
use Rattle.ghs_node.specs.declared.head.Head.{Head}
use Rattle.ghs_node.specs.declared.message.Message.{Message}
use Rattle.ghs_node.specs.declared.message.Message.TheVariants.{Connect}
use Rattle.ghs_node.specs.declared.message.Phase.{Phase}
use Rattle.ghs_node.specs.declared.message.Phase.TheVariants.{Sleeping, Find, Found}
use Rattle.ghs_node.specs.declared.delta.Delta.{Delta}
use Rattle.ghs_node.specs.Laws.{MarkChange, Stays, To_branch, To_rejected}
use Rattle.ghs_node.specs.NodeState.{NodeState, key_at, mark_at, with_mark, degree}
use Rattle.ghs_node.specs.Reaction.{after, answered, heard, no_probe, searching, Ending, Probing, Reporting, Waiting, last_sends, reject_at, root_mark, root_message, passed_on, at_wake}
use Rattle.ghs_node.specs.Rows.{AwakeRow, Connect_absorbed, Connect_waits, Connect_merges, Initiate_rests, Initiate_searches, Test_waits, Test_accepted, Test_rejected, Tests_cross, Accept_heard, Reject_heard, Report_heard, Report_waits, Report_moves_root, Report_halts, Report_passes, Root_moves}
use Rattle.ghs_node.specs.Words.{Outgoing, is_branch}
use Rattle.ghs_node.proofs.lemmas.{awake_marks}
use Rattle.peer_network.specs.Network.{Network, At, InNetwork}
use Rattle.ghs_protocol.specs.Net.{Net, take_first}
use Rattle.ghs_protocol.specs.Ledger.{of_kind}
use Rattle.peer_network.specs.Sums.{sum_over_ports}
use Rattle.ghs_protocol.specs.Nodes.{IsNodeOf}
use Rattle.ghs_protocol.specs.Steps.{Step, Wakes_up, Takes_one, reacted, waking}
use Rattle.ghs_protocol.proofs.lemmas.Nodes.{ports_many}
use Rattle.ghs_protocol.proofs.lemmas.Sends.{messages, node_here, node_there, sent_now}
use Rattle.peer_network.proofs.lemmas.Sums.{ports_one, ports_same}
use Rattle.ghs_protocol.proofs.charges.Acts.{kinds_append, all_calls}
use Rattle.ghs_protocol.proofs.rows.Rows.{takes_in, step_takes}

-- 1 for a Branch
abbrev pub one_if_branch : Mark → ℕ
one_if_branch Basic = 0
one_if_branch Branch = 1
one_if_branch Rejected = 0

-- how many ports are Branch
abbrev pub branch_ports : Network → Net → ℕ
branch_ports g w = sum_over_ports g (λ v p. one_if_branch (mark_at (w.node v) p))

pub not_one : (m : Mark) → m ≢ Branch → one_if_branch m ≡ 0
not_one Basic ne = refl
not_one Branch ne = absurd (ne refl)
not_one Rejected ne = refl

-- how many ports a change of marks makes Branch
pub fresh : NodeState → Option (ℕ × Mark) → ℕ
fresh n None = 0
fresh n (Some (p, Basic)) = 0
fresh n (Some (p, Branch)) = cond (is_branch (mark_at n p)) 0 1
fresh n (Some (p, Rejected)) = 0

-- what a change makes of the number of Branch ports
module _ (g : Network) (w w' : Net) (v : ℕ) (lo : InNetwork g v) (n : NodeState) (was : w.node v ≡ n) (is : IsNodeOf g v n) (d : Delta)
    (here : w'.node v ≡ after n d) (there : (u : ℕ) → u ≢ v → w'.node u ≡ w.node u) where
  f : ℕ → ℕ → ℕ
  f u p = one_if_branch (mark_at (w.node u) p)

  h : ℕ → ℕ → ℕ
  h u p = one_if_branch (mark_at (w'.node u) p)

  away : (u p : ℕ) → u ≢ v → f u p ≡ h u p
  unfolding f h
  away u p ne = ap (λ (x : NodeState). one_if_branch (mark_at x p)) (sym (there u ne))

  set_one : (q : ℕ) (m : Mark) → q < degree n → (after n d).marks ≡ with_mark n.marks (Some (q, m)) →
      branch_ports g w' + one_if_branch (mark_at n q) ≡ branch_ports g w + one_if_branch m
  unfolding f h
  set_one q m lt e =
      let z = ports_one g f h v q (record { some = lo.some; node = lo.node; port = omega (arith, lt, ports_many is) }) same in
      let a : f v q ≡ one_if_branch (mark_at n q) = ap (λ (x : NodeState). one_if_branch (mark_at x q)) was in
      let b : h v q ≡ one_if_branch m =
      ap (λ (x : NodeState). one_if_branch (mark_at x q)) here ∙ ap (λ xs. one_if_branch (get_or xs q Rejected)) e ∙
      ap one_if_branch (get_or-set_same n.marks q m Rejected lt) in
      omega (arith, z, a, b)
    where
      same : (a b : ℕ) → ((a ≡ v) × (b ≡ q) → ⊥) → f a b ≡ h a b
      same a b ne =
          ⊎_elim
          (λ (x : a ≡ v).
          subst (λ y. one_if_branch (mark_at (w.node y) b) ≡ one_if_branch (mark_at (w'.node y) b)) (sym x)
          (ap (λ (y : NodeState). one_if_branch (mark_at y b)) was ∙
          sym
          (ap (λ (y : NodeState). one_if_branch (mark_at y b)) here ∙ ap (λ xs. one_if_branch (get_or xs b Rejected)) e ∙
          ap one_if_branch (get_or-set_other n.marks q b m Rejected (λ z. ne (x, z))))))
          (λ ne'. away a b ne') (cases_eq a v)

  set_none : (after n d).marks ≡ n.marks → branch_ports g w' ≡ branch_ports g w
  unfolding f h
  set_none e =
      sym
      (ports_same g f h
      (λ a b at.
      ⊎_elim
      (λ (x : a ≡ v).
      subst (λ y. one_if_branch (mark_at (w.node y) b) ≡ one_if_branch (mark_at (w'.node y) b)) (sym x)
      (ap (λ (y : NodeState). one_if_branch (mark_at y b)) was ∙
      sym (ap (λ (y : NodeState). one_if_branch (mark_at y b)) here ∙ ap (λ xs. one_if_branch (get_or xs b Rejected)) e)))
      (λ ne'. away a b ne') (cases_eq a v)))

  pub marks_count : (o : Option (ℕ × Mark)) → d.mark ≡ o → MarkChange n o → branch_ports g w' ≡ branch_ports g w + fresh n o
  unfolding fresh
  marks_count _ e Stays = let z = set_none (ap (with_mark n.marks) e) in omega (arith, z)
  marks_count _ e (To_branch q lt) = let z = set_one q Branch lt (ap (with_mark n.marks) e) in let y = old (mark_at n q) in omega (arith, z, y)
    where
      old : (m : Mark) → ◌≡◌ {A = ℕ} (one_if_branch m + cond (is_branch m) 0 1) 1
      old Basic = refl
      old Branch = refl
      old Rejected = refl
  marks_count _ e (To_rejected q lt b) =
      let z = set_one q Rejected lt (ap (with_mark n.marks) e) in let y : one_if_branch (mark_at n q) ≡ 0 = ap one_if_branch b in omega (arith, z, y)

-- what goes out
no_last : (h : Head) (e : Ending) → of_kind 0 (messages (last_sends h e)) ≡ 0
no_last h (Probing p) = refl
no_last h Reporting = refl
no_last h Waiting = refl

none_ends : (ss : Outgoing) (h : Head) (e : Ending) → of_kind 0 (messages ss) ≡ 0 → of_kind 0 (messages (ss ++ last_sends h e)) ≡ 0
none_ends ss h e z = let a = kinds_append 0 ss (last_sends h e) in let b = no_last h e in omega (arith, a, b, z)

no_reject : (n : NodeState) (p : ℕ) → fresh n (reject_at n p) ≡ 0
unfolding fresh
no_reject n p = go (mark_at n p) refl
  where
    go : (m : Mark) → mark_at n p ≡ m → fresh n (reject_at n p) ≡ 0
    go Basic e = rw e refl
    go Branch e = rw e refl
    go Rejected e = rw e refl

out_one : (n : NodeState) (b : ℕ) → of_kind 0 (messages ((b, root_message (mark_at n b) n.head.level) ∷ [])) ≡ fresh n (root_mark (mark_at n b) b)
unfolding fresh
out_one n b = go (mark_at n b) refl
  where
    go : (m : Mark) → mark_at n b ≡ m →
        of_kind 0 (messages ((b, root_message (mark_at n b) n.head.level) ∷ [])) ≡ fresh n (root_mark (mark_at n b) b)
    go Basic e = rw e (rw e refl)
    go Branch e = rw e refl
    go Rejected e = rw e (rw e refl)

free_one : (n : NodeState) (p : ℕ) → mark_at n p ≢ Branch → ◌≡◌ {A = ℕ} (fresh n (Some (p, Branch))) 1
unfolding fresh
free_one n p ne = go (mark_at n p) refl
  where
    go : (m : Mark) → mark_at n p ≡ m → ◌≡◌ {A = ℕ} (cond (is_branch (mark_at n p)) 0 1) 1
    go Basic e = rw e refl
    go Branch e = absurd (ne e)
    go Rejected e = rw e refl

no_calls : (n : NodeState) (p l : ℕ) (f : Key) (s : Phase) → of_kind 0 (messages (passed_on n p l f s)) ≡ 0
no_calls n p l f s = all_calls 0 n.marks p l f s 0 (λ e. let z : ◌≡◌ {A = ℕ} 0 1 = e in omega (arith, z))

-- a row
pub row_connects : {n : NodeState} {p : ℕ} {m : Message} {d : Delta} (row : AwakeRow n p m d) →
    ((l : ℕ) → m ≡ Connect l → l < n.head.level → mark_at n p ≢ Branch) →
    of_kind 0 (messages d.sends) + takes_in row ≡ fresh n d.mark
unfolding fresh
row_connects {n} {p} (Connect_absorbed {l = l} lt few) came = sym (free_one n p (came l refl lt))
row_connects (Connect_waits le b) came = refl
row_connects (Connect_merges le b top) came = refl
row_connects {n} {p} (Initiate_rests {l = l} {f = f} lt) came = let z = no_calls n p l f Found in omega (arith, z)
row_connects {n} {p} (Initiate_searches {l = l} {f = f} {e = e} lt few s) came =
    let z = none_ends (passed_on n p l f Find) (no_probe (searching n p l f)) e (no_calls n p l f Find) in omega (arith, z)
row_connects (Test_waits lt) came = refl
row_connects (Test_accepted le o) came = refl
row_connects {n} {p} (Test_rejected le o f) came = let z = no_reject n p in omega (arith, z)
row_connects {n} {p} (Tests_cross {e = e} le o f s) came = let z = no_reject n p in let y = no_last (no_probe n.head) e in omega (arith, z, y)
row_connects {n} {p} (Accept_heard {e = e} o c) came = let y = no_last (answered n.head p (Some (key_at n p))) e in omega (arith, y)
row_connects {n} {p} (Reject_heard {e = e} o c) came = let z = no_reject n p in let y = no_last (no_probe n.head) e in omega (arith, z, y)
row_connects {n} {p} (Report_heard {w = k} {e = e} c o x s) came = let y = no_last (heard n.head c p k) e in omega (arith, y)
row_connects (Report_waits o f) came = refl
row_connects {n} (Report_moves_root b k o f x l) came = let z = out_one n b in omega (arith, z)
row_connects (Report_halts o f b) came = refl
row_connects (Report_passes o f b c) came = refl
row_connects {n} (Root_moves b k x) came = let z = out_one n b in omega (arith, z)

-- a wake
pub wake_change : (n : NodeState) (ks : List Mark) → n.marks ≡ ks → MarkChange n (at_wake n ks).mark
wake_change n [] e = Stays
wake_change n (k ∷ ks) e = To_branch 0 (let z = ap length e in omega (arith, z))

wake_connects : (n : NodeState) (ks : List Mark) → n.marks ≡ ks → mark_at n 0 ≢ Branch →
    of_kind 0 (messages (at_wake n ks).sends) ≡ fresh n (at_wake n ks).mark
unfolding fresh
wake_connects n [] e ne = refl
wake_connects n (k ∷ ks) e ne = sym (free_one n 0 ne)

-- a step: w.sent 0 counts the Connects
module _ (g : Network) (w : Net) (nodes : (v : ℕ) → IsNodeOf g v (w.node v))
    (came : (v p l : ℕ) (ms : List Message) → At g v p → w.queue v p ≡ Connect l ∷ ms → (w.node v).head.phase ≢ Sleeping → l < (w.node v).head.level →
    mark_at (w.node v) p ≢ Branch)
    (rested : (v : ℕ) → InNetwork g v → (w.node v).head.phase ≡ Sleeping → mark_at (w.node v) 0 ≢ Branch) where
  pub step_connects : (w' : Net) → (t : Step g w w') → w'.sent 0 + (step_takes t + branch_ports g w) ≡ w.sent 0 + branch_ports g w'
  step_connects _ (Wakes_up v lo hi sleeps) =
      let d = waking (w.node v) in
      let a = sent_now g v (waking (w.node v)) w 0 in
      let b = wake_connects (w.node v) (w.node v).marks refl (rested v (record { some = lo; node = hi }) sleeps) in
      let c = marks_count g w (reacted g v (waking (w.node v)) w) v (record { some = lo; node = hi }) (w.node v) refl (nodes v) (waking (w.node v))
      (node_here g v (waking (w.node v)) w) (node_there g v (waking (w.node v)) w) (waking (w.node v)).mark refl
      (wake_change (w.node v) (w.node v).marks refl) in
      omega (arith, a, b, c)
  step_connects _ (Takes_one v p m ms d at q up row) =
      let w1 = take_first d.fate v p m ms w in
      let a = sent_now g v d (take_first d.fate v p m ms w) 0 in
      let b = row_connects row (λ l e lt. came v p l ms at (q ∙ ap (λ x. x ∷ ms) e) up lt) in
      let c = marks_count g w (reacted g v d (take_first d.fate v p m ms w)) v (record { some = at.some; node = at.node }) (w.node v) refl (nodes v) d
      (node_here g v d (take_first d.fate v p m ms w)) (node_there g v d (take_first d.fate v p m ms w)) d.mark refl
      (awake_marks (nodes v).node (let lt = at.port in omega (arith, lt, ports_many (nodes v))) row) in
      omega (arith, a, b, c)
