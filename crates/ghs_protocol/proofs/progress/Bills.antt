-- What a node that probes may still have to ask: one more than its Basic ports besides the probe. While it stays at its level and probes, an
-- event leaves
-- the probe, or moves it on, and then less remains.
use Rattle.std.proofs.Common.{◌≡◌, ◌≢◌, ◌⊎◌, inl, inr, ℕ, suc, ◌<◌, ◌≤◌, ◌==◌, ◌&&◌, not, Bool, true, false, Option, Some, None, [], refl, sym, ◌∙◌, ap, ap₂, subst, arith, ⊎_elim, eq-eqb, ne_eqb, get_or, get_or-set_same, if◌then◌else◌}
use Rattle.std.proofs.lemmas.List.Quantifiers.{position-Some}
use Rattle.std.proofs.lemmas.Option.{same_Some}
use Rattle.ghs_node.specs.declared.delta.Delta.{Delta}
use Rattle.ghs_node.specs.declared.head.Head.{Head}
use Rattle.ghs_node.specs.declared.mark.Mark.{Mark}
use Rattle.ghs_node.specs.declared.mark.Mark.TheVariants.{Basic, Branch, Rejected}
use Rattle.ghs_node.specs.declared.message.Message.{Message}
use Rattle.ghs_node.specs.declared.message.Message.TheVariants.{Connect, Initiate, Test, Accept, Reject, Report, ChangeRoot}
use Rattle.ghs_node.specs.declared.message.Phase.TheVariants.{Sleeping, Find}
use Rattle.ghs_node.specs.Laws.{MarkChange, Stays, To_branch, To_rejected}
use Rattle.ghs_node.specs.NodeState.{NodeState, IsNode, degree, mark_at, with_mark}
use Rattle.ghs_node.specs.Reaction.{Ending, Probing, Reporting, Waiting, after, ends, no_probe, reject_at}
use Rattle.ghs_node.specs.Rows.{AwakeRow, Closes, Reports, Waits, Settles, Probes, Exhausts, Connect_absorbed, Connect_waits, Connect_merges, Initiate_rests, Initiate_searches, Test_waits, Test_accepted, Test_rejected, Tests_cross, Accept_heard, Reject_heard, Report_heard, Report_waits, Report_moves_root, Report_halts, Report_passes, Root_moves}
use Rattle.ghs_node.specs.Words.{is_basic, Outgoing}
use Rattle.ghs_node.proofs.lemmas.{awake_marks, basic_is, length-with_mark, mark_set}
use Rattle.peer_network.specs.Sums.{sum_below}
use Rattle.ghs_protocol.specs.Living as living
use Rattle.peer_network.proofs.lemmas.Sums.{sum_less, sum_most}

-- 1 where port i is Basic, and isn't p
abbrev pub one_of : Mark → Bool → ℕ
one_of m same = if is_basic m && not same then 1 else 0

abbrev pub other_basic : NodeState → ℕ → ℕ → ℕ
other_basic n p i = one_of (mark_at n i) (i == p)

-- the probe's port p, and the Basic ports besides
abbrev pub remaining : NodeState → ℕ → ℕ
remaining n p = suc (sum_below (degree n) (other_basic n p))

one_most : (m : Mark) (b : Bool) → one_of m b ≤ 1
one_most Basic true = omega arith
one_most Basic false = omega arith
one_most Branch b = omega arith
one_most Rejected b = omega arith

-- what is Basic stays what it was
module _ (n x : NodeState) (same : degree x ≡ degree n) (kept : (i : ℕ) → mark_at x i ≡ Basic → mark_at n i ≡ Basic) where
  less_here : (p i : ℕ) (m : Mark) → mark_at x i ≡ m → one_of m (i == p) ≤ other_basic n p i
  less_here p i Basic e = let z : one_of (mark_at n i) (i == p) ≡ one_of Basic (i == p) = ap (λ m. one_of m (i == p)) (kept i e) in omega (arith, z)
  less_here p i Branch e = omega arith
  less_here p i Rejected e = omega arith

  -- with the same probe no more remains
  pub same_remains : (p : ℕ) → remaining x p ≤ remaining n p
  same_remains p =
      let a = sum_most (degree n) (other_basic x p) (other_basic n p) (λ i lt. less_here p i (mark_at x i) refl) in
      let b = ap (λ d. sum_below d (other_basic x p)) same in
      omega (arith, a, b)

  -- with another less, where the old one's port isn't Basic any more
  module _ (p q : ℕ) (gone : mark_at x p ≢ Basic) (next : mark_at x q ≡ Basic) (lt : q < degree n) where
    apart : (i : ℕ) → mark_at x i ≡ Basic → i ≢ p
    apart i e z = gone (ap (λ y. mark_at x y) (sym z) ∙ e)

    one_there : (i : ℕ) → mark_at x i ≡ Basic → other_basic n p i ≡ 1
    one_there i e = ap₂ (λ m b. one_of m b) (kept i e) (ne_eqb i p (apart i e))

    moved_here : (i : ℕ) (m : Mark) → mark_at x i ≡ m → one_of m (i == q) ≤ other_basic n p i
    moved_here i Basic e = let a = one_there i e in let b = one_most Basic (i == q) in omega (arith, a, b)
    moved_here i Branch e = omega arith
    moved_here i Rejected e = omega arith

    none_here : other_basic x q q ≡ 0
    none_here = ap₂ (λ m b. one_of m b) next (eq-eqb q q refl)

    pub moved_remains : suc (remaining x q) ≤ remaining n p
    moved_remains =
        let z = one_there q next in let y = none_here in
        let a = sum_less (degree n) q (other_basic x q) (other_basic n p) lt (λ i l. moved_here i (mark_at x i) refl) (omega (arith, z, y)) in
        let b = ap (λ d. sum_below d (other_basic x q)) same in
        omega (arith, a, b)

-- marks change to Branch or Rejected alone
pub basic_was : (n : NodeState) (o : Option (ℕ × Mark)) → MarkChange n o → (i : ℕ) → get_or (with_mark n.marks o) i Rejected ≡ Basic →
    mark_at n i ≡ Basic
basic_was n None Stays i e = e
basic_was n _ (To_branch p lt) i e =
    ⊎_elim (λ h. sym h ∙ e) (λ h. absurd (let z : Branch ≡ Basic = sym h.1 ∙ e in cc)) (mark_set n.marks p i Branch)
basic_was n _ (To_rejected p lt b) i e =
    ⊎_elim (λ h. sym h ∙ e) (λ h. absurd (let z : Rejected ≡ Basic = sym h.1 ∙ e in cc)) (mark_set n.marks p i Rejected)

-- a port that is answered isn't Basic any more
reject_gone : (n : NodeState) (j : ℕ) → j < degree n → get_or (with_mark n.marks (reject_at n j)) j Rejected ≢ Basic
reject_gone n j lt = go (mark_at n j) refl
  where
    go : (m : Mark) → mark_at n j ≡ m → get_or (with_mark n.marks (if is_basic m then Some (j, Rejected) else None)) j Rejected ≢ Basic
    go Basic e h = let z : Rejected ≡ Basic = sym (get_or-set_same n.marks j Rejected Rejected lt) ∙ h in cc
    go Branch e h = let z : Branch ≡ Basic = sym e ∙ h in cc
    go Rejected e h = let z : Rejected ≡ Basic = sym e ∙ h in cc

-- how a probe moves on: the message came on its port, which isn't Basic any more, and the next one is
pub record MovesOn (n : NodeState) (j : ℕ) (d : Delta) (q : ℕ) : Type 0 where
  pub was : n.head.probe ≡ Some j
  pub gone : mark_at (after n d) j ≢ Basic
  pub next : mark_at (after n d) q ≡ Basic
  pub port : q < degree n

-- where a node is at its level still, and probes: its probe is as it was, or has moved on
abbrev pub Fares : NodeState → ℕ → Delta → Type 0
Fares n j d = (q : ℕ) → d.head.probe ≡ Some q → d.head.level ≡ n.head.level → (n.head.probe ≡ Some q) ⊎ MovesOn n j d q

pub closed_probe : (h : Head) (m : Option (ℕ × Mark)) (s : Outgoing) (e : Ending) → Closes h e → (ends h m s e).head.probe ≡ h.probe
closed_probe h m s _ (Reports z p) = refl
closed_probe h m s _ (Waits x) = refl

pub settles_on : (n : NodeState) (j : ℕ) (e : Ending) → j < degree n → n.head.probe ≡ Some j →
    Settles (with_mark n.marks (reject_at n j)) (no_probe n.head) e →
    (q : ℕ) → (ends (no_probe n.head) (reject_at n j) [] e).head.probe ≡ Some q → MovesOn n j (ends (no_probe n.head) (reject_at n j) [] e) q
settles_on n j _ lt was (Probes p least) q e =
    let s : p ≡ q = same_Some p q e in
    let ms = with_mark n.marks (reject_at n j) in
    let z = position-Some is_basic ms p Rejected least in
    let many = length-with_mark n.marks (reject_at n j) in
    let low = z.0 in
    record {
      was = was;
      gone = reject_gone n j lt;
      next = subst (λ y. get_or ms y Rejected ≡ Basic) s (basic_is _ z.1);
      port = omega (arith, low, many, s);
    }
settles_on n j e lt was (Exhausts x c) q h =
    absurd (let z : None ≡ Some q = sym (closed_probe (no_probe n.head) (reject_at n j) [] e c) ∙ h in cc)

-- a search begins at a level above
searches : (n : NodeState) (h : Head) (m : Option (ℕ × Mark)) (s : Outgoing) (e : Ending) → n.head.level < h.level →
    (ends h m s e).head.level ≡ n.head.level → ⊥
searches n h m s e lt same = omega (arith, lt, same)

pub row_fares : (n : NodeState) (j : ℕ) (m : Message) (d : Delta) → j < degree n → AwakeRow n j m d → Fares n j d
row_fares n j m _ lt (Connect_absorbed x few) = λ q e l. inl e
row_fares n j m _ lt (Connect_waits le b) = λ q e l. inl e
row_fares n j m _ lt (Connect_merges le ne x) = λ q e l. inl e
row_fares n j m _ lt (Initiate_rests x) = λ q e l. absurd (omega (arith, x, l))
row_fares n j m _ lt (Initiate_searches x few s) = λ q e l. absurd (omega (arith, x, l))
row_fares n j m _ lt (Test_waits x) = λ q e l. inl e
row_fares n j m _ lt (Test_accepted le x) = λ q e l. inl e
row_fares n j m _ lt (Test_rejected le x y) = λ q e l. inl e
row_fares n j m _ lt (Tests_cross le x y s) = λ q e l. inr (settles_on n j _ lt y s q e)
row_fares n j m _ lt (Accept_heard x c) = λ q e l. absurd (let z : None ≡ Some q = sym (closed_probe _ None [] _ c) ∙ e in cc)
row_fares n j m _ lt (Reject_heard x s) = λ q e l. inr (settles_on n j _ lt x s q e)
row_fares n j m _ lt (Report_heard c x y z) = λ q e l. inl (sym (closed_probe _ None [] _ z) ∙ e)
row_fares n j m _ lt (Report_waits x y) = λ q e l. inl e
row_fares n j m _ lt (Report_moves_root b k x y z t) = λ q e l. inl e
row_fares n j m _ lt (Report_halts x y z) = λ q e l. inl e
row_fares n j m _ lt (Report_passes x y z t) = λ q e l. inl e
row_fares n j m _ lt (Root_moves b k x) = λ q e l. inl e

-- and the same of what remains: with the probe as it was no more, and with the next one less
pub record Costs (n : NodeState) (j : ℕ) (d : Delta) (q : ℕ) : Type 0 where
  pub remains : ((n.head.probe ≡ Some q) × (remaining (after n d) q ≤ remaining n q)) ⊎
      ((n.head.probe ≡ Some j) × (suc (remaining (after n d) q) ≤ remaining n j))

pub row_costs : (n : NodeState) (j : ℕ) (m : Message) (d : Delta) → IsNode n → j < degree n → AwakeRow n j m d →
    (q : ℕ) → d.head.probe ≡ Some q → d.head.level ≡ n.head.level → Costs n j d q
row_costs n j m d is lt row q e l =
    let many = length-with_mark n.marks d.mark in
    let was = basic_was n d.mark (awake_marks is lt row) in
    record {
      remains = ⊎_elim
          (λ h. inl (h, same_remains n (after n d) many was q))
          (λ h. inr (h.was, moved_remains n (after n d) many was j q h.gone h.next h.port))
          (row_fares n j m d lt row q e l);
    }

-- What waits once a node that was awake has reacted waited before, where what came was no Initiate.
abbrev pub is_call : Message → Bool
is_call (Initiate l f s) = true
is_call (Connect l) = false
is_call (Test l f) = false
is_call Accept = false
is_call Reject = false
is_call (Report k) = false
is_call ChangeRoot = false

pub record Rests (n : NodeState) (d : Delta) : Type 0 where
  pub in_branch : d.head.in_branch ≡ n.head.in_branch
  pub level : n.head.level ≤ d.head.level
  pub finds : d.head.phase ≡ Find → n.head.phase ≡ Find

ends_rests : (n : NodeState) (h : Head) (m : Option (ℕ × Mark)) (s : Outgoing) (e : Ending) → h.in_branch ≡ n.head.in_branch →
    h.level ≡ n.head.level →
    h.phase ≡ n.head.phase → Rests n (ends h m s e)
ends_rests n h m s (Probing p) a b c = record { in_branch = a; level = omega (arith, b); finds = λ f. sym c ∙ f }
ends_rests n h m s Reporting a b c = record { in_branch = a; level = omega (arith, b); finds = λ f. cc }
ends_rests n h m s Waiting a b c = record { in_branch = a; level = omega (arith, b); finds = λ f. sym c ∙ f }

as_before : (n : NodeState) (d : Delta) → d.head.in_branch ≡ n.head.in_branch → d.head.level ≡ n.head.level → d.head.phase ≡ n.head.phase → Rests n d
as_before n d a b c = record { in_branch = a; level = omega (arith, b); finds = λ f. sym c ∙ f }

pub row_rests : (n : NodeState) (j : ℕ) (m : Message) (d : Delta) → AwakeRow n j m d → (is_call m ≡ true) ⊎ Rests n d
row_rests n j m _ (Connect_absorbed x few) = inr (as_before n _ refl refl refl)
row_rests n j m _ (Connect_waits le b) = inr (as_before n _ refl refl refl)
row_rests n j m _ (Connect_merges le ne x) = inr (as_before n _ refl refl refl)
row_rests n j m _ (Initiate_rests x) = inl refl
row_rests n j m _ (Initiate_searches x few s) = inl refl
row_rests n j m _ (Test_waits x) = inr (as_before n _ refl refl refl)
row_rests n j m _ (Test_accepted le x) = inr (as_before n _ refl refl refl)
row_rests n j m _ (Test_rejected le x y) = inr (as_before n _ refl refl refl)
row_rests n j m _ (Tests_cross le x y s) = inr (ends_rests n _ _ [] _ refl refl refl)
row_rests n j m _ (Accept_heard x c) = inr (ends_rests n _ _ [] _ refl refl refl)
row_rests n j m _ (Reject_heard x s) = inr (ends_rests n _ _ [] _ refl refl refl)
row_rests n j m _ (Report_heard c x y z) = inr (ends_rests n _ _ [] _ refl refl refl)
row_rests n j m _ (Report_waits x y) = inr (as_before n _ refl refl refl)
row_rests n j m _ (Report_moves_root b k x y z t) = inr (as_before n _ refl refl refl)
row_rests n j m _ (Report_halts x y z) = inr (as_before n _ refl refl refl)
row_rests n j m _ (Report_passes x y z t) = inr (as_before n _ refl refl refl)
row_rests n j m _ (Root_moves b k x) = inr (as_before n _ refl refl refl)

waited : (n : NodeState) (d : Delta) → n.head.phase ≢ Sleeping → MarkChange n d.mark → Rests n d → (p : ℕ) (x : Message) →
    living.Waits (after n d) p x → living.Waits n p x
waited n d up marks r p _ (living.Connect_waits a le b) = let le' = r.level in living.Connect_waits up (omega (arith, le, le'))
    (basic_was n d.mark marks p b)
waited n d up marks r p _ (living.Test_waits a lt) = let le = r.level in living.Test_waits up (omega (arith, lt, le))
waited n d up marks r p _ (living.Report_waits i f) = living.Report_waits (sym r.in_branch ∙ i) (r.finds f)

pub row_frees : (n : NodeState) (j : ℕ) (m : Message) (d : Delta) → IsNode n → n.head.phase ≢ Sleeping → j < degree n → AwakeRow n j m d →
    (p : ℕ) (x : Message) → living.Waits (after n d) p x → (is_call m ≡ true) ⊎ living.Waits n p x
row_frees n j m d is up lt row p x z =
    ⊎_elim (λ c. inl c) (λ r. inr (waited n d up (awake_marks is lt row) r p x z)) (row_rests n j m d row)

-- where the probe has moved on, less remains
pub moved_costs : (n : NodeState) (j : ℕ) (m : Message) (d : Delta) → IsNode n → j < degree n → AwakeRow n j m d → (q : ℕ) → MovesOn n j d q →
    suc (remaining (after n d) q) ≤ remaining n j
moved_costs n j m d is lt row q on =
    moved_remains n (after n d) (length-with_mark n.marks d.mark) (basic_was n d.mark (awake_marks is lt row)) j q on.gone on.next on.port
