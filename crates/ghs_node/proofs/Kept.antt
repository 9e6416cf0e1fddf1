-- What a reaction never loses: a node's level, its being awake, and what every node keeps.
use Rattle.std.proofs.Common.{◌≡◌, ◌≢◌, ℕ, ◌<◌, ◌≤◌, ◌||◌, Bool, true, false, List, length, position, refl, ◌∙◌, subst, cond, arith, Option, Some, None, le_refl}
use Rattle.std.proofs.lemmas.List.Quantifiers.{position-Some}
use Rattle.ghs_graph.specs.declared.key.Key.{Key}
use Rattle.ghs_node.specs.declared.head.Head.{Head}
use Rattle.ghs_node.specs.declared.mark.Mark.{Mark}
use Rattle.ghs_node.specs.declared.mark.Mark.TheVariants.{Branch, Rejected}
use Rattle.ghs_node.specs.declared.message.Phase.{Phase}
use Rattle.ghs_node.specs.declared.message.Phase.TheVariants.{Sleeping, Find, Found}
use Rattle.ghs_node.specs.declared.message.Message.{Message}
use Rattle.ghs_node.specs.declared.delta.Delta.{Delta}
use Rattle.ghs_node.specs.declared.work.Work.{Work}
use Rattle.ghs_node.specs.Words.{Best, below, is_basic, best_key, better}
use Rattle.ghs_node.specs.NodeState.{NodeState, IsNode, IsPortBelow, BestIsBelow, key_at, degree, with_mark}
use Rattle.ghs_node.specs.Reaction.{Ending, Probing, Reporting, Waiting, phase_after, probe_after, reject_at, woken, after, IsReaction}
use Rattle.ghs_node.specs.Rows.{Closes, Reports, Waits, Settles, Probes, Exhausts, AwakeRow, Connect_absorbed, Initiate_rests, Initiate_searches, Tests_cross, Accept_heard, Reject_heard, Report_heard, Report_halts, Row, Wakes, Wakes_alone, Woken_merges, Woken_connect_waits, Woken_test_waits, Woken_accepts, Awake}
use Rattle.ghs_node.specs.Laws.{HasLevel, WorkHasLevel}
use Rattle.ghs_node.proofs.Inversion.{reaction_inverts}
use Rattle.ghs_node.proofs.MarkChanges.{length-with_mark}

-- the level

pub awake_level : {n : NodeState} {j : ℕ} {m : Message} {d : Delta} → AwakeRow n j m d → n.head.level ≤ d.head.level
awake_level (Initiate_rests lt) = omega arith
awake_level (Initiate_searches lt few s) = omega arith
awake_level _ = le_refl _

-- a sleeping node has level 0
pub asleep_level : (n : NodeState) → IsNode n → n.head.phase ≡ Sleeping → n.head.level ≡ 0
asleep_level n f s = let e = (f.asleep s).0 in cc

pub row_level : (n : NodeState) (w : Work) (d : Delta) → IsNode n → Row n w d → n.head.level ≤ d.head.level
row_level n w d f (Wakes s lt) = omega (arith, asleep_level n f s)
row_level n w d f (Wakes_alone s e) = le_refl _
row_level n w d f (Woken_merges s lt) = omega (arith, asleep_level n f s)
row_level n w d f (Woken_connect_waits s lt ne) = omega (arith, asleep_level n f s)
row_level n w d f (Woken_test_waits s lt l) = omega (arith, asleep_level n f s)
row_level n w d f (Woken_accepts s lt) = omega (arith, asleep_level n f s)
row_level n w d f (Awake up lt r) = awake_level r

-- the phase

ended_awake : (p : Phase) (e : Ending) → p ≢ Sleeping → phase_after p e ≢ Sleeping
ended_awake p (Probing q) up = up
ended_awake p Reporting up = λ x. cc
ended_awake p Waiting up = up

pub awake_stays : {n : NodeState} {j : ℕ} {m : Message} {d : Delta} → n.head.phase ≢ Sleeping → AwakeRow n j m d → d.head.phase ≢ Sleeping
awake_stays up (Initiate_rests lt) = λ x. cc
awake_stays up (Initiate_searches {e = e} lt few s) = ended_awake Find e (λ x. cc)
awake_stays up (Tests_cross {e = e} a b c s) = ended_awake _ e up
awake_stays up (Accept_heard {e = e} a s) = ended_awake _ e up
awake_stays up (Reject_heard {e = e} a s) = ended_awake _ e up
awake_stays up (Report_heard {e = e} c a b s) = ended_awake _ e up
awake_stays up _ = up

pub row_awake : (n : NodeState) (w : Work) (d : Delta) → Row n w d → d.head.phase ≢ Sleeping
row_awake n w d (Wakes s lt) = λ x. cc
row_awake n w d (Wakes_alone s e) = λ x. cc
row_awake n w d (Woken_merges s lt) = λ x. cc
row_awake n w d (Woken_connect_waits s lt ne) = λ x. cc
row_awake n w d (Woken_test_waits s lt l) = λ x. cc
row_awake n w d (Woken_accepts s lt) = λ x. cc
row_awake n w d (Awake up lt r) = awake_stays up r

-- the halt

or_false : (b : Bool) → b ≡ (b || false)
or_false true = refl
or_false false = refl

or_true : (b : Bool) → true ≡ (b || true)
or_true true = refl
or_true false = refl

pub awake_halts : {n : NodeState} {j : ℕ} {m : Message} {d : Delta} → AwakeRow n j m d → d.head.halted ≡ (n.head.halted || d.halts)
awake_halts {n} (Report_halts a b c) = or_true n.head.halted
awake_halts {n} _ = or_false n.head.halted

pub row_halts : (n : NodeState) (w : Work) (d : Delta) → Row n w d → d.head.halted ≡ (n.head.halted || d.halts)
row_halts n w d (Wakes s lt) = or_false n.head.halted
row_halts n w d (Wakes_alone s e) = or_true n.head.halted
row_halts n w d (Woken_merges s lt) = or_false n.head.halted
row_halts n w d (Woken_connect_waits s lt ne) = or_false n.head.halted
row_halts n w d (Woken_test_waits s lt l) = or_false n.head.halted
row_halts n w d (Woken_accepts s lt) = or_false n.head.halted
row_halts n w d (Awake up lt r) = awake_halts r

-- the parts of a node's head

position_below : (ms : List Mark) (p : ℕ) → position is_basic ms ≡ Some p → p < length ms
position_below ms p e = (position-Some is_basic ms p Rejected e).0

ended_probe : {ms : List Mark} {h : Head} {e : Ending} → Settles ms h e → IsPortBelow (length ms) (probe_after None e)
ended_probe {ms} (Probes p e) = position_below ms p e
ended_probe (Exhausts e (Reports a b)) = tt
ended_probe (Exhausts e (Waits a)) = tt

closed_probe : (d : ℕ) (o : Option ℕ) {h : Head} {e : Ending} → IsPortBelow d o → Closes h e → IsPortBelow d (probe_after o e)
closed_probe d o w (Reports a b) = w
closed_probe d o w (Waits a) = w

better_below : (d : ℕ) (b : Best) (j : ℕ) (w : Option Key) → j < d → BestIsBelow d b → BestIsBelow d (better b j w)
better_below d b j None lt i = i
better_below d b j (Some k) lt i =
    elim (below (Some k) (best_key b)) as (λ (t : Bool). BestIsBelow d (cond t (Some (j, k)) b)) [ true ↦ lt | false ↦ i ]

named : {n : NodeState} {j : ℕ} {m : Message} {d : Delta} → (n.head.in_branch ≡ None → n.head.name ≡ None) → AwakeRow n j m d
    → d.head.in_branch ≡ None → d.head.name ≡ None
named h (Initiate_rests lt) x = cc
named h (Initiate_searches lt few s) x = cc
named h _ x = h x

nameless : {n : NodeState} {j : ℕ} {m : Message} {d : Delta} → (n.head.name ≡ None → n.head.in_branch ≡ None) → AwakeRow n j m d → d.head.name ≡ None
    → d.head.in_branch ≡ None
nameless h (Initiate_rests lt) x = cc
nameless h (Initiate_searches lt few s) x = cc
nameless h _ x = h x

-- a head without a name is as it was before the first Initiate
abbrev IsNew : Head → Type 0
IsNew h = (h.level ≡ 0) × (h.find_count ≡ 0) × (h.best ≡ None) × (h.probe ≡ None) × (h.phase ≢ Find)

new : {n : NodeState} {j : ℕ} {m : Message} {d : Delta} → (n.head.name ≡ None → IsNew n.head) → AwakeRow n j m d → d.head.name ≡ None → IsNew d.head
new h (Connect_absorbed lt few) x = absurd (let z = (h x).0 in omega arith)
new h (Initiate_rests lt) x = absurd cc
new h (Initiate_searches lt few s) x = absurd cc
new {n} h (Tests_cross a b c s) x = absurd (let z = (h x).3 in cc)
new h (Accept_heard a s) x = absurd (let z = (h x).3 in cc)
new h (Reject_heard a s) x = absurd (let z = (h x).3 in cc)
new h (Report_heard c a e s) x = absurd (let z = (h x).1 in cc)
new h _ x = h x

in_branch_below : {n : NodeState} {j : ℕ} {m : Message} {d : Delta} {k : ℕ} → j < k → IsPortBelow k n.head.in_branch → AwakeRow n j m d
    → IsPortBelow k d.head.in_branch
in_branch_below lt i (Initiate_rests a) = lt
in_branch_below lt i (Initiate_searches a few s) = lt
in_branch_below lt i _ = i

best_kept_below : {n : NodeState} {j : ℕ} {m : Message} {d : Delta} {k : ℕ} → j < k → BestIsBelow k n.head.best → AwakeRow n j m d
    → BestIsBelow k d.head.best
best_kept_below lt i (Initiate_rests a) = tt
best_kept_below lt i (Initiate_searches a few s) = tt
best_kept_below {n} {j} {k = k} lt i (Accept_heard a s) = better_below k n.head.best j (Some (key_at n j)) lt i
best_kept_below {n} {j} {k = k} lt i (Report_heard {w = w} c a e s) = better_below k n.head.best j w lt i
best_kept_below lt i _ = i

probe_below : {n : NodeState} {j : ℕ} {m : Message} {d : Delta} → IsPortBelow (degree n) n.head.probe → AwakeRow n j m d
    → IsPortBelow (degree n) d.head.probe
probe_below i (Initiate_searches {e = e} a few s) = ended_probe s
probe_below {n} {j} i (Tests_cross {e = e} a b c s) =
    subst (λ k. IsPortBelow k (probe_after None e)) (length-with_mark n.marks (reject_at n j)) (ended_probe s)
probe_below {n} {j} i (Reject_heard {e = e} a s) =
    subst (λ k. IsPortBelow k (probe_after None e)) (length-with_mark n.marks (reject_at n j)) (ended_probe s)
probe_below i (Accept_heard a s) = closed_probe _ None tt s
probe_below i (Report_heard c a e s) = closed_probe _ _ i s
probe_below i _ = i

count_below : {n : NodeState} {j : ℕ} {m : Message} {d : Delta} → n.head.find_count ≤ degree n → AwakeRow n j m d → d.head.find_count ≤ degree n
count_below i (Connect_absorbed lt few) = few
count_below i (Initiate_searches a few s) = few
count_below i (Report_heard c a e s) = omega arith
count_below i _ = i

level_below : {n : NodeState} {j : ℕ} {m : Message} {d : Delta} → n.head.level ≤ 20 → HasLevel m → AwakeRow n j m d → d.head.level ≤ 20
level_below i l (Initiate_rests lt) = l
level_below i l (Initiate_searches lt few s) = l
level_below i l _ = i

pub awake_kept : {n : NodeState} {j : ℕ} {m : Message} {d : Delta} → n.head.phase ≢ Sleeping → j < degree n → IsNode n → d.head.level ≤ 20
    → AwakeRow n j m d → IsNode (after n d)
awake_kept {n} {j} {m} {d} up lt f l r = record {
  ports = length-with_mark n.marks d.mark ∙ f.ports;
  few = rw (length-with_mark n.marks d.mark) f.few;
  level = l;
  unnamed = (named f.unnamed.0 r, nameless f.unnamed.1 r);
  new = new f.new r;
  asleep = λ s. absurd (awake_stays up r s);
  in_branch = rw (length-with_mark n.marks d.mark) (in_branch_below lt f.in_branch r);
  best = rw (length-with_mark n.marks d.mark) (best_kept_below lt f.best r);
  probe = rw (length-with_mark n.marks d.mark) (probe_below f.probe r);
  find_count = rw (length-with_mark n.marks d.mark) (count_below f.find_count r);
}

-- a node that has just woken
pub woken_kept : (n : NodeState) → IsNode n → n.head.phase ≡ Sleeping
    → IsNode (record n { head = (woken n).head; marks = with_mark n.marks (Some (0, Branch)) })
woken_kept n f s =
    let e = (f.asleep s).0 in
    let same = length-with_mark n.marks (Some (0, Branch)) in
    record {
      ports = same ∙ f.ports;
      few = rw same f.few;
      level = omega arith;
      unnamed = f.unnamed;
      new = λ x. let z = f.new x in (refl, refl, z.2, z.3, λ y. cc);
      asleep = λ y. absurd cc;
      in_branch = rw same f.in_branch;
      best = rw same f.best;
      probe = rw same f.probe;
      find_count = omega arith;
    }

lone_kept : (n : NodeState) → IsNode n → IsNode (record n { head = record n.head { phase = Found; halted = true } })
lone_kept n f = record {
  ports = f.ports;
  few = f.few;
  level = f.level;
  unnamed = f.unnamed;
  new = λ x. let z = f.new x in (z.0, z.1, z.2, z.3, λ y. cc);
  asleep = λ y. absurd cc;
  in_branch = f.in_branch;
  best = f.best;
  probe = f.probe;
  find_count = f.find_count;
}

-- a reaction to a level leaves the node with one
pub row_level_below : (n : NodeState) (w : Work) (d : Delta) → IsNode n → WorkHasLevel w → Row n w d → d.head.level ≤ 20
row_level_below n w d f l (Wakes s lt) = omega arith
row_level_below n w d f l (Wakes_alone s e) = f.level
row_level_below n w d f l (Woken_merges s lt) = omega arith
row_level_below n w d f l (Woken_connect_waits s lt ne) = omega arith
row_level_below n w d f l (Woken_test_waits s lt x) = omega arith
row_level_below n w d f l (Woken_accepts s lt) = omega arith
row_level_below n w d f l (Awake up lt r) = level_below f.level l r

pub row_kept_within : (n : NodeState) (w : Work) (d : Delta) → IsNode n → d.head.level ≤ 20 → Row n w d → IsNode (after n d)
row_kept_within n w d f l (Wakes s lt) = woken_kept n f s
row_kept_within n w d f l (Wakes_alone s e) = lone_kept n f
row_kept_within n w d f l (Woken_merges s lt) = woken_kept n f s
row_kept_within n w d f l (Woken_connect_waits s lt ne) = woken_kept n f s
row_kept_within n w d f l (Woken_test_waits s lt x) = woken_kept n f s
row_kept_within n w d f l (Woken_accepts s lt) = woken_kept n f s
row_kept_within n w d f l (Awake up lt r) = awake_kept up lt f l r

pub row_kept : (n : NodeState) (w : Work) (d : Delta) → IsNode n → WorkHasLevel w → Row n w d → IsNode (after n d)
row_kept n w d f l r = row_kept_within n w d f (row_level_below n w d f l r) r

pub reaction_kept : (n : NodeState) (d : Delta) → IsNode n → d.head.level ≤ 20 → IsReaction n d → IsNode (after n d)
reaction_kept n d f l r = row_kept_within n r.work d f l (reaction_inverts n r.work d r.port r.is)
