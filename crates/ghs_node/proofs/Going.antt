-- A node that sleeps and gets a Connect or a Test wakes, and then goes on as any node does.
use Rattle.std.proofs.Common.{◌≡◌, ◌≢◌, ℕ, ◌<◌, ◌≤◌, ◌==◌, Bool, true, false, Option, Some, None, refl, ◌∙◌, ap, arith, eqb-true, get_or-set_same, get_or-set_other}
use Rattle.std.proofs.lemmas.Bool.{lt-ltb, le-ltb, eqb-false}
use Rattle.ghs_graph.specs.declared.key.Key.{Key}
use Rattle.ghs_node.specs.declared.mark.Mark.{Mark}
use Rattle.ghs_node.specs.declared.mark.Mark.TheVariants.{Basic, Branch, Rejected}
use Rattle.ghs_node.specs.declared.message.Phase.TheVariants.{Sleeping}
use Rattle.ghs_node.specs.declared.message.Message.TheVariants.{Connect, Test, Accept, Reject, Report, ChangeRoot}
use Rattle.ghs_node.specs.declared.delta.Delta.{Delta}
use Rattle.ghs_node.specs.declared.work.Work.TheVariants.{Deliver}
use Rattle.ghs_node.specs.Words.{is_sleeping}
use Rattle.ghs_node.specs.NodeState.{NodeState, IsNode, mark_at, degree}
use Rattle.ghs_node.specs.Reaction.{awake, asleep, reaction, still, woken, root_to}
use Rattle.ghs_node.specs.Draft.{waking, begun_in, drafted, later, goes_on}
use Rattle.ghs_node.proofs.Tests.{sleeping_is}

later_none : (m : Option (ℕ × Mark)) → later None m ≡ m
later_none None = refl
later_none (Some k) = refl

-- to go on from nothing is to react
pub still_goes_on : (n : NodeState) (o : Option Delta) → goes_on (still n) o ≡ o
still_goes_on n None = refl
still_goes_on n (Some e) = ap (λ (m : Option (ℕ × Mark)). Some (record e { mark = m })) (later_none e.mark)

module _ (n : NodeState) (f : IsNode n) (s : n.head.phase ≡ Sleeping) where
  -- of a node that has woken port 0 is a Branch, and each other port is Basic
  woken_first : 0 < degree n → mark_at (woken n) 0 ≡ Branch
  woken_first lt = get_or-set_same n.marks 0 Branch Rejected lt

  woken_other : (j : ℕ) → j < degree n → j ≢ 0 → mark_at (woken n) j ≡ Basic
  woken_other j lt ne = get_or-set_other n.marks 0 j Branch Rejected ne ∙ (f.asleep s).1 j Rejected lt

  nameless : n.head.name ≡ None
  nameless = let e = (f.asleep s).0 in cc

  connect_goes_on : (j l : ℕ) → j < degree n → goes_on (waking n) (awake (woken n) j (Connect l)) ≡ asleep n j (Connect l)
  connect_goes_on j l lt = go (j == 0) refl
    where
      go : (b : Bool) → (j == 0) ≡ b → goes_on (waking n) (awake (woken n) j (Connect l)) ≡ asleep n j (Connect l)
      go true e = let z = eqb-true j 0 e in rw (z, woken_first (omega arith), le-ltb l 0 (omega arith))
      go false e = let ne = eqb-false j 0 e in rw (e, woken_other j lt ne, le-ltb l 0 (omega arith))

  test_goes_on : (j l : ℕ) (k : Key) → j < degree n → goes_on (waking n) (awake (woken n) j (Test l k)) ≡ asleep n j (Test l k)
  test_goes_on j l k lt = go (l == 0) refl
    where
      go : (b : Bool) → (l == 0) ≡ b → goes_on (waking n) (awake (woken n) j (Test l k)) ≡ asleep n j (Test l k)
      go true e = let z = eqb-true l 0 e in rw (z, nameless)
      go false e = let ne = eqb-false l 0 e in rw (e, lt-ltb 0 l (omega arith))

-- by a reaction that was begun
module _ (n : NodeState) (f : IsNode n) (d : Delta) (begun : d ≡ begun_in n) where
  pub begun_count : d.head.find_count ≤ degree n
  begun_count = rw begun (go (is_sleeping n.head.phase) refl)
    where
      go : (b : Bool) → is_sleeping n.head.phase ≡ b → (begun_in n).head.find_count ≤ degree n
      go false e = rw e f.find_count
      go true e = rw e (omega arith)

  pub begun_plain : d.head.name ≢ None → d.mark ≡ None
  begun_plain = rw begun (go (is_sleeping n.head.phase) refl)
    where
      go : (b : Bool) → is_sleeping n.head.phase ≡ b → (begun_in n).head.name ≢ None → (begun_in n).mark ≡ None
      go false e = rw e (λ x. refl)
      go true e = rw e (λ x. absurd (x (nameless n f (sleeping_is _ e))))

  pub connect_begins : (j l : ℕ) → j < degree n → goes_on d (awake (drafted n d) j (Connect l)) ≡ reaction n (Deliver j (Connect l))
  connect_begins j l lt = rw begun (go (is_sleeping n.head.phase) refl)
    where
      go : (b : Bool) → is_sleeping n.head.phase ≡ b
          → goes_on (begun_in n) (awake (drafted n (begun_in n)) j (Connect l)) ≡ reaction n (Deliver j (Connect l))
      go false e = rw e (still_goes_on n (awake n j (Connect l)))
      go true e = rw e (connect_goes_on n f (sleeping_is _ e) j l lt)

  pub test_begins : (j l : ℕ) (k : Key) → j < degree n → goes_on d (awake (drafted n d) j (Test l k)) ≡ reaction n (Deliver j (Test l k))
  test_begins j l k lt = rw begun (go (is_sleeping n.head.phase) refl)
    where
      go : (b : Bool) → is_sleeping n.head.phase ≡ b
          → goes_on (begun_in n) (awake (drafted n (begun_in n)) j (Test l k)) ≡ reaction n (Deliver j (Test l k))
      go false e = rw e (still_goes_on n (awake n j (Test l k)))
      go true e = rw e (test_goes_on n f (sleeping_is _ e) j l k lt)

-- a node asleep has no rule for the other messages, by the rules of a node that is awake too
module _ (n : NodeState) (j : ℕ) (f : IsNode n) where
  untouched_there : n.head.phase ≡ Sleeping → (n.head.probe ≡ None) × (n.head.in_branch ≡ None) × (n.head.best ≡ None) × (n.head.find_count ≡ 0)
  untouched_there s = let e = (f.asleep s).0 in (cc, cc, cc, cc)

  pub accept_answers : awake n j Accept ≡ reaction n (Deliver j Accept)
  accept_answers = go (is_sleeping n.head.phase) refl
    where
      go : (b : Bool) → is_sleeping n.head.phase ≡ b → awake n j Accept ≡ reaction n (Deliver j Accept)
      go false e = rw e
      go true e = rw (e, (untouched_there (sleeping_is _ e)).0)

  pub reject_answers : awake n j Reject ≡ reaction n (Deliver j Reject)
  reject_answers = go (is_sleeping n.head.phase) refl
    where
      go : (b : Bool) → is_sleeping n.head.phase ≡ b → awake n j Reject ≡ reaction n (Deliver j Reject)
      go false e = rw e
      go true e = rw (e, (untouched_there (sleeping_is _ e)).0)

  pub report_answers : (w : Option Key) → awake n j (Report w) ≡ reaction n (Deliver j (Report w))
  report_answers w = go (is_sleeping n.head.phase) refl
    where
      go : (b : Bool) → is_sleeping n.head.phase ≡ b → awake n j (Report w) ≡ reaction n (Deliver j (Report w))
      go false e = rw e
      go true e = let u = untouched_there (sleeping_is _ e) in rw (e, u.1, u.3)

  pub root_answers : root_to n n.head.best ≡ reaction n (Deliver j ChangeRoot)
  root_answers = go (is_sleeping n.head.phase) refl
    where
      go : (b : Bool) → is_sleeping n.head.phase ≡ b → root_to n n.head.best ≡ reaction n (Deliver j ChangeRoot)
      go false e = rw e
      go true e = rw (e, (untouched_there (sleeping_is _ e)).2)
