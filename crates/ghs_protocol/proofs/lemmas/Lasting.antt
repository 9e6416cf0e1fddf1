-- Between any two moments of a run, nodes lose no level, no wakefulness, no halt and no mark.
use Rattle.std.proofs.Common.{◌≡◌, ◌≢◌, ℕ, ◌≤◌, ⊎_elim, Bool, true, ◌||◌, List, refl, sym, ◌∙◌, arith, Option, Some, le_refl, get_or}
use Rattle.ghs_node.specs.declared.mark.Mark.{Mark}
use Rattle.ghs_node.specs.declared.mark.Mark.TheVariants.{Basic, Branch, Rejected}
use Rattle.ghs_node.specs.declared.message.Phase.TheVariants.{Sleeping}
use Rattle.ghs_node.specs.declared.delta.Delta.{Delta}
use Rattle.ghs_node.specs.declared.work.Work.{Work}
use Rattle.ghs_node.specs.declared.work.Work.TheVariants.{Wake, Deliver}
use Rattle.ghs_node.specs.NodeState.{NodeState, mark_at, with_mark, IsNode}
use Rattle.ghs_node.specs.Reaction.{after}
use Rattle.ghs_node.specs.Rows.{Row}
use Rattle.ghs_node.specs.Laws.{MarkChange, Stays, To_branch, To_rejected}
use Rattle.ghs_node.proofs.lemmas.{reaction_inverts, row_marks, mark_set, branch_stays, row_level, row_awake, row_halts}
use Rattle.peer_network.specs.declared.event.Event.{Event}
use Rattle.peer_network.specs.Network.{Network}
use Rattle.peer_network.proofs.lemmas.Wired.{IsWired}
use Rattle.ghs_protocol.specs.Net.{Net, take_first}
use Rattle.ghs_protocol.specs.Run.{run}
use Rattle.ghs_protocol.specs.Steps.{Happens, Woke, Took}
use Rattle.ghs_protocol.proofs.lemmas.Nodes.{node_by_node}
use Rattle.ghs_protocol.proofs.lemmas.Runs.{run_relates}
use Rattle.ghs_protocol.proofs.lemmas.WellFormed.{IsWellFormed, event_row, event_formed}

-- what a node doesn't lose: its level, that it is awake, that it has halted, its Branch marks, and that a port is marked at all.
pub record Lasts (n n' : NodeState) : Type 0 where
  pub level : n.head.level ≤ n'.head.level
  pub awake : n.head.phase ≢ Sleeping → n'.head.phase ≢ Sleeping
  pub halted : n.head.halted ≡ true → n'.head.halted ≡ true
  pub branch : (p : ℕ) → mark_at n p ≡ Branch → mark_at n' p ≡ Branch
  pub marked : (p : ℕ) → mark_at n p ≢ Basic → mark_at n' p ≢ Basic

-- a mark that is Basic was so before
pub basic_before : (n : NodeState) (o : Option (ℕ × Mark)) (q : ℕ) →
    MarkChange n o →
    get_or (with_mark n.marks o) q Rejected ≡ Basic →
    mark_at n q ≡ Basic
basic_before n _ q Stays h = h
basic_before n _ q (To_branch p lt) h = ⊎_elim (λ e. sym e ∙ h) (λ e. absurd (let z = sym e.1 ∙ h in cc)) (mark_set n.marks p q Branch)
basic_before n _ q (To_rejected p lt b) h = ⊎_elim (λ e. sym e ∙ h) (λ e. absurd (let z = sym e.1 ∙ h in cc)) (mark_set n.marks p q Rejected)

either_true : (a b c : Bool) → c ≡ (a || b) → a ≡ true → c ≡ true
either_true a b c e h = rw (e, h)

pub row_lasts : (n : NodeState) (k : Work) (d : Delta) → IsNode n → Row n k d → Lasts n (after n d)
row_lasts n k d i row = record {
  level = row_level n k d i row;
  awake = λ up. row_awake n k d row;
  halted = λ h. either_true n.head.halted d.halts d.head.halted (row_halts n k d row) h;
  branch = λ p e. branch_stays n d.mark p (row_marks n k d i row) e;
  marked = λ p ne e. ne (basic_before n d.mark p (row_marks n k d i row) e);
}

pub lasts_same : (n : NodeState) → Lasts n n
lasts_same n = record { level = le_refl _; awake = λ h. h; halted = λ h. h; branch = λ p h. h; marked = λ p h. h }

pub lasts_on : (a b c : NodeState) → Lasts a b → Lasts b c → Lasts a c
lasts_on a b c s t = record {
  level = omega (arith, s.level, t.level);
  awake = λ h. t.awake (s.awake h);
  halted = λ h. t.halted (s.halted h);
  branch = λ p h. t.branch p (s.branch p h);
  marked = λ p h. t.marked p (s.marked p h);
}

-- all nodes, before and after
abbrev pub AllLast : Net → Net → Type 0
AllLast w w' = (v : ℕ) → Lasts (w.node v) (w'.node v)

module _ (g : Network) (wired : IsWired g) where
  pub event_lasts : (w w' : Net) (e : Event) → IsWellFormed g w → Happens g w e w' → AllLast w w'
  event_lasts w _ _ f (Woke v d lo hi s r) =
      node_by_node g v d w w refl (λ u. Lasts) (row_lasts (w.node v) Wake d (f.nodes v).node (reaction_inverts (w.node v) Wake d tt r))
      (λ u ne. lasts_same (w.node u))
  event_lasts w _ _ f (Took v p m ms d at q r) =
      node_by_node g v d w (take_first d.fate v p m ms w) refl (λ u. Lasts)
      (row_lasts (w.node v) (Deliver p m) d (f.nodes v).node (event_row g wired v (w.node v) p m d at (f.nodes v) r))
      (λ u ne. lasts_same (w.node u))

  -- between any two moments
  pub run_lasts : (es : List Event) (w w' : Net) → IsWellFormed g w → run g es w ≡ Some w' → AllLast w w'
  run_lasts es w w' f h =
      run_relates g (IsWellFormed g) AllLast (λ x v. lasts_same (x.node v))
      (λ x y z s t v. lasts_on (x.node v) (y.node v) (z.node v) (s v) (t v))
      (λ x y e i t. (event_formed g wired x y e i t, event_lasts x y e i t)) es w w' f h
