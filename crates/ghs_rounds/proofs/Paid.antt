-- What the account of rounds rests on, of a component in which none has halted: all of Paying's hypotheses, for runs by rounds in which all
-- nodes are awake.
use Rattle.std.proofs.Common.{◌≡◌, ◌≢◌, ℕ, zero, suc, ◌+◌, ◌*◌, ◌≤◌, Bool, true, false, Option, Some, List, [], ◌∷◌, ◌++◌, length, sym, ◌∙◌, ap, subst, subst₂, ⊎_elim, inl, inr, ◌⊎◌, arith}
use Rattle.std.specs.Prelude.{unwrap_or}
use Rattle.std.proofs.lemmas.Bool.{cases_Bool, cases_eq}
use Rattle.std.proofs.lemmas.Option.{same_Some}
use Rattle.ghs_graph.specs.Bound.{IsFloorLog2}
use Rattle.ghs_graph.specs.Graph.{Shape, IsGraph}
use Rattle.ghs_graph.specs.Ports.{ports_of}
use Rattle.ghs_node.specs.declared.delta.Delta.{Delta}
use Rattle.ghs_node.specs.declared.head.Head.{Head}
use Rattle.ghs_node.specs.declared.message.Message.{Message}
use Rattle.ghs_node.specs.declared.message.Message.TheVariants.{Connect, Initiate, Test, Accept, Reject, Report, ChangeRoot}
use Rattle.ghs_node.specs.declared.message.Phase.TheVariants.{Sleeping}
use Rattle.ghs_node.specs.declared.work.Work.TheVariants.{Deliver}
use Rattle.ghs_node.specs.NodeState.{NodeState}
use Rattle.ghs_node.specs.Reaction.{reaction}
use Rattle.peer_network.specs.declared.event.Event.TheVariants.{Take}
use Rattle.peer_network.specs.Network.{At, InNetwork, far, far_port, network_of}
use Rattle.peer_network.proofs.lemmas.Graphs.{graph_few, graph_wired}
use Rattle.ghs_protocol.specs.Laws.{IsNetOf}
use Rattle.ghs_protocol.specs.Living.{Waits}
use Rattle.ghs_protocol.specs.Marks.{HasHalted}
use Rattle.ghs_protocol.specs.Net.{Net}
use Rattle.ghs_protocol.specs.Steps as steps
use Rattle.ghs_protocol.specs.Time.{A_probe, A_tree_message, GoesAtLeast, IsLeast, is_tree, tree_messages}
use Rattle.ghs_protocol.proofs.lemmas.Laws.{something_goes_at_least}
use Rattle.ghs_protocol.proofs.lemmas.Nodes.{ports_many}
use Rattle.ghs_protocol.proofs.lemmas.Time.{Has, IsAnswer, IsTestBy, WasProbing, answer_free, answer_heard, awaited, bill, bill_few, calls_or_frees, component, component_closed, component_self, level_few, levels_rise, names_stay, probe_at, probe_level, prober_was, probes_aside, search, test_free, test_heard, tree_taken, trees_stay}
use Rattle.ghs_protocol.proofs.lemmas.WellFormed.{after_formed}
use Rattle.peer_chains.specs.Chains.{Chains}
use Rattle.ghs_following.specs.Chains.{reacted}
use Rattle.ghs_following.proofs.lemmas.Lengths.{SameLengths}
use Rattle.ghs_rounds.specs.Rounds.{round_events}
use Rattle.ghs_rounds.proofs.Due.{Due, due_all, due_map, due_on, late_none}
use Rattle.ghs_rounds.proofs.Paying as paying
use Rattle.ghs_rounds.proofs.Paying.{Facts, InRound}
use Rattle.ghs_rounds.proofs.Steps.{IsTimed, Promised, timed_next}
use Rattle.ghs_rounds.proofs.Timing.{AreLate}

-- the rounds from one on, counted from 0
abbrev pub from : ℕ → ℕ → ℕ
from first zero = first
from first (suc n) = suc (from first n)

pub from_is : (first n : ℕ) → from first n ≡ first + n
from_is first zero = omega arith
from_is first (suc n) = let a = from_is first n in omega (arith, a)

-- a net with its numbers
pub record State : Type 0 where
  pub net : Net
  pub chains : Chains

-- a tree message that doesn't wait
abbrev pub IsFree : NodeState → ℕ → Message → Type 0
IsFree n p m = (is_tree m ≡ true) × (Waits n p m → ⊥)

answer_same : (h k : Head) → k.level ≡ h.level → k.name ≡ h.name → (m : Message) → IsAnswer h m → IsAnswer k m
answer_same h k e f (Connect l) i = i
answer_same h k e f (Initiate l n s) i = i
answer_same h k e f (Test l n) i = (i.0 ∙ sym e, f ∙ i.1)
answer_same h k e f Accept i = i
answer_same h k e f Reject i = i
answer_same h k e f (Report l) i = i
answer_same h k e f ChangeRoot i = i

test_higher : (l k : ℕ) → l ≤ k → (m : Message) → IsTestBy l m → IsTestBy k m
test_higher l k le (Connect i) h = h
test_higher l k le (Initiate i n s) h = h
test_higher l k le (Test i n) h = omega (arith, le, h)
test_higher l k le Accept h = h
test_higher l k le Reject h = h
test_higher l k le (Report i) h = h
test_higher l k le ChangeRoot h = h

has_in : (P : Message → Type 0) (before : List Message) (m : Message) (behind : List Message) → P m → Has P (before ++ m ∷ behind)
has_in P [] m behind h = inl h
has_in P (x ∷ before) m behind h = inr (has_in P before m behind h)

module _ (law : Promised) (may : ℕ → Bool) (g : Shape) (ok : IsGraph g) (k : ℕ) (log : IsFloorLog2 g.nodes k) (b : ℕ)
    (few : (v : ℕ) → 1 ≤ v → v ≤ g.nodes → length (ports_of g.keys v) ≤ suc b) (z : ℕ) (z_is : InNetwork (network_of g) z) where
  abbrev pub S : ℕ → Bool
  S v = component g ok z v

  -- a net of a run, timed, in which all are awake and none of the component has halted
  pub record Good (s : State) (r : ℕ) : Type 0 where
    pub is : IsNetOf g s.net
    pub timed : IsTimed may (network_of g) s.net s.chains r
    pub same : SameLengths s.net s.chains
    pub awake : (v : ℕ) → InNetwork (network_of g) v → (s.net.node v).head.phase ≢ Sleeping
    pub going : (v : ℕ) → InNetwork (network_of g) v → S v ≡ true → HasHalted s.net v → ⊥

  -- an event
  pub data Step (r : ℕ) : State → State → Type 0 where
    Goes : (w : Net) (c : Chains) (n : IsNetOf g w) (a j : ℕ) (m : Message) (ms : List Message) (d : Delta) (at : At (network_of g) a j)
        (first : w.queue a j ≡ m ∷ ms) (answer : reaction (w.node a) (Deliver j m) ≡ Some d) (up : (w.node a).head.phase ≢ Sleeping) →
        Good (record { net = w; chains = c }) r →
        Good (record { net = steps.taken (network_of g) a j m ms d w; chains = reacted (network_of g) w (Take a j) d c }) r →
        Step r (record { net = w; chains = c }) (record {
          net = steps.taken (network_of g) a j m ms d w;
          chains = reacted (network_of g) w
              (Take a j) d c;
        })

  -- the round is over
  abbrev pub Quiet : ℕ → State → Type 0
  Quiet r s = Good s r × (round_events may (network_of g) s.net s.chains r ≡ [])

  abbrev pub Member : ℕ → Type 0
  Member v = InNetwork (network_of g) v × (S v ≡ true)

  abbrev pub level_of : State → ℕ → ℕ
  level_of s v = (s.net.node v).head.level

  abbrev pub ProbesIn : State → ℕ → Type 0
  ProbesIn s v = (p : ℕ) × ((s.net.node v).head.probe ≡ Some p)

  abbrev pub bill_of : State → ℕ → ℕ
  bill_of s v = bill (network_of g) s.net v (unwrap_or (s.net.node v).head.probe 0)

  abbrev pub taken_of : State → ℕ
  taken_of s = tree_messages s.net

  -- what it waits for is due
  abbrev pub Awaits : ℕ → State → ℕ → Type 0
  Awaits r s v =
      (p : ℕ) × ((s.net.node v).head.probe ≡ Some p) ×
      (Due (IsTestBy (s.net.node (far (network_of g) v p)).head.level) r (s.net.queue (far (network_of g) v p) (far_port (network_of g) v p))
      (s.chains.queue (far (network_of g) v p) (far_port (network_of g) v p)) ⊎
      Due (IsAnswer (s.net.node v).head) r (s.net.queue v p) (s.chains.queue v p))

  -- a tree message that doesn't wait is due
  abbrev pub TreeDue : ℕ → State → Type 0
  TreeDue r s =
      (y : ℕ) × (q : ℕ) × At (network_of g) y q × (S y ≡ true) × Due (IsFree (s.net.node y) q) r (s.net.queue y q) (s.chains.queue y q)

  -- the account of the rounds from one on
  abbrev pub In : ℕ → State → State → ℕ → Type 0
  In first base s n =
      InRound State (λ i. Step (from first i)) (λ i. Quiet (from first i)) base Member level_of ProbesIn bill_of taken_of
      (λ i. Awaits (from first i)) (λ i. TreeDue (from first i)) b k s n

  bill_is : (s : State) (v p : ℕ) → (s.net.node v).head.probe ≡ Some p → bill_of s v ≡ bill (network_of g) s.net v p
  bill_is s v p e = ap (λ (o : Option ℕ). bill (network_of g) s.net v (unwrap_or o 0)) e

  -- the next round
  pub good_next : (s : State) (r : ℕ) → Quiet r s → Good s (suc r)
  good_next s r q = record {
    is = q.0.is;
    timed = timed_next law may g s.net q.0.is s.chains r q.0.timed q.0.same q.1;
    same = q.0.same;
    awake = q.0.awake;
    going = q.0.going;
  }

  step_before : (r : ℕ) (s x : State) → Step r s x → Good s r
  step_before r _ _ (Goes w c n a j m ms d at first answer up good good') = good

  step_after : (r : ℕ) (s x : State) → Step r s x → Good x r
  step_after r _ _ (Goes w c n a j m ms d at first answer up good good') = good'

  late_of : (s : State) (r : ℕ) → Quiet r s → (y q : ℕ) → At (network_of g) y q → AreLate (s.net.node y) q (suc r) (s.net.queue y q)
      (s.chains.queue y q)
  late_of s r over y q at = ⊎_elim
      (λ e. absurd (let le = over.0.timed.within.node y in omega (arith, e, le)))
      (λ h. h)
      ((good_next s r over).timed.late y q at)

  -- all that is under way is due in the next round
  all_here : (P : Message → Type 0) (s : State) (r : ℕ) → Good s r → (y q : ℕ) → Has P (s.net.queue y q) → Due P (suc r) (s.net.queue y q)
      (s.chains.queue y q)
  all_here P s r good y q has = due_all P (suc r) (s.net.queue y q) (s.chains.queue y q) (good.same.queue y q) (good.timed.within.queue y q) has

  there : (v p : ℕ) → At (network_of g) v p → At (network_of g) (far (network_of g) v p) (far_port (network_of g) v p)
  there v p at = (graph_wired g ok).there v p at

  -- L3, L4
  was_so : (r : ℕ) (s x : State) → Step r s x → (l : ℕ) → ((v : ℕ) → Member v → l ≤ level_of s v) → (v : ℕ) → Member v → level_of x v ≡ l →
      ProbesIn x v →
      (level_of s v ≡ l) × ProbesIn s v × (bill_of x v ≤ bill_of s v)
  was_so r _ _ (Goes w c n a j m ms d at first answer up good good') l low v is e (q, probe) =
      let le = low v is in
      let h = prober_was g w n a j m ms d at first answer up v q is.0 (omega (arith, le, e)) probe in
      let same = h.level in
      let before = bill_is (record { net = w; chains = c }) v h.port h.probe in
      let after = bill_is (record { net = steps.taken (network_of g) a j m ms d w; chains = reacted (network_of g) w (Take a j) d c }) v q probe in (
        omega (arith, same, e),
        (h.port, h.probe),
        ⊎_elim (λ o. let a = o.1 in omega (arith, a, before, after)) (λ less. omega (arith, less, before, after)) h.owes,
      )

  -- L5, L6, L8
  still_awaits : (r : ℕ) (s x : State) → Step r s x → (l : ℕ) → ((v : ℕ) → Member v → l ≤ level_of s v) → (v : ℕ) → Member v → level_of x v ≡ l →
      ProbesIn x v → Awaits r s v → Awaits r x v ⊎ (suc (bill_of x v) ≤ bill_of s v)
  still_awaits r _ _ (Goes w c n a j m ms d at first answer up good good') l low v is e (q, probe) (p, was, due) =
      ⊎_elim
      (λ o. kept (sym port_is ∙ o.0))
      (λ less. inr (let eq = ap (λ i. bill (network_of g) w v i) port_is in omega (arith, less, before, after, eq)))
      h.owes
    where
      x : Net
      x = steps.taken (network_of g) a j m ms d w

      nums : Chains
      nums = reacted (network_of g) w (Take a j) d c

      h : WasProbing g w n a j m ms d at first answer up v q
      h = prober_was g w n a j m ms d at first answer up v q is.0 (let le = low v is in omega (arith, le, e)) probe

      port_is : h.port ≡ p
      port_is = same_Some h.port p (sym h.probe ∙ was)

      before : bill_of (record { net = w; chains = c }) v ≡ bill (network_of g) w v p
      before = bill_is (record { net = w; chains = c }) v p was

      after : bill_of (record { net = steps.taken (network_of g) a j m ms d w; chains = reacted (network_of g) w (Take a j) d c }) v ≡
          bill (network_of g) (steps.taken (network_of g) a j m ms d w) v q
      after = bill_is (record { net = steps.taken (network_of g) a j m ms d w; chains = reacted (network_of g) w (Take a j) d c }) v q probe

      kept : p ≡ q → Awaits r (record { net = steps.taken (network_of g) a j m ms d w; chains = reacted (network_of g) w (Take a j) d c }) v ⊎
          (suc (bill_of (record { net = steps.taken (network_of g) a j m ms d w; chains = reacted (network_of g) w (Take a j) d c }) v) ≤
          bill_of (record { net = w; chains = c }) v)
      kept pq = ⊎_elim far_due near_due due
        where
          still : ((steps.taken (network_of g) a j m ms d w).node v).head.probe ≡ Some p
          still = probe ∙ ap Some (sym pq)

          was_q : (w.node v).head.probe ≡ Some q
          was_q = was ∙ ap Some pq

          same_bill : bill (network_of g) w v p ≡ bill (network_of g) w v q
          same_bill = ap (λ i. bill (network_of g) w v i) pq

          far_due : Due (IsTestBy (w.node (far (network_of g) v p)).head.level) r (w.queue (far (network_of g) v p) (far_port (network_of g) v p))
              (c.queue (far (network_of g) v p) (far_port (network_of g) v p)) →
              Awaits r (record { net = steps.taken (network_of g) a j m ms d w; chains = reacted (network_of g) w (Take a j) d c }) v ⊎
              (suc (bill_of (record { net = steps.taken (network_of g) a j m ms d w; chains = reacted (network_of g) w (Take a j) d c }) v) ≤
              bill_of (record { net = w; chains = c }) v)
          far_due hd = ⊎_elim
              (λ t. inr (
              let f : far (network_of g) v q ≡ a = ap (λ i. far (network_of g) v i) (sym pq) ∙ t.0 in
              let fp : far_port (network_of g) v q ≡ j = ap (λ i. far_port (network_of g) v i) (sym pq) ∙ t.1 in
              let less = test_heard g w n a j m ms d at first answer up v q is.0 probe was_q f fp
              (subst (λ y. IsTestBy (w.node y).head.level m) t.0 t.2) in
              omega (arith, less, before, after, same_bill)))
              (λ hx. inl (
                p,
                still,
                inl (due_map (IsTestBy (w.node (far (network_of g) v p)).head.level)
                    (IsTestBy ((steps.taken (network_of g) a j m ms d w).node (far (network_of g) v p)).head.level) r
                    (test_higher _ _ (levels_rise g w n a j m ms d at first answer up (far (network_of g) v p))) _ _ hx),
              ))
              (due_on (IsTestBy (w.node (far (network_of g) v p)).head.level) r g w n a j m ms d at first answer up c (far (network_of g) v p)
              (far_port (network_of g) v p) hd)

          near_due : Due (IsAnswer (w.node v).head) r (w.queue v p) (c.queue v p) →
              Awaits r (record { net = steps.taken (network_of g) a j m ms d w; chains = reacted (network_of g) w (Take a j) d c }) v ⊎
              (suc (bill_of (record { net = steps.taken (network_of g) a j m ms d w; chains = reacted (network_of g) w (Take a j) d c }) v) ≤
              bill_of (record { net = w; chains = c }) v)
          near_due hd = ⊎_elim
              (λ t. inr (
              let less : suc (bill (network_of g) (steps.taken (network_of g) a j m ms d w) v q) ≤ bill (network_of g) w v p =
              subst₂ (λ y i. suc (bill (network_of g) (steps.taken (network_of g) a j m ms d w) y q) ≤ bill (network_of g) w y i) (sym t.0) (sym t.1)
              (answer_heard g w n a j m ms d at first answer up q
              (subst (λ y. ((steps.taken (network_of g) a j m ms d w).node y).head.probe ≡ Some q) t.0 probe)
              (subst (λ y. ((steps.taken (network_of g) a j m ms d w).node y).head.level ≡ (w.node y).head.level) t.0 h.level)
              (subst₂ (λ y i. (w.node y).head.probe ≡ Some i) t.0 t.1 was) (subst (λ y. IsAnswer (w.node y).head m) t.0 t.2)) in
              omega (arith, less, before, after)))
              (λ hx. inl (
                p,
                still,
                inr (due_map (IsAnswer (w.node v).head) (IsAnswer ((steps.taken (network_of g) a j m ms d w).node v).head) r
                    (answer_same (w.node v).head ((steps.taken (network_of g) a j m ms d w).node v).head h.level
                    (names_stay g w n a j m ms d at first answer up v h.level)) _ _ hx),
              ))
              (due_on (IsAnswer (w.node v).head) r g w n a j m ms d at first answer up c v p hd)

  -- L7, L8
  tree_goes : (r : ℕ) (s x : State) → Step r s x → TreeDue r s → TreeDue r x ⊎ (suc (taken_of s) ≤ taken_of x)
  tree_goes r _ _ (Goes w c n a j m ms d at first answer up good good') (y, q, at', here, due) = ⊎_elim
      inr
      (λ frees. ⊎_elim
      (λ t. inr (tree_taken g w n a j m ms d at first answer up t.2.0 (subst₂ (λ u i. Waits (w.node u) i m → ⊥) t.0 t.1 t.2.1)))
      (λ hx. inl (
        y,
        q,
        at',
        here,
        due_map (IsFree (w.node y) q) (IsFree ((steps.taken (network_of g) a j m ms d w).node y) q) r
            (λ m' f. (f.0, λ wait. f.1 (frees y q m' wait))) _ _ hx,
      ))
      (due_on (IsFree (w.node y) q) r g w n a j m ms d at first answer up c y q due))
      (calls_or_frees g w n a j m ms d at first answer up)

  rises_so : (r : ℕ) (s x : State) → Step r s x → (v : ℕ) → level_of s v ≤ level_of x v
  rises_so r _ _ (Goes w c n a j m ms d at first answer up good good') v = levels_rise g w n a j m ms d at first answer up v

  takes_so : (r : ℕ) (s x : State) → Step r s x → taken_of s ≤ taken_of x
  takes_so r _ _ (Goes w c n a j m ms d at first answer up good good') = trees_stay g w n a j m ms d at first answer up

  -- the ends of rounds
  none_awaits : (s : State) (r : ℕ) → Quiet r s → (v : ℕ) → Member v → Awaits r s v → ⊥
  none_awaits s r over v is (p, probe, due) =
      let at = probe_at g s.net over.0.is v p is.0 probe in
      ⊎_elim
      (λ h. late_none (IsTestBy (s.net.node (far (network_of g) v p)).head.level) r (s.net.node (far (network_of g) v p))
      (far_port (network_of g) v p)
      (test_free (s.net.node (far (network_of g) v p)) (far_port (network_of g) v p)) _ _
      (late_of s r over (far (network_of g) v p) (far_port (network_of g) v p) (there v p at)) h)
      (λ h. late_none (IsAnswer (s.net.node v).head) r (s.net.node v) p (answer_free (s.net.node v) p) _ _ (late_of s r over v p at) h)
      due

  none_tree : (s : State) (r : ℕ) → Quiet r s → TreeDue r s → ⊥
  none_tree s r over (y, q, at, here, due) = late_none (IsFree (s.net.node y) q) r (s.net.node y) q (λ m f. f.1) _ _ (late_of s r over y q at) due

  all_await : (s : State) (r : ℕ) → Quiet r s → (l : ℕ) → ((v : ℕ) → Member v → l ≤ level_of s v) → (v : ℕ) → Member v → level_of s v ≡ l →
      ProbesIn s v → Awaits (suc r) s v
  all_await s r over l low v is e (p, probe) =
      let at = probe_at g s.net over.0.is v p is.0 probe in
      let at' = there v p at in
      let le = low (far (network_of g) v p) (record { some = at'.some; node = at'.node }, component_closed g ok z v p at is.1) in
      ⊎_elim
      (λ h. (
        p,
        probe,
        inl (all_here (IsTestBy (s.net.node (far (network_of g) v p)).head.level) s r over.0 (far (network_of g) v p)
            (far_port (network_of g) v p) h),
      ))
      (λ h. (p, probe, inr (all_here (IsAnswer (s.net.node v).head) s r over.0 v p h)))
      (awaited g s.net over.0.is v p is.0 probe (omega (arith, le, e)))

  one_moves : (s : State) (r : ℕ) → Quiet r s → (l : ℕ) → ((v : ℕ) → Member v → l ≤ level_of s v) → (v : ℕ) → Member v → level_of s v ≡ l →
      TreeDue (suc r) s ⊎ ((u : ℕ) × Member u × (level_of s u ≡ l) × ProbesIn s u)
  one_moves s r over l low v is e = go (something_goes_at_least g s.net over.0.is S l least)
    where
      least : IsLeast (network_of g) s.net S l
      least = record {
        closed = λ u p at. component_closed g ok z u p at;
        none_halted = over.0.going;
        awake = λ u u_is m. over.0.awake u u_is;
        node = v;
        is = is.0;
        member = is.1;
        level = e;
        low = λ u u_is m. low u (u_is, m);
      }

      go : GoesAtLeast (network_of g) s.net S l → TreeDue (suc r) s ⊎ ((u : ℕ) × Member u × (level_of s u ≡ l) × ProbesIn s u)
      go (A_tree_message y q before m behind at here whole tree free) =
          inl (
            y,
            q,
            at,
            here,
            all_here (IsFree (s.net.node y) q) s r over.0 y q
                (subst (Has (IsFree (s.net.node y) q)) (sym whole) (has_in (IsFree (s.net.node y) q) before m behind (tree, free))),
          )
      go (A_probe u p u_is here at_l probe) = inr (u, (u_is, here), at_l, (p, probe))

  some_at : (s : State) (l : ℕ) → ((v : ℕ) × Member v × (level_of s v ≡ l)) ⊎ ((v : ℕ) → Member v → level_of s v ≢ l)
  some_at s l = ⊎_elim
      (λ h. inl (h.0, (record { some = h.1; node = h.2 }, h.3.0), h.3.1))
      (λ none. inr (λ v is e. none v is.0.some is.0.node is.1 e))
      (search (λ v. (S v ≡ true) × (level_of s v ≡ l)) (λ v. S v ≡ true → level_of s v ≢ l)
      (λ v. ⊎_elim
      (λ m. ⊎_elim (λ e. inl (m, e)) (λ ne. inr (λ y e. ne e)) (cases_eq (level_of s v) l))
      (λ no. inr (λ y e. let t : true ≡ false = sym y ∙ no in cc))
      (cases_Bool (S v)))
      g.nodes)

  module _ (first : ℕ) (base : State) (begun : Good base first) where
    pub good_of : (s : State) (n : ℕ) → In first base s n → Good s (from first n)
    good_of _ _ paying.Begun = begun
    good_of _ _ (paying.Went w x n at s) = step_after (from first n) w x s
    good_of _ _ (paying.Over w n at q) = good_next w (from first n) q

    pub facts : Facts State (λ i. Step (from first i)) (λ i. Quiet (from first i)) base Member level_of ProbesIn bill_of taken_of
        (λ i. Awaits (from first i)) (λ i. TreeDue (from first i)) b k
    facts = record {
      someone = (z, (z_is, component_self g ok z));
      top = λ s n at v is. level_few g s.net (good_of s n at).is k log v is.0;
      here = some_at;
      at_zero = λ s n at v is e p. absurd (let y = probe_level g s.net (good_of s n at).is v p.0 is.0 p.1 in omega (arith, y, e));
      some_bill = λ s v. omega arith;
      most_bill = λ s n at v is p. most s (from first n) (good_of s n at) v is p.0 p.1;
      rises = λ s x n at t v is. rises_so (from first n) s x t v;
      takes = λ s x n at t. takes_so (from first n) s x t;
      old = λ s x n at t l low v is e p. was_so (from first n) s x t l low v is e p;
      waits = λ s x n at t l low v is e p h. still_awaits (from first n) s x t l low v is e p h;
      goes = λ s x n at t h. tree_goes (from first n) s x t h;
      no_due = λ s n at q v is p h. none_awaits s (from first n) q v is h;
      no_tree = λ s n at q h. none_tree s (from first n) q h;
      all_due = λ s n at q l low v is e p. all_await s (from first n) q l low v is e p;
      moves = λ s n at q l low v is e. one_moves s (from first n) q l low v is e;
    }
      where
        most : (s : State) (r : ℕ) → Good s r → (v : ℕ) → Member v → (p : ℕ) → (s.net.node v).head.probe ≡ Some p → bill_of s v ≤ 2 * b
        most s r good v is p probe =
            let formed = after_formed (network_of g) (graph_wired g ok) (graph_few g ok) good.is.events s.net good.is.run in
            let many = ports_many (formed.nodes v) in
            let f = few v is.0.some is.0.node in
            let a = bill_few g s.net good.is v p is.0 probe (probes_aside g s.net good.is v is.0) b (omega (arith, many, f)) in
            let e = bill_is s v p probe in
            omega (arith, a, e)
