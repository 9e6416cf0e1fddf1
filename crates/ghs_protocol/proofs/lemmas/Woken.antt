-- An event is one step, or two where a message comes to a sleeping node: it wakes in a step of its own.
use Rattle.std.proofs.Common.{◌≡◌, ◌≢◌, ℕ, ◌<◌, List, [], ◌∷◌, ◌++◌, length, refl, sym, ◌∙◌, ap, subst, ⊎_elim, arith, ◌⊎◌, inl, inr, None, get_or-set_same, get_or-set_other}
use Rattle.std.proofs.lemmas.Bool.{cases_eq}
use Rattle.std.proofs.lemmas.List.Elements.{All-get_or}
use Rattle.std.proofs.Math.Path.{fun_ext}
use Rattle.ghs_node.specs.declared.mark.Mark.{Mark}
use Rattle.ghs_node.specs.declared.mark.Mark.TheVariants.{Basic, Branch, Rejected}
use Rattle.ghs_node.specs.declared.message.Phase.{Phase}
use Rattle.ghs_node.specs.declared.message.Phase.TheVariants.{Sleeping, Find, Found}
use Rattle.ghs_node.specs.declared.message.Message.{Message}
use Rattle.ghs_node.specs.declared.message.Message.TheVariants.{Connect}
use Rattle.ghs_node.specs.declared.delta.Delta.{Delta}
use Rattle.ghs_node.specs.declared.work.Work.TheVariants.{Wake, Deliver}
use Rattle.ghs_node.specs.NodeState.{NodeState, mark_at, degree, with_mark, IsNode}
use Rattle.ghs_node.specs.Reaction.{at_wake, wakes, wakes_alone, woken, once_woken, after}
use Rattle.ghs_node.specs.Rows.{AwakeRow, Connect_waits, Connect_merges, Test_waits, Test_accepted, Row, Wakes, Wakes_alone, Woken_merges, Woken_connect_waits, Woken_test_waits, Woken_accepts, Awake}
use Rattle.ghs_node.proofs.lemmas.{reaction_inverts}
use Rattle.peer_network.specs.declared.event.Event.{Event}
use Rattle.peer_network.specs.Network.{Network, far, far_port, At}
use Rattle.peer_network.proofs.lemmas.Wired.{IsWired}
use Rattle.ghs_protocol.specs.Net.{Net, send, send_all, change, left_of, take_first}
use Rattle.peer_network.specs.Events.{event_node}
use Rattle.peer_network.specs.Updates.{put, put_at}
use Rattle.ghs_protocol.specs.Nodes.{IsNodeOf}
use Rattle.ghs_protocol.proofs.lemmas.WellFormed.{AreNodes}
use Rattle.ghs_protocol.specs.Steps.{reacted, taken, waking, Happens, Woke, Took, Step, Wakes_up, Takes_one, Steps, One, Two}
use Rattle.peer_network.proofs.lemmas.Updates.{put_same, put_other, put_at_miss, put_at_swap}
use Rattle.ghs_protocol.proofs.lemmas.Nodes.{ports_many}
use Rattle.ghs_protocol.proofs.lemmas.Sends.{node_here}

-- what a node that has just woken does is a row of its own, which changes no mark
pub data WokenRow (n : NodeState) (j : ℕ) (m : Message) : Delta → Type 0 where
  Woken : (d : Delta) → AwakeRow (woken n) j m d → d.mark ≡ None → ◌≡◌ {A = ℕ} d.head.level 0 → WokenRow n j m (once_woken d)

-- the node of a step
abbrev pub step_node : {g : Network} {w w' : Net} → Step g w w' → ℕ
step_node (Wakes_up v lo hi s) = v
step_node (Takes_one v p m ms d at q up row) = v

-- a step of node v
pub record StepBy (g : Network) (v : ℕ) (w w' : Net) : Type 0 where
  pub step : Step g w w'
  pub by : step_node step ≡ v

-- a step of node v, or two at one level
pub data StepsBy (g : Network) (v : ℕ) (w : Net) : Net → Type 0 where
  One_by : {w' : Net} → StepBy g v w w' → StepsBy g v w w'
  Two_by : {u w' : Net} → StepBy g v w u → StepBy g v u w' → ◌≡◌ {A = ℕ} (u.node v).head.level (w'.node v).head.level → StepsBy g v w w'

abbrev pub all_steps : {g : Network} {v : ℕ} {w w' : Net} → StepsBy g v w w' → Steps g w w'
all_steps (One_by a) = One a.step
all_steps (Two_by a b e) = Two a.step b.step

-- a sleeping node's marks are Basic
pub asleep_basic : (n : NodeState) (p : ℕ) → IsNode n → n.head.phase ≡ Sleeping → p < degree n → mark_at n p ≡ Basic
asleep_basic n p i s lt = All-get_or (λ (m : Mark). m ≡ Basic) n.marks p Rejected lt ((i.asleep s).1)

asleep_nameless : (n : NodeState) → IsNode n → n.head.phase ≡ Sleeping → n.head.name ≡ None
asleep_nameless n i s = rw ((i.asleep s).0)

woken_row : {n : NodeState} {j : ℕ} {m : Message} {d : Delta} → IsNode n → n.head.phase ≡ Sleeping → Row n (Deliver j m) d → WokenRow n j m d
woken_row {n} i s (Woken_merges {l = l} a lt) =
    Woken _ (Connect_merges {j = 0} {l = l} (omega arith) (λ x. let e = get_or-set_same n.marks 0 Branch Rejected lt in cc) (omega arith))
    refl refl
woken_row {n} i s (Woken_connect_waits {j = j} {l = l} a lt ne) =
    Woken _ (Connect_waits (omega arith) (get_or-set_other n.marks 0 j Branch Rejected ne ∙ asleep_basic n j i s lt)) refl refl
woken_row {n} i s (Woken_test_waits a lt lo) = Woken _ (Test_waits lo) refl refl
woken_row {n} i s (Woken_accepts a lt) = Woken _ (Test_accepted (omega arith) (rw (asleep_nameless n i s))) refl refl
woken_row i s (Awake up lt row) = absurd (up s)

-- a row of a node that is awake
pub awake_row : {n : NodeState} {j : ℕ} {m : Message} {d : Delta} → n.head.phase ≢ Sleeping → Row n (Deliver j m) d → AwakeRow n j m d
awake_row up (Awake a lt row) = row
awake_row up (Woken_merges s lt) = absurd (up s)
awake_row up (Woken_connect_waits s lt ne) = absurd (up s)
awake_row up (Woken_test_waits s lt lo) = absurd (up s)
awake_row up (Woken_accepts s lt) = absurd (up s)

pub asleep_or_not : (p : Phase) → (p ≡ Sleeping) ⊎ (p ≢ Sleeping)
asleep_or_not Sleeping = inl refl
asleep_or_not Find = inr (λ e. cc)
asleep_or_not Found = inr (λ e. cc)

pub at_rest : (p : Phase) → p ≢ Find → p ≢ Sleeping → p ≡ Found
at_rest Found a b = refl
at_rest Find a b = absurd (a refl)
at_rest Sleeping a b = absurd (b refl)

-- a node that wakes does so in one way
wake_is : {n : NodeState} {d : Delta} → Row n Wake d → d ≡ waking n
wake_is {n} (Wakes s lt) = go n.marks refl
  where
    go : (ms : List Mark) → n.marks ≡ ms → wakes n ≡ at_wake n ms
    go [] e = absurd (omega (arith, ap length e))
    go (m ∷ ms) e = refl
wake_is {n} (Wakes_alone s z) = go n.marks refl
  where
    go : (ms : List Mark) → n.marks ≡ ms → wakes_alone n ≡ at_wake n ms
    go [] e = refl
    go (m ∷ ms) e = absurd (omega (arith, ap length e))

same_net : {w v : Net} → w.node ≡ v.node → w.queue ≡ v.queue → w.sent ≡ v.sent → w.consumed ≡ v.consumed → w.requeued ≡ v.requeued → w ≡ v
same_net a b c d e = λ i. record { node = a i; queue = b i; sent = c i; consumed = d i; requeued = e i }

no_mark : (n : NodeState) (d : Delta) → d.mark ≡ None → after n d ≡ record n { head = d.head }
no_mark n d e = λ i. record { number = n.number; keys = n.keys; head = d.head; marks = with_mark n.marks (e i) }

module _ (g : Network) (wired : IsWired g) where
  -- the wake and what follows it, as two steps
  two_steps : (w : Net) (v p : ℕ) (m : Message) (ms : List Message) (d : Delta) → At g v p → (w.node v).head.phase ≡ Sleeping →
      degree (w.node v) ≡ length (g.ports v) → w.queue v p ≡ m ∷ ms → AwakeRow (woken (w.node v)) p m d → d.mark ≡ None → ◌≡◌ {A = ℕ} d.head.level 0 →
      StepsBy g v w (taken g v p m ms (once_woken d) w)
  two_steps w v p m ms d at s len q row bare low = wake (w.node v).marks refl
    where
      first : At g v 0
      first = record { some = at.some; node = at.node; port = let lt = at.port in omega arith }

      wake : (ks : List Mark) → (w.node v).marks ≡ ks → StepsBy g v w (taken g v p m ms (once_woken d) w)
      wake [] e = absurd (let lt = at.port in omega (arith, ap length e))
      wake (k ∷ ks) e = Two_by one (subst (StepBy g v mid) whole two) level
        where
          mid : Net
          mid = send g v (change v (wakes (w.node v)) w) (0, Connect 0)

          one : StepBy g v w mid
          one = subst (λ x. StepBy g v w (reacted g v (at_wake (w.node v) x) w)) e (record { step = Wakes_up v at.some at.node s; by = refl })

          here : mid.node v ≡ woken (w.node v)
          here = put_same w.node v _

          away : far g v 0 ≢ v
          away = wired.apart v 0 first

          still : mid.queue v p ≡ m ∷ ms
          still = put_at_miss w.queue (far g v 0) (far_port g v 0) v p _ (λ x. away (sym x.0)) ∙ q

          two : StepBy g v mid (taken g v p m ms d mid)
          two = record {
            step = Takes_one v p m ms d at still
                (λ x. let y : (woken (w.node v)).head.phase ≡ Sleeping = ap (λ (n : NodeState). n.head.phase) (sym here) ∙ x in cc)
                (rw here row);
            by = refl;
          }

          level : (mid.node v).head.level ≡ ((taken g v p m ms (once_woken d) w).node v).head.level
          level =
              ap (λ (n : NodeState). n.head.level) here ∙
              sym (ap (λ (n : NodeState). n.head.level) (node_here g v (once_woken d) (take_first (once_woken d).fate v p m ms w)) ∙ low)

          whole : taken g v p m ms d mid ≡ taken g v p m ms (once_woken d) w
          whole = ap (send_all g v d.sends) (same_net (fun_ext nodes) (fun_ext (λ a. fun_ext (λ b. queues a b))) refl refl refl)
            where
              last : NodeState
              last = after (w.node v) (once_woken d)

              same_node : after (mid.node v) d ≡ last
              same_node = ap (λ (n : NodeState). after n d) here ∙ no_mark (woken (w.node v)) d bare

              nodes : (a : ℕ) → put mid.node v (after (mid.node v) d) a ≡ put w.node v last a
              nodes a =
                  ⊎_elim (λ (x : a ≡ v). rw x (put_same mid.node v _ ∙ same_node ∙ sym (put_same w.node v _)))
                  (λ x. put_other mid.node v a _ x ∙ put_other w.node v a _ x ∙ sym (put_other w.node v a _ x)) (cases_eq a v)

              queues : (a b : ℕ) →
                  put_at mid.queue v p (left_of d.fate m ms) a b ≡
                  put_at (put_at w.queue v p (left_of d.fate m ms)) (far g v 0) (far_port g v 0)
                  (put_at w.queue v p (left_of d.fate m ms) (far g v 0) (far_port g v 0) ++ Connect 0 ∷ []) a b
              queues a b = sym (put_at_swap w.queue v p (far g v 0) (far_port g v 0) (left_of d.fate m ms) (λ x. x ++ Connect 0 ∷ []) away a b)

  -- a Take is a row, or the row of a sleeper that wakes first
  taken_steps : (w : Net) (v p : ℕ) (m : Message) (ms : List Message) (d : Delta) → At g v p → IsNodeOf g v (w.node v) →
      w.queue v p ≡ m ∷ ms → Row (w.node v) (Deliver p m) d → StepsBy g v w (taken g v p m ms d w)
  taken_steps w v p m ms d at n q row =
      ⊎_elim (λ s. sleeper s (woken_row n.node s row)) (λ up. One_by (record { step = Takes_one v p m ms d at q up (awake_row up row); by = refl }))
      (asleep_or_not (w.node v).head.phase)
    where
      sleeper : {d : Delta} → (w.node v).head.phase ≡ Sleeping → WokenRow (w.node v) p m d → StepsBy g v w (taken g v p m ms d w)
      sleeper s (Woken d r bare low) = two_steps w v p m ms d at s (ports_many n) q r bare low

  -- an event of a net is one step of its node or two
  pub event_steps_by : (w w' : Net) (e : Event) → AreNodes g w → Happens g w e w' → StepsBy g (event_node e) w w'
  event_steps_by w _ _ n (Woke v d lo hi s r) =
      subst (λ x. StepsBy g v w (reacted g v x w)) (sym (wake_is (reaction_inverts (w.node v) Wake d tt r)))
      (One_by (record { step = Wakes_up v lo hi s; by = refl }))
  event_steps_by w _ _ n (Took v p m ms d at q r) =
      taken_steps w v p m ms d at (n v) q (reaction_inverts (w.node v) (Deliver p m) d (omega (arith, at.port, ports_many (n v))) r)

  pub event_steps : (w w' : Net) (e : Event) → AreNodes g w → Happens g w e w' → Steps g w w'
  event_steps w w' e n h = all_steps (event_steps_by w w' e n h)
