-- What a node that probes may still cost, with what is under way for its probe: twice what remains, less one where its Test isn't at the far
-- end any more.
-- While the node stays at its level and probes, no event makes that more; and where its probe moves on it is less.
use Rattle.std.proofs.Common.{◌≡◌, ◌≢◌, ◌⊎◌, inl, inr, ℕ, zero, suc, ◌+◌, ◌*◌, ◌<◌, ◌≤◌, Some, None, Option, List, [], ◌∷◌, ◌++◌, refl, sym, ◌∙◌, ap, ap₂, ⊎_elim, arith}
use Rattle.ghs_node.specs.declared.delta.Delta.{Delta}
use Rattle.ghs_node.specs.declared.delta.Fate.{Fate}
use Rattle.ghs_node.specs.declared.delta.Fate.TheVariants.{Consumed, Requeued}
use Rattle.ghs_node.specs.declared.head.Head.{Head}
use Rattle.ghs_node.specs.declared.mark.Mark.{Mark}
use Rattle.ghs_node.specs.declared.mark.Mark.TheVariants.{Basic, Branch, Rejected}
use Rattle.ghs_node.specs.declared.message.Message.{Message}
use Rattle.ghs_node.specs.NodeState.{NodeState, IsNode, degree, mark_at}
use Rattle.ghs_node.specs.Reaction.{Ending, after, ends, root_message}
use Rattle.ghs_node.specs.Rows.{AwakeRow, Closes, Reports, Waits, Connect_absorbed, Connect_waits, Connect_merges, Initiate_rests, Initiate_searches, Test_waits, Test_accepted, Test_rejected, Tests_cross, Accept_heard, Reject_heard, Report_heard, Report_waits, Report_moves_root, Report_halts, Report_passes, Root_moves}
use Rattle.peer_network.specs.Network.{Network, At, far, far_port}
use Rattle.peer_network.specs.Sums.{sum_below}
use Rattle.peer_network.proofs.lemmas.Updates.{one_place, put_at_hit, put_at_miss}
use Rattle.peer_network.proofs.lemmas.Wired.{IsWired}
use Rattle.peer_network.proofs.lemmas.Wires.{neighbour}
use Rattle.ghs_protocol.specs.Ledger.{of_kind}
use Rattle.ghs_protocol.specs.Net.{Net, change, left_of, take_first}
use Rattle.ghs_protocol.specs.Steps.{sent_on, taken}
use Rattle.ghs_protocol.proofs.charges.Due.{NoTests, sent_none}
use Rattle.ghs_protocol.proofs.lemmas.Balance.{of_kind_append}
use Rattle.ghs_protocol.proofs.lemmas.Effects.{taken_here, taken_there}
use Rattle.ghs_protocol.proofs.lemmas.Sends.{messages, queue_kept, queue_sent}
use Rattle.ghs_protocol.proofs.progress.Bills.{MovesOn, moved_costs, other_basic, remaining, row_costs, settles_on}

-- the Tests that stand at the far end of port p of v
abbrev pub asked : Network → Net → ℕ → ℕ → ℕ
asked g w v p = of_kind 2 (w.queue (far g v p) (far_port g v p))

abbrev pub any : ℕ → ℕ
any zero = 0
any (suc n) = 1

pub any_most : (n : ℕ) → any n ≤ 1
any_most zero = omega arith
any_most (suc n) = omega arith

any_grows : (n m : ℕ) → n ≤ m → any n ≤ any m
any_grows zero m le = omega arith
any_grows (suc n) zero le = absurd (omega (arith, le))
any_grows (suc n) (suc m) le = omega arith

abbrev pub bill : Network → Net → ℕ → ℕ → ℕ
bill g w v p = suc (2 * sum_below (degree (w.node v)) (other_basic (w.node v) p) + any (asked g w v p))

-- who keeps its probe sends no Test
root_calm : (k : Mark) (b l : ℕ) → NoTests (messages ((b, root_message k l) ∷ []))
root_calm Basic b l = refl
root_calm Branch b l = refl
root_calm Rejected b l = refl

closed_calm : (h : Head) (m : Option (ℕ × Mark)) (e : Ending) → Closes h e → NoTests (messages (ends h m [] e).sends)
closed_calm h m _ (Reports z p) = refl
closed_calm h m _ (Waits x) = refl

abbrev CalmOr : NodeState → ℕ → Delta → Type 0
CalmOr n j d = (q : ℕ) → d.head.probe ≡ Some q → d.head.level ≡ n.head.level → NoTests (messages d.sends) ⊎ MovesOn n j d q

pub row_calm : (n : NodeState) (j : ℕ) (m : Message) (d : Delta) → j < degree n → AwakeRow n j m d → CalmOr n j d
row_calm n j m _ lt (Connect_absorbed x few) = λ q e l. inl refl
row_calm n j m _ lt (Connect_waits le b) = λ q e l. inl refl
row_calm n j m _ lt (Connect_merges le ne x) = λ q e l. inl refl
row_calm n j m _ lt (Initiate_rests x) = λ q e l. absurd (omega (arith, x, l))
row_calm n j m _ lt (Initiate_searches x few s) = λ q e l. absurd (omega (arith, x, l))
row_calm n j m _ lt (Test_waits x) = λ q e l. inl refl
row_calm n j m _ lt (Test_accepted le x) = λ q e l. inl refl
row_calm n j m _ lt (Test_rejected le x y) = λ q e l. inl refl
row_calm n j m _ lt (Tests_cross le x y s) = λ q e l. inr (settles_on n j _ lt y s q e)
row_calm n j m _ lt (Accept_heard x c) = λ q e l. inl (closed_calm _ None _ c)
row_calm n j m _ lt (Reject_heard x s) = λ q e l. inr (settles_on n j _ lt x s q e)
row_calm n j m _ lt (Report_heard c x y z) = λ q e l. inl (closed_calm _ None _ z)
row_calm n j m _ lt (Report_waits x y) = λ q e l. inl refl
row_calm n j m _ lt (Report_moves_root b k x y z t) = λ q e l. inl (root_calm (mark_at n b) b n.head.level)
row_calm n j m _ lt (Report_halts x y z) = λ q e l. inl refl
row_calm n j m _ lt (Report_passes x y z t) = λ q e l. inl refl
row_calm n j m _ lt (Root_moves b k x) = λ q e l. inl (root_calm (mark_at n b) b n.head.level)

module _ (g : Network) (wired : IsWired g) (w : Net) (u j : ℕ) (m : Message) (ms : List Message) (d : Delta) (at_j : At g u j) where
  abbrev x : Net
  x = taken g u j m ms d w

  -- at the node that took it
  module _ (is : IsNode (w.node u)) (lt : j < degree (w.node u)) (row : AwakeRow (w.node u) j m d) (q : ℕ) (at_q : At g u q)
      (probes : d.head.probe ≡ Some q) (level : d.head.level ≡ (w.node u).head.level) where
    -- what stands at the far end of its port: what stood there, and what it sent
    far_queue : x.queue (far g u q) (far_port g u q) ≡ w.queue (far g u q) (far_port g u q) ++ sent_on d.sends q
    far_queue =
        queue_sent g u wired q d.sends (change u d (take_first d.fate u j m ms w)) at_q
        ∙ ap (λ (l : List Message). l ++ sent_on d.sends q)
        (put_at_miss w.queue u j (far g u q) (far_port g u q) (left_of d.fate m ms) (λ z. wired.apart u q at_q z.0))

    none_new : NoTests (messages d.sends) → asked g x u q ≡ asked g w u q
    none_new calm =
        let a = ap (λ (l : List Message). of_kind 2 l) far_queue in
        let b = of_kind_append 2 (w.queue (far g u q) (far_port g u q)) (sent_on d.sends q) in
        let c = sent_none d.sends q calm in
        omega (arith, a, b, c)

    here : x.node u ≡ after (w.node u) d
    here = taken_here g u j m ms d w

    others : ℕ
    others = sum_below (degree (after (w.node u) d)) (other_basic (after (w.node u) d) q)

    others_are : sum_below (degree (x.node u)) (other_basic (x.node u) q) ≡ others
    unfolding others
    others_are = ap (λ (n : NodeState). sum_below (degree n) (other_basic n q)) here

    -- where the probe has moved on, the next one costs less
    pub moved_owes : MovesOn (w.node u) j d q → suc (bill g x u q) ≤ bill g w u j
    unfolding others
    moved_owes on =
        let a = others_are in let b = any_most (asked g x u q) in let c = moved_costs (w.node u) j m d is lt row q on in omega (arith, a, b, c)

    -- the same probe costs no more; or the message came on the probe's port, and the next one costs less
    pub taker_owes : ((w.node u).head.probe ≡ Some q) × (bill g x u q ≤ bill g w u q) ⊎ ((w.node u).head.probe ≡ Some j) ×
        (suc (bill g x u q) ≤ bill g w u j)
    unfolding others
    taker_owes = by_costs (row_costs (w.node u) j m d is lt row q probes level).remains (row_calm (w.node u) j m d lt row q probes level)
      where
        less : (n : NodeState) (p : ℕ) → ((w.node u).head.probe ≡ Some j) → suc (remaining (after (w.node u) d) q) ≤ remaining (w.node u) j →
            ((w.node u).head.probe ≡ Some q) × (bill g x u q ≤ bill g w u q) ⊎ ((w.node u).head.probe ≡ Some j) × (suc (bill g x u q) ≤ bill g w u j)
        less n p e le = inr (e, (let a = others_are in let b = any_most (asked g x u q) in omega (arith, le, a, b)))

        by_costs : ((w.node u).head.probe ≡ Some q) × (remaining (after (w.node u) d) q ≤ remaining (w.node u) q) ⊎
            ((w.node u).head.probe ≡ Some j) × (suc (remaining (after (w.node u) d) q) ≤ remaining (w.node u) j) →
            NoTests (messages d.sends) ⊎ MovesOn (w.node u) j d q →
            ((w.node u).head.probe ≡ Some q) × (bill g x u q ≤ bill g w u q) ⊎ ((w.node u).head.probe ≡ Some j) × (suc (bill g x u q) ≤ bill g w u j)
        by_costs (inr z) c = less (w.node u) j z.0 z.1
        by_costs (inl z) (inl calm) =
            inl (z.0, (let a = others_are in let b = ap any (none_new calm) in let le = z.1 in omega (arith, a, b, le)))
        by_costs (inl z) (inr on) =
            inr (
              on.was,
              (let a = others_are in let b = any_most (asked g x u q) in
                  let c = moved_less on in omega (arith, a, b, c)),
            )
          where
            moved_less : MovesOn (w.node u) j d q → suc (remaining (after (w.node u) d) q) ≤ remaining (w.node u) j
            moved_less on = moved_costs (w.node u) j m d is lt row q on

  -- at another node: what stands at the far end of its port is no more
  module _ (v p : ℕ) (at_p : At g v p) (ne : v ≢ u) where
    kept_queue : x.queue (far g v p) (far_port g v p) ≡ (take_first d.fate u j m ms w).queue (far g v p) (far_port g v p)
    kept_queue = queue_kept g u (far g v p) (far_port g v p) d.sends (change u d (take_first d.fate u j m ms w))
        (λ i e h. ne (sym (wired.back v p at_p) ∙ neighbour g wired u i (far g v p) (far_port g v p) at_j.some at_j.node (wired.there v p at_p) e h))

    same_node : x.node v ≡ w.node v
    same_node = taken_there g u j m ms d w v ne

    module _ (first : w.queue u j ≡ m ∷ ms) where
      left_fewer : (f : Fate) → of_kind 2 (left_of f m ms) ≤ of_kind 2 (m ∷ ms)
      left_fewer Consumed = omega arith
      left_fewer Requeued = let a = of_kind_append 2 ms (m ∷ []) in omega (arith, a)

      asked_fewer : asked g x v p ≤ asked g w v p
      asked_fewer =
          ⊎_elim
          (λ (z : (far g v p ≡ u) × (far_port g v p ≡ j)).
          let a = ap (λ (l : List Message). of_kind 2 l) (kept_queue ∙ put_at_hit w.queue u j (far g v p) (far_port g v p)
          (left_of d.fate m ms) z.0 z.1) in
          let b = ap (λ (l : List Message). of_kind 2 l) (ap₂ w.queue z.0 z.1 ∙ first) in
          let c = left_fewer d.fate in
          omega (arith, a, b, c))
          (λ miss.
          let a = ap (λ (l : List Message). of_kind 2 l) (kept_queue ∙ put_at_miss w.queue u j (far g v p) (far_port g v p)
          (left_of d.fate m ms) miss) in
          omega (arith, a))
          (one_place u j (far g v p) (far_port g v p))

      same_others : sum_below (degree (x.node v)) (other_basic (x.node v) p) ≡ sum_below (degree (w.node v)) (other_basic (w.node v) p)
      same_others = ap (λ (n : NodeState). sum_below (degree n) (other_basic n p)) same_node

      -- its bill doesn't rise
      pub other_owes : bill g x v p ≤ bill g w v p
      other_owes = let a = any_grows _ _ asked_fewer in let b = same_others in omega (arith, a, b)

      -- and falls where the one Test at the far end was consumed
      pub test_taken : far g v p ≡ u → far_port g v p ≡ j → d.fate ≡ Consumed → of_kind 2 (m ∷ []) ≡ 1 → asked g w v p ≤ 1 → suc
          (bill g x v p) ≤ bill g w v p
      test_taken e h fate one most =
          let a = ap (λ (l : List Message). of_kind 2 l) (kept_queue ∙ put_at_hit w.queue u j (far g v p) (far_port g v p) (left_of d.fate m ms) e h
          ∙ ap (λ f. left_of f m ms) fate) in
          let b = ap (λ (l : List Message). of_kind 2 l) (ap₂ w.queue e h ∙ first) in
          let c = same_others in
          let n : asked g x v p ≡ 0 = omega (arith, a, b, one, most) in
          let k : asked g w v p ≡ 1 = omega (arith, a, b, one, most) in
          let y = ap any n in let z = ap any k in
          omega (arith, c, y, z)
