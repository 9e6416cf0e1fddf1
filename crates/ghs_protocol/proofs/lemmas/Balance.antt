-- In every net of a run what was sent was consumed or waits.
use Rattle.std.proofs.Common.{◌≡◌, ℕ, zero, suc, ◌+◌, ◌==◌, Bool, true, false, List, [], ◌∷◌, ◌++◌, length, refl, sym, ◌∙◌, ap, cond, arith, Some}
use Rattle.std.specs.List.{All}
use Rattle.ghs_node.specs.declared.message.Message.{Message}
use Rattle.ghs_node.specs.declared.message.Message.TheVariants.{Connect, Initiate, Test, Accept, Reject, Report, ChangeRoot}
use Rattle.ghs_node.specs.declared.delta.Fate.{Fate}
use Rattle.ghs_node.specs.declared.delta.Fate.TheVariants.{Consumed, Requeued}
use Rattle.ghs_node.specs.declared.work.Work.TheVariants.{Wake, Deliver}
use Rattle.ghs_node.specs.Kind.{kind_of, place_of}
use Rattle.ghs_node.specs.Words.{Outgoing}
use Rattle.ghs_node.proofs.lemmas.{reaction_inverts}
use Rattle.peer_network.specs.declared.event.Event.{Event}
use Rattle.peer_network.specs.Network.{Network, far, far_port, At}
use Rattle.peer_network.proofs.lemmas.Wired.{IsWired, HasFewPorts}
use Rattle.ghs_protocol.specs.Net.{Net, opening, send, send_all, change, take_first, left_of, one_if_consumed, one_if_requeued}
use Rattle.peer_network.specs.Updates.{put_at}
use Rattle.ghs_protocol.specs.Run.{run, IsAfter}
use Rattle.ghs_protocol.specs.Ledger.{of_kind, waiting_of, waiting, IsBalanced, in_all, IsBalancedInAll}
use Rattle.peer_network.specs.Sums.{sum_below, sum_over_ports}
use Rattle.ghs_protocol.specs.Steps.{Happens, Woke, Took}
use Rattle.peer_network.proofs.lemmas.Updates.{put_at_same, put_at_miss, put_count}
use Rattle.peer_network.proofs.lemmas.Sums.{sum_same, sum_add, ports_one, ports_none, ports_same, ports_add}
use Rattle.ghs_protocol.proofs.lemmas.Queues.{all_first, all_rest}
use Rattle.ghs_protocol.proofs.lemmas.Runs.{run_keeps}
use Rattle.ghs_protocol.proofs.lemmas.WellFormed.{IsWellFormed, sends_arrive, event_row, event_formed, opening_formed}

pub of_kind_append : (k : ℕ) (a b : List Message) → of_kind k (a ++ b) ≡ of_kind k a + of_kind k b
of_kind_append k [] b = omega arith
of_kind_append k (m ∷ a) b = omega (arith, of_kind_append k a b)

pub none_or_none : (b : Bool) → ◌≡◌ {A = ℕ} (cond b 0 0) 0
none_or_none true = refl
none_or_none false = refl

-- a message is consumed or put back
pub one_fate : (f : Fate) → one_if_consumed f + one_if_requeued f ≡ 1
one_fate Consumed = refl
one_fate Requeued = refl

-- what is left, and what was consumed, are what was there
left_kind : (f : Fate) (k : ℕ) (m : Message) (ms : List Message) →
    of_kind k (m ∷ ms) ≡ of_kind k (left_of f m ms) + cond (place_of (kind_of m) == k) (one_if_consumed f) 0
left_kind Consumed k m ms = omega arith
left_kind Requeued k m ms = omega (arith, of_kind_append k ms (m ∷ []), none_or_none (place_of (kind_of m) == k))

module _ (g : Network) where
  -- one queue changes
  waiting_put : (w w' : Net) (v p k : ℕ) (x : List Message) → At g v p → w'.queue ≡ put_at w.queue v p x →
      waiting_of g w' k + of_kind k (w.queue v p) ≡ waiting_of g w k + of_kind k x
  waiting_put w w' v p k x at e =
      rw e
      (omega (
        arith,
        ports_one g (λ a b. of_kind k (w.queue a b)) (λ a b. of_kind k (put_at w.queue v p x a b)) v p at
            (λ a b ne. ap (of_kind k) (sym (put_at_miss w.queue v p a b x ne))),
        ap (of_kind k) (put_at_same w.queue v p x),
      ))

  balanced_send : (w : Net) (v : ℕ) (s : ℕ × Message) → At g (far g v s.0) (far_port g v s.0) → IsBalanced g w → IsBalanced g (send g v w s)
  balanced_send w v s at b k =
      let q = w.queue (far g v s.0) (far_port g v s.0) in
      omega (
        arith,
        put_count w.sent (place_of (kind_of s.1)) 1 (suc (w.sent (place_of (kind_of s.1)))) k (omega arith),
        waiting_put w (send g v w s) (far g v s.0) (far_port g v s.0) k (q ++ s.1 ∷ []) at refl,
        of_kind_append k q (s.1 ∷ []),
        b k,
      )

  pub balanced_sends : (v : ℕ) (ss : Outgoing) (w : Net) → All (λ (s : ℕ × Message). At g (far g v s.0) (far_port g v s.0)) ss →
      IsBalanced g w → IsBalanced g (send_all g v ss w)
  balanced_sends v [] w to b = b
  balanced_sends v (s ∷ ss) w to b =
      let P : ℕ × Message → Type 0 = λ x. At g (far g v x.0) (far_port g v x.0) in
      balanced_sends v ss (send g v w s) (all_rest P s ss to) (balanced_send w v s (all_first P s ss to) b)

  pub balanced_take : (f : Fate) (v p : ℕ) (m : Message) (ms : List Message) (w : Net) → At g v p → w.queue v p ≡ m ∷ ms → IsBalanced g w →
      IsBalanced g (take_first f v p m ms w)
  balanced_take f v p m ms w at q b k =
      omega (
        arith,
        put_count w.consumed (place_of (kind_of m)) (one_if_consumed f) _ k refl,
        waiting_put w (take_first f v p m ms w) v p k (left_of f m ms) at refl,
        left_kind f k m ms,
        ap (of_kind k) q,
        b k,
      )

  opening_balanced : IsBalanced g (opening g)
  opening_balanced k = omega (arith, ports_none g (λ v p. 0) (λ v p. refl))

  module _ (wired : IsWired g) where
    pub event_balanced : (w w' : Net) (e : Event) → IsWellFormed g w → IsBalanced g w → Happens g w e w' → IsBalanced g w'
    event_balanced w _ _ f b (Woke v d lo hi s r) =
        balanced_sends v d.sends (change v d w)
        (sends_arrive g wired v (w.node v) Wake d lo hi (f.nodes v) (reaction_inverts (w.node v) Wake d tt r)) b
    event_balanced w _ _ f b (Took v p m ms d at q r) =
        balanced_sends v d.sends (change v d (take_first d.fate v p m ms w))
        (sends_arrive g wired v (w.node v) (Deliver p m) d at.some at.node (f.nodes v) (event_row g wired v (w.node v) p m d at (f.nodes v) r))
        (balanced_take d.fate v p m ms w at q b)

    pub run_balanced : (es : List Event) (w w' : Net) → IsWellFormed g w → IsBalanced g w → run g es w ≡ Some w' → IsBalanced g w'
    run_balanced es w w' f b h =
        (run_keeps g (λ x. IsWellFormed g x × IsBalanced g x)
        (λ x y e i t. (event_formed g wired x y e i.0 t, event_balanced x y e i.0 i.1 t))
        es w w' (f, b) h).1

    pub after_balanced : HasFewPorts g → (es : List Event) (w : Net) → IsAfter g es w → IsBalanced g w
    after_balanced few es w h = run_balanced es (opening g) w (opening_formed g few) opening_balanced h

  -- sums in the other order
  sum_swap : (n : ℕ) (f : ℕ → ℕ → ℕ → ℕ) → sum_below n (λ k. sum_over_ports g (f k)) ≡ sum_over_ports g (λ v p. sum_below n (λ k. f k v p))
  sum_swap zero f = sym (ports_none g (λ v p. 0) (λ v p. refl))
  sum_swap (suc n) f = omega (arith, sum_swap n f, ports_add g (λ v p. sum_below n (λ k. f k v p)) (f n))

one_kind : (m : Message) → in_all (λ k. cond (place_of (kind_of m) == k) 1 0) ≡ 1
one_kind (Connect l) = refl
one_kind (Initiate l f s) = refl
one_kind (Test l f) = refl
one_kind Accept = refl
one_kind Reject = refl
one_kind (Report w) = refl
one_kind ChangeRoot = refl

-- each message has one kind
pub kinds_in_all : (ms : List Message) → in_all (λ k. of_kind k ms) ≡ length ms
kinds_in_all [] = refl
kinds_in_all (m ∷ ms) = omega (arith, sum_add 7 (λ k. cond (place_of (kind_of m) == k) 1 0) (λ k. of_kind k ms), one_kind m, kinds_in_all ms)

-- what balances of each kind, balances in all
pub balanced_in_all : (g : Network) (w : Net) → IsBalanced g w → IsBalancedInAll g w
balanced_in_all g w b =
    let kinds : in_all (waiting_of g w) ≡ waiting g w =
    sum_swap g 7 (λ k v p. of_kind k (w.queue v p)) ∙ ports_same g _ _ (λ v p at. kinds_in_all (w.queue v p)) in
    let each : in_all w.sent ≡ in_all (λ k. w.consumed k + waiting_of g w k) = sum_same 7 _ _ (λ k lt. b k) in
    let both : in_all (λ k. w.consumed k + waiting_of g w k) ≡ in_all w.consumed + in_all (waiting_of g w) = sum_add 7 w.consumed (waiting_of g w) in
    omega (arith, kinds, each, both)
