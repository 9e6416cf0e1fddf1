-- The messages that wait at each port, event by event.
use Rattle.std.proofs.Common.{◌≡◌, ℕ, zero, suc, ◌+◌, ◌-◌, ◌<◌, ◌≤◌, Bool, true, false, List, [], ◌∷◌, ◌++◌, replicate, refl, sym, ◌∙◌, ap, ⊎_elim, arith, append-nil, append_assoc, ltb-true}
use Rattle.std.proofs.lemmas.Bool.{and_parts}
use Rattle.std.proofs.lemmas.List.{replicate_more}
use Rattle.peer_network.specs.declared.event.Event.{Event}
use Rattle.peer_network.specs.declared.event.Event.TheVariants.{Wake, Take}
use Rattle.peer_network.specs.Network.{At, Network, far, far_port}
use Rattle.peer_network.specs.Events.{event_node}
use Rattle.peer_network.specs.Updates.{put_at}
use Rattle.peer_network.proofs.lemmas.Updates.{one_place, put_at_hit, put_at_miss, put_same}
use Rattle.peer_network.proofs.lemmas.Wired.{IsWired}
use Rattle.peer_chains.specs.Chains.{Chains, hears, sent, sent_on, taken}
use Rattle.peer_chains.proofs.lemmas.Bounding.{put_node}
use Rattle.peer_machine.specs.Rules.{Rules, Outgoing}
use Rattle.peer_machine.specs.Net.{are_on_ports}
use Rattle.peer_picking.specs.Kept.{AreCounted}

-- one message of a port is taken
abbrev pub took : Event → (ℕ → ℕ → ℕ) → ℕ → ℕ → ℕ
took (Wake v) a = a
took (Take v p) a = put_at a v p (a v p - 1)

-- a message more at the far end of each port on which one is sent
abbrev pub adds : {M : Type 0} → Network → ℕ → Outgoing M → (ℕ → ℕ → ℕ) → ℕ → ℕ → ℕ
adds g v [] b = b
adds g v (s ∷ ss) b = adds g v ss (put_at b (far g v s.0) (far_port g v s.0) (suc (b (far g v s.0) (far_port g v s.0))))

-- the event is of round n: a wake in round 0, or a message of the round waits at its port
abbrev pub IsTimely : Network → ℕ → (ℕ → ℕ → ℕ) → Event → Type 0
IsTimely g n a (Wake v) = n ≡ 0
IsTimely g n a (Take v p) = At g v p × 0 < a v p

-- the first message of a port is taken
front_of : (n m a b : ℕ) (l : List ℕ) → l ≡ replicate a n ++ replicate b m → 0 < a → l ≡ n ∷ (replicate (a - 1) n ++ replicate b m)
front_of n m zero b l is some = absurd (omega (arith, some))
front_of n m (suc k) b l is some = let less : suc k - 1 ≡ k = omega arith in rw less is

module _ (g : Network) (n : ℕ) where
  -- where the numbers are the same on all ports
  pub counted_same : (c : Chains) (a b x y : ℕ → ℕ → ℕ) → ((v p : ℕ) → At g v p → x v p ≡ a v p) → ((v p : ℕ) → At g v p → y v p ≡ b v p) →
      AreCounted g c n a b → AreCounted g c n x y
  counted_same c a b x y one two h = record {
    node = h.node;
    queue = λ v p at. rw (one v p at, two v p at) (h.queue v p at);
  }

  -- a message of the round is taken: a chain of as many messages as rounds has led to its node
  counted_taken : (v p : ℕ) (asleep : Bool) (c : Chains) (a b : ℕ → ℕ → ℕ) → At g v p → 0 < a v p → AreCounted g c n a b →
      AreCounted g (hears (Take v p) asleep false c) n (took (Take v p) a) b × ((hears (Take v p) asleep false c).node v ≡ n)
  counted_taken v p asleep c a b at some h =
      let rest = replicate (a v p - 1) n ++ replicate (b v p) (suc n) in
      let front : c.queue v p ≡ n ∷ rest = front_of n (suc n) (a v p) (b v p) (c.queue v p) (h.queue v p at) some in
      let is : hears (Take v p) asleep false c ≡ taken v p asleep false (n ∷ rest) c = ap (λ (l : List ℕ). taken v p asleep false l c) front in
      rw is (
        record {
          node = put_node n c.node v _ h.node (let le = h.node v in omega (arith, le));
          queue = queue;
        },
        put_same c.node v _ ∙ (let le = h.node v in omega (arith, le)),
      )
    where
      queue : (u q : ℕ) → At g u q →
          put_at c.queue v p (replicate (a v p - 1) n ++ replicate (b v p) (suc n)) u q ≡
          replicate (put_at a v p (a v p - 1) u q) n ++ replicate (b u q) (suc n)
      queue u q there = ⊎_elim
          (λ (z : (u ≡ v) × (q ≡ p)).
          let one = put_at_hit c.queue v p u q (replicate (a v p - 1) n ++ replicate (b v p) (suc n)) z.0 z.1 in
          let two = put_at_hit a v p u q (a v p - 1) z.0 z.1 in
          rw (one, two) (rw (z.0, z.1) refl))
          (λ ne.
          let one = put_at_miss c.queue v p u q (replicate (a v p - 1) n ++ replicate (b v p) (suc n)) ne in
          let two = put_at_miss a v p u q (a v p - 1) ne in
          rw (one, two) (h.queue u q there))
          (one_place v p u q)

  -- a message more goes out, of the next round
  counted_out : (v p : ℕ) (c : Chains) (a b : ℕ → ℕ → ℕ) → At g (far g v p) (far_port g v p) → c.node v ≡ n → AreCounted g c n a b →
      AreCounted g (sent_on g v p c) n a (put_at b (far g v p) (far_port g v p) (suc (b (far g v p) (far_port g v p))))
  counted_out v p c a b at here h = record { node = h.node; queue = queue }
    where
      w : ℕ
      w = far g v p

      i : ℕ
      i = far_port g v p

      behind : c.queue w i ++ suc (c.node v) ∷ [] ≡ replicate (a w i) n ++ replicate (suc (b w i)) (suc n)
      behind =
          ap (λ (k : ℕ). c.queue w i ++ suc k ∷ []) here ∙ ap (λ (l : List ℕ). l ++ suc n ∷ []) (h.queue w i at)
          ∙ append_assoc (replicate (a w i) n) (replicate (b w i) (suc n)) (suc n ∷ [])
          ∙ ap (λ (l : List ℕ). replicate (a w i) n ++ l)
          (replicate_more (b w i) (suc n) ∙ (let more : b w i + 1 ≡ suc (b w i) = omega arith in ap (λ (k : ℕ). replicate k (suc n)) more))

      queue : (u q : ℕ) → At g u q →
          put_at c.queue w i (c.queue w i ++ suc (c.node v) ∷ []) u q ≡ replicate (a u q) n ++ replicate (put_at b w i (suc (b w i)) u q) (suc n)
      queue u q there = ⊎_elim
          (λ (z : (u ≡ w) × (q ≡ i)).
          let one = put_at_hit c.queue w i u q (c.queue w i ++ suc (c.node v) ∷ []) z.0 z.1 in
          let two = put_at_hit b w i u q (suc (b w i)) z.0 z.1 in
          rw (one, two) (rw (z.0, z.1) behind))
          (λ ne.
          let one = put_at_miss c.queue w i u q (c.queue w i ++ suc (c.node v) ∷ []) ne in
          let two = put_at_miss b w i u q (suc (b w i)) ne in
          rw (one, two) (h.queue u q there))
          (one_place w i u q)

  -- the next round begins: none of this one is left
  pub counted_over : (c : Chains) (a b : ℕ → ℕ → ℕ) → ((v p : ℕ) → At g v p → a v p ≡ 0) → AreCounted g c n a b → AreCounted g c (suc n) b a
  counted_over c a b none h = record {
    node = λ v. let le = h.node v in omega (arith, le);
    queue = λ v p at.
        h.queue v p at ∙ ap (λ (k : ℕ). replicate k n ++ replicate (b v p) (suc n)) (none v p at)
        ∙ sym (ap (λ (k : ℕ). replicate (b v p) (suc n) ++ replicate k (suc (suc n))) (none v p at) ∙ append-nil (replicate (b v p) (suc n)));
  }

  module _ {S M : Type 0} (r : Rules S M) (wired : IsWired g) where
    counted_sent : (v : ℕ) (ss : Outgoing M) (c : Chains) (a b : ℕ → ℕ → ℕ) → 1 ≤ v → v ≤ g.count → are_on_ports r g v ss ≡ true → c.node v ≡ n →
        AreCounted g c n a b → AreCounted g (sent g v ss c) n a (adds g v ss b)
    counted_sent v [] c a b low high on here h = h
    counted_sent v (s ∷ ss) c a b low high on here h =
        let parts = and_parts _ _ on in
        let at : At g v s.0 = record { some = low; node = high; port = ltb-true s.0 _ parts.0 } in
        counted_sent v ss (sent_on g v s.0 c) a _ low high parts.1 here (counted_out v s.0 c a b (wired.there v s.0 at) here h)

    -- a node that hears of something sends on: each message ends a chain of one more
    sent_node : (v : ℕ) (ss : Outgoing M) (c : Chains) (u : ℕ) → (sent g v ss c).node u ≡ c.node u
    sent_node v [] c u = refl
    sent_node v (s ∷ ss) c u = sent_node v ss (sent_on g v s.0 c) u

    pub counted_then : (e : Event) (v : ℕ) (ss : Outgoing M) (asleep : Bool) (c : Chains) (a b : ℕ → ℕ → ℕ) → v ≡ event_node e →
        1 ≤ v → v ≤ g.count → are_on_ports r g v ss ≡ true → IsTimely g n a e → AreCounted g c n a b →
        AreCounted g (sent g v ss (hears e asleep false c)) n (took e a) (adds g v ss b) × ((sent g v ss (hears e asleep false c)).node v ≡ n)
    counted_then (Wake u) v ss asleep c a b is low high on first h =
        let here : c.node v ≡ n = (let le = h.node v in omega (arith, le, first)) in
        (counted_sent v ss c a b low high on here h, sent_node v ss c v ∙ here)
    counted_then (Take u p) v ss asleep c a b is low high on (at, some) h =
        let one = counted_taken u p asleep c a b at some h in
        let here : (hears (Take u p) asleep false c).node v ≡ n = ap (λ (k : ℕ). (hears (Take u p) asleep false c).node k) is ∙ one.1 in
        (counted_sent v ss (hears (Take u p) asleep false c) (took (Take u p) a) b low high on here one.0, sent_node v ss _ v ∙ here)
