-- What sends change, and what they leave.
use Rattle.std.proofs.Common.{◌≡◌, ◌≢◌, ℕ, suc, ◌+◌, Bool, cond, List, [], ◌∷◌, ◌++◌, refl, sym, ◌∙◌, ap, ⊎_elim, add-zero, arith, append-nil, append_assoc}
use Rattle.peer_network.specs.Network.{Network, far, far_port}
use Rattle.peer_network.proofs.lemmas.Updates.{put_count, put_same, put_other, put_at_hit, put_at_miss, one_place}
use Rattle.peer_machine.specs.Rules.{Rules, Outcome, Outgoing, messages}
use Rattle.peer_machine.specs.Net.{Net, left_of, put, put_at, send, send_all, reacted}
use Rattle.peer_machine.specs.Ledger.{of_kind}

-- what take_first makes, where it is known whether the message is deferred
abbrev pub taken_if : {S M : Type 0} → Rules S M → Bool → ℕ → ℕ → M → List M → Net S M → Net S M
taken_if r later v p m ms w = record w {
  queue = put_at w.queue v p (left_of later m ms);
  consumed = cond later w.consumed (put w.consumed (r.kind_of m) (suc (w.consumed (r.kind_of m))));
  deferred = cond later (suc w.deferred) w.deferred;
}

module _ {S M : Type 0} (r : Rules S M) (g : Network) (v : ℕ) where
  -- sends touch no node, nor the counts of what was consumed and deferred
  pub node_sent : (ss : Outgoing M) (w : Net S M) → (send_all r g v ss w).node ≡ w.node
  node_sent [] w = refl
  node_sent (s ∷ ss) w = node_sent ss (send r g v w s)

  pub consumed_sent : (ss : Outgoing M) (w : Net S M) → (send_all r g v ss w).consumed ≡ w.consumed
  consumed_sent [] w = refl
  consumed_sent (s ∷ ss) w = consumed_sent ss (send r g v w s)

  pub deferred_sent : (ss : Outgoing M) (w : Net S M) → (send_all r g v ss w).deferred ≡ w.deferred
  deferred_sent [] w = refl
  deferred_sent (s ∷ ss) w = deferred_sent ss (send r g v w s)

  -- each send counts once
  pub count_sent : (ss : Outgoing M) (w : Net S M) (k : ℕ) → (send_all r g v ss w).sent k ≡ w.sent k + of_kind r k (messages ss)
  count_sent [] w k = sym (add-zero _)
  count_sent (s ∷ ss) w k =
      let one = put_count w.sent (r.kind_of s.1) 1 (suc (w.sent (r.kind_of s.1))) k (omega arith) in
      let rest = count_sent ss (send r g v w s) k in
      omega (arith, one, rest)

  -- the queues to which no port of v leads are as they were
  pub queue_kept : (a b : ℕ) (ss : Outgoing M) (w : Net S M) → ((i : ℕ) → far g v i ≡ a → far_port g v i ≡ b → ⊥) →
      (send_all r g v ss w).queue a b ≡ w.queue a b
  queue_kept a b [] w away = refl
  queue_kept a b (s ∷ ss) w away =
      queue_kept a b ss (send r g v w s) away ∙ put_at_miss w.queue _ _ a b _ (λ e. away s.0 (sym e.0) (sym e.1))

  -- each queue is as it was, with something behind it
  pub queue_grows : (a b : ℕ) (ss : Outgoing M) (w : Net S M) → (ms : List M) × ((send_all r g v ss w).queue a b ≡ w.queue a b ++ ms)
  queue_grows a b [] w = ([], sym (append-nil _))
  queue_grows a b (s ∷ ss) w = let rest = queue_grows a b ss (send r g v w s) in ⊎_elim (here rest) (there rest) (one_place _ _ a b)
    where
      here : (ms : List M) × ((send_all r g v ss (send r g v w s)).queue a b ≡ (send r g v w s).queue a b ++ ms) →
          (a ≡ far g v s.0) × (b ≡ far_port g v s.0) →
          (ms : List M) × ((send_all r g v ss (send r g v w s)).queue a b ≡ w.queue a b ++ ms)
      here rest e = (
        s.1 ∷ rest.0,
        rest.1 ∙ ap (λ q. q ++ rest.0) (put_at_hit w.queue _ _ a b _ e.0 e.1) ∙ append_assoc _ (s.1 ∷ []) rest.0
            ∙ ap (λ (q : List M). q ++ s.1 ∷ rest.0) (rw (e.0, e.1) refl),
      )

      there : (ms : List M) × ((send_all r g v ss (send r g v w s)).queue a b ≡ (send r g v w s).queue a b ++ ms) →
          ((a ≡ far g v s.0) × (b ≡ far_port g v s.0) → ⊥) →
          (ms : List M) × ((send_all r g v ss (send r g v w s)).queue a b ≡ w.queue a b ++ ms)
      there rest ne = (rest.0, rest.1 ∙ ap (λ q. q ++ rest.0) (put_at_miss w.queue _ _ a b _ ne))

-- A reaction of node v: what it leaves at v, at its neighbours and elsewhere.
module _ {S M : Type 0} (r : Rules S M) (g : Network) (v : ℕ) (o : Outcome S M) (w : Net S M) where
  pub nodes_put : (reacted r g v o w).node ≡ put w.node v o.state
  nodes_put = node_sent r g v o.sends (record w { node = put w.node v o.state })

  pub node_here : (reacted r g v o w).node v ≡ o.state
  node_here = ap (λ (f : ℕ → S). f v) nodes_put ∙ put_same w.node v o.state

  pub node_there : (u : ℕ) → u ≢ v → (reacted r g v o w).node u ≡ w.node u
  node_there u ne = ap (λ (f : ℕ → S). f u) nodes_put ∙ put_other w.node v u _ ne

  pub sent_now : (k : ℕ) → (reacted r g v o w).sent k ≡ w.sent k + of_kind r k (messages o.sends)
  sent_now k = count_sent r g v o.sends (record w { node = put w.node v o.state }) k

  pub consumed_now : (reacted r g v o w).consumed ≡ w.consumed
  consumed_now = consumed_sent r g v o.sends (record w { node = put w.node v o.state })

  pub deferred_now : (reacted r g v o w).deferred ≡ w.deferred
  deferred_now = deferred_sent r g v o.sends (record w { node = put w.node v o.state })
