-- What a reaction's sends leave in each queue.
use Rattle.std.proofs.Common.{◌≡◌, ◌≢◌, ℕ, ◌==◌, List, [], ◌∷◌, ◌++◌, refl, sym, ◌∙◌, ap, cond, ⊎_elim, eq-eqb, ne_eqb, append_assoc, append-nil}
use Rattle.std.proofs.lemmas.Bool.{cases_eq}
use Rattle.peer_network.specs.Network.{Network, At, far, far_port}
use Rattle.peer_network.proofs.lemmas.Wired.{IsWired}
use Rattle.peer_network.proofs.lemmas.Wires.{far_apart, no_loop}
use Rattle.peer_network.proofs.lemmas.Updates.{put_at_same, put_at_miss}
use Rattle.peer_machine.specs.Rules.{Rules, Outcome, Outgoing}
use Rattle.peer_machine.specs.Net.{Net, put, send, send_all, reacted}
use Rattle.peer_machine.proofs.lemmas.Sends.{queue_kept}

-- the messages that go out on a port, in order
abbrev pub sent_on : {M : Type 0} → Outgoing M → ℕ → List M
sent_on [] i = []
sent_on (s ∷ ss) i = cond (s.0 == i) (s.1 ∷ sent_on ss i) (sent_on ss i)

module _ {M : Type 0} where
  pub sent_here : (s : ℕ × M) (ss : Outgoing M) (i : ℕ) → s.0 ≡ i → sent_on (s ∷ ss) i ≡ s.1 ∷ sent_on ss i
  sent_here s ss i e = rw (e, eq-eqb i i refl) refl

  pub sent_elsewhere : (s : ℕ × M) (ss : Outgoing M) (i : ℕ) → s.0 ≢ i → sent_on (s ∷ ss) i ≡ sent_on ss i
  sent_elsewhere s ss i ne = rw (ne_eqb s.0 i ne) refl

  pub sent_append : (a b : Outgoing M) (i : ℕ) → sent_on (a ++ b) i ≡ sent_on a i ++ sent_on b i
  sent_append [] b i = refl
  sent_append (s ∷ a) b i = ⊎_elim
      (λ e. sent_here s (a ++ b) i e ∙ ap (λ x. s.1 ∷ x) (sent_append a b i) ∙ sym (ap (λ x. x ++ sent_on b i) (sent_here s a i e)))
      (λ ne. sent_elsewhere s (a ++ b) i ne ∙ sent_append a b i ∙ sym (ap (λ x. x ++ sent_on b i) (sent_elsewhere s a i ne)))
      (cases_eq s.0 i)

  -- one message that is sent on port p: behind what waits at its far end, and nothing elsewhere
  pub sent_one : (q : List M) (p : ℕ) (m : M) → q ++ m ∷ [] ≡ q ++ sent_on ((p, m) ∷ []) p
  sent_one q p m = ap (λ (x : List M). q ++ x) (sym (sent_here (p, m) [] p refl))

  pub sent_none : (q : List M) (p : ℕ) (m : M) (i : ℕ) → i ≢ p → q ≡ q ++ sent_on ((p, m) ∷ []) i
  sent_none q p m i ne = sym (append-nil q) ∙ ap (λ (x : List M). q ++ x) (sym (sent_elsewhere (p, m) [] i (λ e. ne (sym e))))

module _ {S M : Type 0} (r : Rules S M) (g : Network) (wired : IsWired g) (v : ℕ) where
  one_sent : (i : ℕ) (s : ℕ × M) (w : Net S M) → At g v i →
      (send r g v w s).queue (far g v i) (far_port g v i) ≡ w.queue (far g v i) (far_port g v i) ++ sent_on (s ∷ []) i
  one_sent i s w at = ⊎_elim same other (cases_eq s.0 i)
    where
      same : s.0 ≡ i → (send r g v w s).queue (far g v i) (far_port g v i) ≡ w.queue (far g v i) (far_port g v i) ++ sent_on (s ∷ []) i
      same e = rw (e, eq-eqb i i refl) (put_at_same w.queue (far g v i) (far_port g v i) _)

      other : s.0 ≢ i → (send r g v w s).queue (far g v i) (far_port g v i) ≡ w.queue (far g v i) (far_port g v i) ++ sent_on (s ∷ []) i
      other ne =
          put_at_miss w.queue (far g v s.0) (far_port g v s.0) _ _ _ (λ e. far_apart g wired v i s.0 at ne (e.0, e.1))
          ∙ sym (ap (λ x. w.queue (far g v i) (far_port g v i) ++ x) (sent_elsewhere s [] i ne) ∙ append-nil _)

  -- at the far end of port i waits in addition what went out on it
  pub queue_sent : (i : ℕ) (ss : Outgoing M) (w : Net S M) → At g v i →
      (send_all r g v ss w).queue (far g v i) (far_port g v i) ≡ w.queue (far g v i) (far_port g v i) ++ sent_on ss i
  queue_sent i [] w at = sym (append-nil _)
  queue_sent i (s ∷ ss) w at =
      queue_sent i ss (send r g v w s) at
      ∙ ap (λ x. x ++ sent_on ss i) (one_sent i s w at)
      ∙ append_assoc (w.queue (far g v i) (far_port g v i)) (sent_on (s ∷ []) i) (sent_on ss i)
      ∙ ap (λ x. w.queue (far g v i) (far_port g v i) ++ x) (sym (sent_append (s ∷ []) ss i))

  -- a reaction's queues: at the far end of port i, and at a node that isn't one
  pub queue_there : (o : Outcome S M) (w : Net S M) (i : ℕ) → At g v i →
      (reacted r g v o w).queue (far g v i) (far_port g v i) ≡ w.queue (far g v i) (far_port g v i) ++ sent_on o.sends i
  queue_there o w i at = queue_sent i o.sends (record w { node = put w.node v o.state }) at

  -- no message goes to the node itself
  pub queue_here : (o : Outcome S M) (w : Net S M) (i : ℕ) → At g v i → (reacted r g v o w).queue v i ≡ w.queue v i
  queue_here o w i at =
      queue_kept r g v v i o.sends (record w { node = put w.node v o.state }) (λ j e h. no_loop g wired v j at.some at.node e)
