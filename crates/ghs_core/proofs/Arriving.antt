-- What comes in at a port of what one node sends.
use Rattle.std.proofs.Common.{◌≡◌, ◌≢◌, ℕ, ◌+◌, ◌≤◌, true, false, ◌==◌, [], ◌∷◌, ◌++◌, refl, sym, ◌∙◌, ap, ap₂, cond, ⊎_elim, eq-eqb, ne_eqb, arith, append-nil, append_assoc}
use Rattle.std.proofs.lemmas.Bool.{cases_eq}
use Rattle.ghs_node.specs.declared.message.Message.{Message}
use Rattle.ghs_node.specs.Kind.{kind_of, place_of}
use Rattle.ghs_node.specs.Words.{Outgoing}
use Rattle.peer_network.specs.Network.{Network, At, far, far_port}
use Rattle.peer_network.proofs.lemmas.Wired.{IsWired}
use Rattle.ghs_protocol.specs.Net.{Net, send_all}
use Rattle.ghs_protocol.specs.Ledger.{of_kind}
use Rattle.ghs_protocol.specs.Steps.{sent_on}
use Rattle.ghs_protocol.proofs.lemmas.Pushes.{sent_cons}
use Rattle.ghs_protocol.proofs.lemmas.Sends.{queue_sent, queue_kept}
use Rattle.peer_network.proofs.lemmas.Wires.{neighbour}
use Rattle.ghs_core.specs.Dispatch.{arriving, messages_of}

-- one message more, at the end
pub sent_on_push : (ss : Outgoing) (s : ℕ × Message) (i : ℕ) → sent_on (ss ++ s ∷ []) i ≡ sent_on ss i ++ sent_on (s ∷ []) i
sent_on_push [] s i = refl
sent_on_push (t ∷ ss) s i =
    sent_cons t (ss ++ s ∷ []) i ∙ ap (λ ms. sent_on (t ∷ []) i ++ ms) (sent_on_push ss s i) ∙
    sym (append_assoc (sent_on (t ∷ []) i) (sent_on ss i) (sent_on (s ∷ []) i)) ∙
    ap (λ ms. ms ++ sent_on (s ∷ []) i) (sym (sent_cons t ss i))

pub kinds_push : (k : ℕ) (ss : Outgoing) (s : ℕ × Message) →
    of_kind k (messages_of (ss ++ s ∷ [])) ≡ of_kind k (messages_of ss) + cond (place_of (kind_of s.1) == k) 1 0
kinds_push k [] s = omega arith
kinds_push k (t ∷ ss) s = let rest = kinds_push k ss s in omega (arith, rest)

module _ (g : Network) (v : ℕ) where
  pub arriving_push : (ss : Outgoing) (s : ℕ × Message) (u r : ℕ) → arriving g v (ss ++ s ∷ []) u r ≡ arriving g v ss u r ++ arriving g v (s ∷ []) u r
  arriving_push ss s u r =
      elim (far g u r == v) as (λ b.
      cond b (sent_on (ss ++ s ∷ []) (far_port g u r)) [] ≡
      cond b (sent_on ss (far_port g u r)) [] ++ cond b (sent_on (s ∷ []) (far_port g u r)) [])
      [ true ↦ sent_on_push ss s (far_port g u r) | false ↦ refl ]

  module _ (wired : IsWired g) where
    -- a message arrives at the far end of the port it goes out on, and nowhere else
    pub one_arrives : (s : ℕ × Message) → At g v s.0 → arriving g v (s ∷ []) (far g v s.0) (far_port g v s.0) ≡ s.1 ∷ []
    one_arrives s at = rw (eq-eqb _ _ (wired.back v s.0 at), wired.back_port v s.0 at, eq-eqb s.0 s.0 refl) refl

    pub one_misses : (s : ℕ × Message) (u r : ℕ) →
        At g v s.0 →
        At g u r →
        ((u ≡ far g v s.0) × (r ≡ far_port g v s.0) → ⊥) →
        arriving g v (s ∷ []) u r ≡ []
    one_misses s u r at here apart = ⊎_elim
        (λ (e : far g u r ≡ v). rw (eq-eqb _ _ e) (⊎_elim
        (λ (h : s.0 ≡ far_port g u r).
        absurd (apart (sym (wired.back u r here) ∙ ap₂ (far g) e (sym h), sym (wired.back_port u r here) ∙ ap₂ (far_port g) e (sym h))))
        (λ (ne : s.0 ≢ far_port g u r). rw (ne_eqb s.0 (far_port g u r) ne) refl) (cases_eq s.0 (far_port g u r))))
        (λ (ne : far g u r ≢ v). rw (ne_eqb (far g u r) v ne) refl) (cases_eq (far g u r) v)

    -- the machine's sends arrive so
    pub machine_arrives : (ss : Outgoing) (w : Net) (u r : ℕ) →
        1 ≤ v →
        v ≤ g.count →
        At g u r →
        (send_all g v ss w).queue u r ≡ w.queue u r ++ arriving g v ss u r
    machine_arrives ss w u r lo hi at = ⊎_elim near away (cases_eq (far g u r) v)
      where
        near : far g u r ≡ v → (send_all g v ss w).queue u r ≡ w.queue u r ++ arriving g v ss u r
        near e =
            let i = far_port g u r in
            let there : At g v i = rw e at (wired.there u r at) in
            let far_is : far g v i ≡ u = ap (λ x. far g x i) (sym e) ∙ wired.back u r at in
            let port_is : far_port g v i ≡ r = ap (λ x. far_port g x i) (sym e) ∙ wired.back_port u r at in
            let same : (send_all g v ss w).queue (far g v i) (far_port g v i) ≡ w.queue (far g v i) (far_port g v i) ++ sent_on ss i =
            queue_sent g v wired i ss w there in
            rw (eq-eqb _ _ e) (rw (far_is, port_is) at same)

        away : far g u r ≢ v → (send_all g v ss w).queue u r ≡ w.queue u r ++ arriving g v ss u r
        away ne = rw (ne_eqb _ _ ne) (queue_kept g v u r ss w (λ i e h. ne (neighbour g wired v i u r lo hi at e h)) ∙ sym (append-nil _))
