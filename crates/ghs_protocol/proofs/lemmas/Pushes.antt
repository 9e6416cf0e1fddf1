-- What is pushed where.
use Rattle.std.proofs.Common.{◌≡◌, ◌≢◌, ℕ, Bool, true, false, ◌==◌, List, [], ◌∷◌, ◌++◌, refl, sym, ◌∙◌, ap, cond, ⊎_elim, eq-eqb, ne_eqb, append_assoc, append-nil}
use Rattle.std.proofs.lemmas.Bool.{cases_eq}
use Rattle.ghs_node.specs.declared.message.Message.{Message}
use Rattle.ghs_node.specs.Words.{Outgoing}
use Rattle.peer_network.specs.Network.{Network, far, far_port, At}
use Rattle.peer_network.proofs.lemmas.Wired.{IsWired}
use Rattle.ghs_protocol.specs.Steps.{sent_on}
use Rattle.ghs_protocol.proofs.clauses.Acts.{add_all, at_end, push, push_all}
use Rattle.peer_network.proofs.lemmas.Updates.{put_at_same, put_at_miss}
use Rattle.peer_network.proofs.lemmas.Wires.{far_apart}

pub sent_cons : (s : ℕ × Message) (ss : Outgoing) (i : ℕ) → sent_on (s ∷ ss) i ≡ sent_on (s ∷ []) i ++ sent_on ss i
sent_cons s ss i = go (s.0 == i)
  where
    go : (b : Bool) → cond b (s.1 ∷ sent_on ss i) (sent_on ss i) ≡ cond b (s.1 ∷ []) [] ++ sent_on ss i
    go true = refl
    go false = refl

-- at the end of a list, they are appended
pub add_all_end : (q ms : List Message) → add_all at_end q ms ≡ q ++ ms
add_all_end q [] = sym (append-nil _)
add_all_end q (m ∷ ms) = add_all_end (q ++ m ∷ []) ms ∙ append_assoc q (m ∷ []) ms

module _ {Q : Type 0} (add : Q → Message → Q) where
  pub add_all_append : (q : Q) (a b : List Message) → add_all add (add_all add q a) b ≡ add_all add q (a ++ b)
  add_all_append q [] b = refl
  add_all_append q (m ∷ a) b = add_all_append (add q m) a b

  module _ (g : Network) where
    -- the queues to which no port of v leads are as they were
    pub unpushed : (v a b : ℕ) (ss : Outgoing) (q : ℕ → ℕ → Q) →
        ((i : ℕ) → far g v i ≡ a → far_port g v i ≡ b → ⊥) →
        push_all add g v ss q a b ≡ q a b
    unpushed v a b [] q away = refl
    unpushed v a b (s ∷ ss) q away = unpushed v a b ss (push add g v q s) away ∙ put_at_miss q _ _ a b _ (λ e. away s.0 (sym e.0) (sym e.1))

    module _ (wired : IsWired g) where
      -- one send, as the far end of port i sees it
      pushed_one : (v i : ℕ) (q : ℕ → ℕ → Q) (s : ℕ × Message) → At g v i →
          push add g v q s (far g v i) (far_port g v i) ≡ add_all add (q (far g v i) (far_port g v i)) (sent_on (s ∷ []) i)
      pushed_one v i q s at = ⊎_elim same other (cases_eq s.0 i)
        where
          same : s.0 ≡ i → push add g v q s (far g v i) (far_port g v i) ≡ add_all add (q (far g v i) (far_port g v i)) (sent_on (s ∷ []) i)
          same e = rw (e, eq-eqb i i refl) (put_at_same q (far g v i) (far_port g v i) _)

          other : s.0 ≢ i → push add g v q s (far g v i) (far_port g v i) ≡ add_all add (q (far g v i) (far_port g v i)) (sent_on (s ∷ []) i)
          other ne = put_at_miss q (far g v s.0) (far_port g v s.0) _ _ _ (far_apart g wired v i s.0 at ne) ∙ sym (rw (ne_eqb s.0 i ne) refl)

      -- at the far end of port i waits in addition what went out on it
      pub pushed : (v i : ℕ) (ss : Outgoing) (q : ℕ → ℕ → Q) → At g v i →
          push_all add g v ss q (far g v i) (far_port g v i) ≡ add_all add (q (far g v i) (far_port g v i)) (sent_on ss i)
      pushed v i [] q at = refl
      pushed v i (s ∷ ss) q at =
          pushed v i ss (push add g v q s) at
          ∙ rw (pushed_one v i q s at) (add_all_append (q (far g v i) (far_port g v i)) (sent_on (s ∷ []) i) (sent_on ss i))
          ∙ ap (add_all add (q (far g v i) (far_port g v i))) (sym (sent_cons s ss i))
