-- What waits at a port stays there until it is taken, and a node that has an event is awake from then on.
use Rattle.std.proofs.Common.{◌≡◌, ◌≢◌, ℕ, Bool, true, List, [], ◌∷◌, ◌++◌, refl, sym, ◌∙◌, ap, subst₂, ◌⊎◌, inl, inr, ⊎_elim}
use Rattle.std.proofs.lemmas.Bool.{and_parts}
use Rattle.ghs_node.specs.declared.message.Message.{Message}
use Rattle.ghs_node.specs.declared.message.Phase.TheVariants.{Sleeping}
use Rattle.ghs_node.specs.declared.work.Work.TheVariants as works
use Rattle.ghs_node.specs.NodeState.{NodeState}
use Rattle.ghs_node.specs.Words.{Outgoing, is_sleeping}
use Rattle.ghs_node.proofs.lemmas.{reaction_inverts, row_awake, sleeping_is}
use Rattle.peer_network.specs.declared.event.Event.{Event}
use Rattle.peer_network.specs.declared.event.Event.TheVariants.{Wake, Take}
use Rattle.peer_network.specs.Events.{event_node}
use Rattle.peer_network.specs.Network.{Network, far, far_port, is_node}
use Rattle.peer_network.proofs.lemmas.Updates.{one_place, put_at_hit, put_at_miss}
use Rattle.peer_network.proofs.lemmas.Wired.{IsWired}
use Rattle.ghs_protocol.specs.Net.{Net, change, is_lawful, is_lawful_under, is_waiting, send, send_all, take_first}
use Rattle.ghs_protocol.specs.Steps.{Happens, Took, Woke}
use Rattle.ghs_protocol.proofs.lemmas.Effects.{taken_here}
use Rattle.ghs_protocol.proofs.lemmas.Lasting.{event_lasts}
use Rattle.ghs_protocol.proofs.lemmas.Sends.{node_here}
use Rattle.ghs_protocol.proofs.lemmas.WellFormed.{IsWellFormed, event_row}
use Rattle.ghs_protocol.proofs.lemmas.Woken.{asleep_or_not}

waiting_sent : (g : Network) (v : ℕ) (ss : Outgoing) (w : Net) (a b : ℕ) → is_waiting (w.queue a b) ≡ true →
    is_waiting ((send_all g v ss w).queue a b) ≡ true
waiting_sent g v [] w a b h = h
waiting_sent g v (s ∷ ss) w a b h =
    let to = far g v s.0 in
    let port = far_port g v s.0 in
    waiting_sent g v ss (send g v w s) a b
    (⊎_elim
    (λ e. ap is_waiting (put_at_hit w.queue to port a b (w.queue to port ++ s.1 ∷ []) e.0 e.1) ∙ sent_waits (w.queue to port))
    (λ ne. ap is_waiting (put_at_miss w.queue to port a b (w.queue to port ++ s.1 ∷ []) ne) ∙ h)
    (one_place to port a b))
  where
    sent_waits : (q : List Message) → is_waiting (q ++ s.1 ∷ []) ≡ true
    sent_waits [] = refl
    sent_waits (m ∷ q) = refl

-- an event takes from this queue, or what waits there stays
pub waiting_stays : (g : Network) (w x : Net) (e : Event) → Happens g w e x → (v p : ℕ) → is_waiting (w.queue v p) ≡ true →
    (e ≡ Take v p) ⊎ (is_waiting (x.queue v p) ≡ true)
waiting_stays g w _ _ (Woke u d lo hi s r) v p h = inr (waiting_sent g u d.sends (change u d w) v p h)
waiting_stays g w _ _ (Took u q m ms d at e r) v p h = ⊎_elim
    (λ z. inl (subst₂ (λ a b. Take u q ≡ Take a b) (sym z.0) (sym z.1) refl))
    (λ ne. inr (waiting_sent g u d.sends (change u d (take_first d.fate u q m ms w)) v p (ap is_waiting (put_at_miss w.queue u q v p _ ne) ∙ h)))
    (one_place u q v p)

-- who may wake sleeps
pub sleeps : (may : ℕ → Bool) (g : Network) (w : Net) (v : ℕ) → is_lawful_under may g w (Wake v) ≡ true → (w.node v).head.phase ≡ Sleeping
sleeps may g w v t =
    sleeping_is (w.node v).head.phase
    (and_parts (is_node g v) (is_sleeping (w.node v).head.phase) (and_parts (may v) (is_lawful g w (Wake v)) t).1).1

module _ (g : Network) (wired : IsWired g) where
  -- the node of an event is awake behind it
  pub node_awake : (w x : Net) (e : Event) → IsWellFormed g w → Happens g w e x → (x.node (event_node e)).head.phase ≢ Sleeping
  node_awake w _ _ f (Woke v d lo hi s r) z =
      row_awake (w.node v) works.Wake d (reaction_inverts (w.node v) works.Wake d tt r)
      (sym (ap (λ (n : NodeState). n.head.phase) (node_here g v d w)) ∙ z)
  node_awake w _ _ f (Took v p m ms d at q r) z =
      row_awake (w.node v) (works.Deliver p m) d (event_row g wired v (w.node v) p m d at (f.nodes v) r)
      (sym (ap (λ (n : NodeState). n.head.phase) (taken_here g v p m ms d w)) ∙ z)

  -- and who sleeps then slept before
  pub asleep_before : (w x : Net) (e : Event) → IsWellFormed g w → Happens g w e x → (v : ℕ) → (x.node v).head.phase ≡ Sleeping →
      (w.node v).head.phase ≡ Sleeping
  asleep_before w x e f h v z =
      ⊎_elim (λ s. s) (λ up. absurd ((event_lasts g wired w x e f h v).awake up z)) (asleep_or_not (w.node v).head.phase)
