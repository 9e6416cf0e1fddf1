-- What sends change, and what they leave.
use Rattle.std.proofs.Common.{◌≡◌, ◌≢◌, ℕ, suc, ◌+◌, List, [], ◌∷◌, ◌++◌, map, refl, sym, ◌∙◌, ap, add-zero, arith}
use Rattle.ghs_node.specs.declared.message.Message.{Message}
use Rattle.ghs_node.specs.declared.delta.Delta.{Delta}
use Rattle.ghs_node.specs.Kind.{kind_of, place_of}
use Rattle.ghs_node.specs.Words.{Outgoing}
use Rattle.ghs_node.specs.NodeState.{NodeState}
use Rattle.ghs_node.specs.Reaction.{after}
use Rattle.peer_network.specs.Network.{Network, far, far_port, At}
use Rattle.peer_network.proofs.lemmas.Wired.{IsWired}
use Rattle.ghs_protocol.specs.Net.{Net, send, send_all, change}
use Rattle.peer_network.specs.Updates.{put}
use Rattle.ghs_protocol.specs.Ledger.{of_kind}
use Rattle.ghs_protocol.specs.Steps.{sent_on, reacted}
use Rattle.ghs_protocol.proofs.clauses.Acts.{at_end, push_all}
use Rattle.peer_network.proofs.lemmas.Updates.{put_same, put_other, put_count}
use Rattle.ghs_protocol.proofs.lemmas.Pushes.{add_all_end, pushed, unpushed}

-- the messages without their ports
abbrev pub messages : Outgoing → List Message
messages ss = map (λ (s : ℕ × Message). s.1) ss

module _ (g : Network) (v : ℕ) where
  -- sends touch no node, nor the counts of what was consumed and requeued
  pub node_sent : (ss : Outgoing) (w : Net) → (send_all g v ss w).node ≡ w.node
  node_sent [] w = refl
  node_sent (s ∷ ss) w = node_sent ss (send g v w s)

  pub consumed_sent : (ss : Outgoing) (w : Net) → (send_all g v ss w).consumed ≡ w.consumed
  consumed_sent [] w = refl
  consumed_sent (s ∷ ss) w = consumed_sent ss (send g v w s)

  pub requeued_sent : (ss : Outgoing) (w : Net) → (send_all g v ss w).requeued ≡ w.requeued
  requeued_sent [] w = refl
  requeued_sent (s ∷ ss) w = requeued_sent ss (send g v w s)

  -- each send counts once
  pub count_sent : (ss : Outgoing) (w : Net) (k : ℕ) → (send_all g v ss w).sent k ≡ w.sent k + of_kind k (messages ss)
  count_sent [] w k = sym (add-zero _)
  count_sent (s ∷ ss) w k =
      let one = put_count w.sent (place_of (kind_of s.1)) 1 (suc (w.sent (place_of (kind_of s.1)))) k (omega arith) in
      let rest = count_sent ss (send g v w s) k in
      omega (arith, one, rest)

  -- the queues, by what is pushed
  pub queues_sent : (ss : Outgoing) (w : Net) → (send_all g v ss w).queue ≡ push_all at_end g v ss w.queue
  queues_sent [] w = refl
  queues_sent (s ∷ ss) w = queues_sent ss (send g v w s)

  -- the queues to which no port of v leads are as they were
  pub queue_kept : (a b : ℕ) (ss : Outgoing) (w : Net) →
      ((i : ℕ) → far g v i ≡ a → far_port g v i ≡ b → ⊥) →
      (send_all g v ss w).queue a b ≡ w.queue a b
  queue_kept a b ss w away = ap (λ (q : ℕ → ℕ → List Message). q a b) (queues_sent ss w) ∙ unpushed at_end g v a b ss w.queue away

  -- at the far end of port i waits in addition what went out on it
  pub queue_sent : IsWired g → (i : ℕ) (ss : Outgoing) (w : Net) → At g v i →
      (send_all g v ss w).queue (far g v i) (far_port g v i) ≡ w.queue (far g v i) (far_port g v i) ++ sent_on ss i
  queue_sent wired i ss w at =
      ap (λ (q : ℕ → ℕ → List Message). q (far g v i) (far_port g v i)) (queues_sent ss w) ∙ pushed at_end g wired v i ss w.queue at
      ∙ add_all_end (w.queue (far g v i) (far_port g v i)) (sent_on ss i)

-- A reaction of node v: what it leaves at v, at its neighbours and elsewhere.
module _ (g : Network) (v : ℕ) (d : Delta) (w : Net) where
  pub node_here : (reacted g v d w).node v ≡ after (w.node v) d
  node_here = ap (λ (f : ℕ → NodeState). f v) (node_sent g v d.sends (change v d w)) ∙ put_same w.node v (after (w.node v) d)

  pub node_there : (u : ℕ) → u ≢ v → (reacted g v d w).node u ≡ w.node u
  node_there u ne = ap (λ (f : ℕ → NodeState). f u) (node_sent g v d.sends (change v d w)) ∙ put_other w.node v u _ ne

  pub nodes_put : (reacted g v d w).node ≡ put w.node v (after (w.node v) d)
  nodes_put = node_sent g v d.sends (change v d w)

  pub sent_now : (k : ℕ) → (reacted g v d w).sent k ≡ w.sent k + of_kind k (messages d.sends)
  sent_now k = count_sent g v d.sends (change v d w) k

  pub consumed_now : (reacted g v d w).consumed ≡ w.consumed
  consumed_now = consumed_sent g v d.sends (change v d w)

  pub requeued_now : (reacted g v d w).requeued ≡ w.requeued
  requeued_now = requeued_sent g v d.sends (change v d w)
