-- What a node's taking of a message leaves, place by place. (For a wake see the reaction's own facts in Sends.)
use Rattle.std.proofs.Common.{◌≡◌, ◌≢◌, ℕ, ◌+◌, ◌==◌, List, refl, ◌∙◌, ap, cond}
use Rattle.ghs_node.specs.declared.message.Message.{Message}
use Rattle.ghs_node.specs.declared.delta.Delta.{Delta}
use Rattle.ghs_node.specs.Kind.{kind_of, place_of}
use Rattle.ghs_node.specs.Reaction.{after}
use Rattle.peer_network.specs.Network.{Network}
use Rattle.ghs_protocol.specs.Net.{Net, take_first, one_if_consumed, one_if_requeued}
use Rattle.ghs_protocol.specs.Ledger.{of_kind}
use Rattle.ghs_protocol.specs.Steps.{taken}
use Rattle.ghs_protocol.proofs.lemmas.Sends.{messages, node_here, node_there, sent_now, consumed_now, requeued_now}
use Rattle.peer_network.proofs.lemmas.Updates.{put_count}

module _ (g : Network) (v p : ℕ) (m : Message) (ms : List Message) (d : Delta) (w : Net) where
  -- node v has reacted, and no other node has changed
  pub taken_here : (taken g v p m ms d w).node v ≡ after (w.node v) d
  taken_here = node_here g v d (take_first d.fate v p m ms w)

  pub taken_there : (u : ℕ) → u ≢ v → (taken g v p m ms d w).node u ≡ w.node u
  taken_there u ne = node_there g v d (take_first d.fate v p m ms w) u ne

  -- the sends are counted, and the message if it was consumed, or the requeue
  pub taken_sent : (k : ℕ) → (taken g v p m ms d w).sent k ≡ w.sent k + of_kind k (messages d.sends)
  taken_sent k = sent_now g v d (take_first d.fate v p m ms w) k

  pub taken_consumed : (k : ℕ) → (taken g v p m ms d w).consumed k ≡ w.consumed k + cond (place_of (kind_of m) == k) (one_if_consumed d.fate) 0
  taken_consumed k =
      ap (λ (f : ℕ → ℕ). f k) (consumed_now g v d (take_first d.fate v p m ms w))
      ∙ put_count w.consumed (place_of (kind_of m)) (one_if_consumed d.fate) _ k refl

  pub taken_requeued : (taken g v p m ms d w).requeued ≡ w.requeued + one_if_requeued d.fate
  taken_requeued = requeued_now g v d (take_first d.fate v p m ms w)
