-- What the fields show, stage by stage.
use Rattle.std.proofs.Common.{◌≡◌, ℕ, ◌+◌, ◌-◌, ◌≤◌, List, ◌∷◌, ◌++◌, length, get_or, set, refl, sym, ◌∙◌, ap, ⊎_elim, arith, get_or-set_same, get_or-set_other, length-set}
use Rattle.std.proofs.lemmas.Bool.{cases_eq}
use Rattle.ghs_graph.specs.Graph.{Shape, IsGraph}
use Rattle.ghs_node.specs.declared.message.Message.{Message}
use Rattle.ghs_node.specs.declared.delta.Fate.{Fate}
use Rattle.ghs_node.specs.declared.delta.Delta.{Delta}
use Rattle.ghs_node.specs.Kind.{kind_of, place_of}
use Rattle.ghs_node.specs.NodeState.{NodeState}
use Rattle.ghs_node.specs.Reaction.{after}
use Rattle.peer_channels.specs.Channels.{ChannelsState, IsFor, queue_at}
use Rattle.peer_channels.proofs.lemmas.Rooms.{port_queue}
use Rattle.peer_network.specs.declared.event.Event.{Event}
use Rattle.peer_network.specs.Network.{Network, network_of, At}
use Rattle.ghs_protocol.specs.Net.{Net, take_first, change, left_of, one_if_consumed}
use Rattle.ghs_protocol.specs.Ledger.{of_kind}
use Rattle.ghs_protocol.specs.Steps.{reacted}
use Rattle.peer_network.proofs.lemmas.Graphs.{graph_wired}
use Rattle.peer_network.proofs.lemmas.Updates.{one_place, put_at_hit, put_at_miss, put_count}
use Rattle.ghs_protocol.proofs.lemmas.Sends.{node_here, node_there, sent_now, consumed_now, requeued_now}
use Rattle.ghs_core.specs.declared.counts.Counts.{Counts}
use Rattle.ghs_core.specs.Dispatch.{Arrives, CountsSends, Met, CountsFate, Disposes, WaitsAt, arriving, messages_of}
use Rattle.ghs_core.specs.Kept.{Shows, no_node}
use Rattle.ghs_core.proofs.Arriving.{machine_arrives}
use Rattle.ghs_core.proofs.Stages.{Stage, Wakes, Takes}

module _ (g : Shape) (w : Net) (nodes : List NodeState) (channels : ChannelsState Message) (counts : Counts) (for : IsFor g channels)
    (shows : Shows (network_of g) w nodes channels counts) where
  -- where a message is taken one waits
  pub waits_at : {e : Event} {d : Delta} {x : Net} → Stage (network_of g) w e d x → WaitsAt e channels
  waits_at (Wakes v d lo hi s r) = tt
  waits_at (Takes v p m ms d at q r) =
      (port_queue for v p at, let e : length (queue_at channels v p) ≡ length (m ∷ ms) = ap length (shows.queue v p at ∙ q) in omega (arith, e))

  -- once a message has met its fate
  met_shows : (f : Fate) (v p : ℕ) (m : Message) (ms : List Message) (l : ChannelsState Message) (c : Counts) → At (network_of g) v p →
      Met f v p m ms channels l →
      CountsFate f m counts c → Shows (network_of g) (take_first f v p m ms w) nodes l c
  met_shows f v p m ms l c at met told = record {
    count = shows.count;
    node = shows.node;
    queue = λ u r there. ⊎_elim
        (λ (z : (u ≡ v) × (r ≡ p)). sym (put_at_hit w.queue v p u r (left_of f m ms) z.0 z.1 ∙ sym (rw (z.0, z.1) met.here)))
        (λ apart.
        met.elsewhere u r (port_queue for u r there) apart ∙ shows.queue u r there ∙ sym (put_at_miss w.queue v p u r (left_of f m ms) apart))
        (one_place v p u r);
    sent = λ k lt. ap (λ (xs : List ℕ). get_or xs k 0) told.sent ∙ shows.sent k lt;
    consumed = λ k lt.
        let had = shows.consumed k lt in
        let more = told.consumed k lt in
        let now = put_count w.consumed (place_of (kind_of m)) (one_if_consumed f) (w.consumed (place_of (kind_of m)) + one_if_consumed f) k refl in
        omega (arith, had, more, now);
    requeued = let had = shows.requeued in let more = told.requeued in omega (arith, had, more);
  }

  pub stage_shows : {e : Event} {d : Delta} {x : Net} (l : ChannelsState Message) (c : Counts) →
      Stage (network_of g) w e d x →
      Disposes e d.fate channels l counts c →
      Shows (network_of g) x nodes l c
  stage_shows l c (Wakes v d lo hi s r) z = rw (z.0, z.1) shows
  stage_shows l c (Takes v p m ms d at q r) z = let one = z m ms (shows.queue v p at ∙ q) in met_shows d.fate v p m ms l c at one.0 one.1

-- once node v has reacted
pub reacted_shows : (g : Shape) → IsGraph g → (v : ℕ) → 1 ≤ v → v ≤ g.nodes →
    (d : Delta) (w : Net) (nodes : List NodeState) (n : NodeState) (l l' : ChannelsState Message) (c : Counts) (sent : List ℕ) →
    n ≡ after (w.node v) d →
    Shows (network_of g) w nodes l c → Arrives g v d.sends l l' → CountsSends d.sends c.sent sent →
    Shows (network_of g) (reacted (network_of g) v d w) (set nodes (v - 1) n) l'
    (record { sent = sent; consumed = c.consumed; requeued = c.requeued })
reacted_shows g ok v lo hi d w nodes n l l' c sent now shows arrives told = record {
  count = length-set nodes (v - 1) n ∙ shows.count;
  node = λ u low high. ⊎_elim
      (λ (e : u ≡ v).
      rw e (get_or-set_same nodes (v - 1) n no_node (let many = shows.count in omega (arith, many)) ∙ now ∙ sym (node_here net v d w)))
      (λ ne.
      get_or-set_other nodes (v - 1) (u - 1) n no_node (λ z. ne (omega (arith, z))) ∙ shows.node u low high ∙ sym (node_there net v d w u ne))
      (cases_eq u v);
  queue = λ u r at.
      arrives.queue u r at ∙ ap (λ q. q ++ arriving net v d.sends u r) (shows.queue u r at) ∙
      sym (machine_arrives net v (graph_wired g ok) d.sends (change v d w) u r lo hi at);
  sent = λ k lt. told k lt ∙ ap (λ i. i + of_kind k (messages_of d.sends)) (shows.sent k lt) ∙ sym (sent_now net v d w k);
  consumed = λ k lt. shows.consumed k lt ∙ ap (λ (f : ℕ → ℕ). f k) (sym (consumed_now net v d w));
  requeued = shows.requeued ∙ sym (requeued_now net v d w);
}
  where
    net : Network
    net = network_of g
