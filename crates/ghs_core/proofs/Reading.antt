-- What the fields of a net tell.
use Rattle.std.proofs.Common.{◌≡◌, ℕ, ◌+◌, ◌-◌, ◌<◌, ◌≤◌, true, List, [], length, get_or, refl, ◌∙◌, ap, arith}
use Rattle.std.proofs.lemmas.Bool.{and_parts}
use Rattle.std.proofs.lemmas.List.{get_or_default}
use Rattle.ghs_graph.specs.Graph.{Shape}
use Rattle.ghs_node.specs.NodeState.{NodeState, degree}
use Rattle.ghs_node.specs.declared.message.Message.{Message}
use Rattle.peer_channels.specs.Channels.{ChannelsState, IsFor, AllEmpty, total_of}
use Rattle.peer_network.specs.declared.event.Event.{Event}
use Rattle.peer_network.specs.declared.event.Event.TheVariants.{Take}
use Rattle.peer_network.specs.Network.{Network, network_of, At}
use Rattle.ghs_protocol.specs.Net.{Net, opening, is_lawful}
use Rattle.ghs_protocol.specs.Run.{IsAfter, net_after}
use Rattle.ghs_protocol.specs.Ledger.{in_all}
use Rattle.peer_network.proofs.lemmas.Sums.{sum_same}
use Rattle.ghs_protocol.proofs.lemmas.Balance.{after_balanced, balanced_in_all}
use Rattle.peer_network.proofs.lemmas.Events.{at_of}
use Rattle.peer_network.proofs.lemmas.Graphs.{graph_wired, graph_few}
use Rattle.ghs_protocol.proofs.lemmas.Nodes.{ports_many}
use Rattle.ghs_protocol.proofs.lemmas.Runs.{after_is_net, net_after_is}
use Rattle.ghs_protocol.proofs.lemmas.WellFormed.{IsWellFormed, after_formed}
use Rattle.ghs_core.specs.declared.counts.Counts.{Counts}
use Rattle.ghs_core.specs.Ledger.{IsLedger}
use Rattle.ghs_core.specs.declared.halts.Halts.{Halts}
use Rattle.ghs_core.specs.Halts.{AreHalts, none_halted}
use Rattle.ghs_core.specs.Kept.{IsKept, AreAsleep, no_node}

module _ {g : Shape} {es : List Event} {nodes : List NodeState} {channels : ChannelsState Message} {counts : Counts} {halts : Halts}
    (kept : IsKept g es nodes channels counts halts) where
  pub run : IsAfter (network_of g) es (net_after g es)
  run = after_is_net g es kept.run

  pub formed : IsWellFormed (network_of g) (net_after g es)
  formed = after_formed (network_of g) (graph_wired g kept.graph) (graph_few g kept.graph) es (net_after g es) run

  -- a node of the fields is the net's
  pub node_found : (v : ℕ) (x : NodeState) → 1 ≤ v → v ≤ g.nodes → x ≡ get_or nodes (v - 1) x → x ≡ (net_after g es).node v
  node_found v x lo hi is = is ∙ get_or_default nodes (v - 1) x no_node (let n = kept.shows.count in omega (arith, n)) ∙ kept.shows.node v lo hi

  -- a node has as many ports as its graph says
  pub node_ports : (v : ℕ) (x : NodeState) → 1 ≤ v → v ≤ g.nodes → x ≡ get_or nodes (v - 1) x → degree x ≡ length ((network_of g).ports v)
  node_ports v x lo hi is = ap degree (node_found v x lo hi is) ∙ ports_many (formed.nodes v)

  -- a port of the graph is a port of the node
  pub port_below : (v p : ℕ) (x : NodeState) → At (network_of g) v p → x ≡ get_or nodes (v - 1) x → p < degree x
  port_below v p x at is =
      let lt = at.port in
      let many = node_ports v x at.some at.node is in
      omega (arith, lt, many)

  -- the ledger
  pub told : (queued : ℕ) → queued ≡ total_of channels →
      IsLedger (network_of g) (net_after g es)
      (record { sent = counts.sent; consumed = counts.consumed; requeued = counts.requeued; queued = queued; out = 0 })
  told queued q =
      let balanced = after_balanced (network_of g) (graph_wired g kept.graph) (graph_few g kept.graph) es (net_after g es) run in
      let all = balanced_in_all (network_of g) (net_after g es) balanced in
      let sent : in_all (λ k. get_or counts.sent k 0) ≡ in_all (net_after g es).sent = sum_same 7 _ _ kept.shows.sent in
      let consumed : in_all (λ k. get_or counts.consumed k 0) ≡ in_all (net_after g es).consumed = sum_same 7 _ _ kept.shows.consumed in
      let fit = kept.fit.waiting in
      record {
        sent = kept.shows.sent;
        consumed = kept.shows.consumed;
        requeued = kept.shows.requeued;
        queued = omega (arith, q, all, sent, consumed, fit);
        out = refl;
        kinds = λ k lt. let s = kept.shows.sent k lt in let c = kept.shows.consumed k lt in let b = balanced k in omega (arith, s, c, b);
        balance = omega (arith, q, fit);
      }

pub lawful_port : (g : Network) (w : Net) (v p : ℕ) → is_lawful g w (Take v p) ≡ true → At g v p
lawful_port g w v p l = let b = and_parts _ _ l in at_of g v p b.0

-- the fields of an opening net
pub opened : (g : Shape) (nodes : List NodeState) (channels : ChannelsState Message) (counts : Counts) (halts : Halts) →
    AreAsleep g nodes →
    IsFor g channels →
    AllEmpty channels →
    total_of channels ≡ 0 →
    ((k : ℕ) → get_or counts.sent k 0 ≡ 0) →
    ((k : ℕ) → get_or counts.consumed k 0 ≡ 0) →
    counts.requeued ≡ 0 →
    AreHalts g none_halted halts →
    IsKept g [] nodes channels counts halts
opened g nodes channels counts halts asleep for empty total sent consumed requeued none = record {
  graph = asleep.graph;
  run = (opening (network_of g), refl);
  queues = for;
  shows = rw (net_after_is g [] (opening (network_of g)) refl) (record {
    count = asleep.count;
    node = λ v lo hi. let e : v - 1 + 1 ≡ v = omega arith in rw e at (asleep.each (v - 1) (omega arith));
    queue = λ v p at. empty v p ((for.queues v p).1 (record { some = at.some; node = at.node; port = at.port }));
    sent = λ k lt. sent k;
    consumed = λ k lt. consumed k;
    requeued = requeued;
  });
  fit = record {
    sent = let s = sent in omega (arith, s 0, s 1, s 2, s 3, s 4, s 5, s 6);
    consumed = let s = consumed in omega (arith, s 0, s 1, s 2, s 3, s 4, s 5, s 6);
    requeued = omega (arith, requeued);
    waiting = let s = consumed in let t = sent in omega (arith, total, s 0, s 1, s 2, s 3, s 4, s 5, s 6, t 0, t 1, t 2, t 3, t 4, t 5, t 6);
  };
  halted = rw (net_after_is g [] (opening (network_of g)) refl) none;
}
