-- The same, once the event has happened.
use Rattle.std.proofs.Common.{ℕ, ◌+◌, ◌^◌, ◌<◌, List, length, sym, subst, subst₂}
use Rattle.std.specs.List.{All}
use Rattle.ghs_graph.specs.Graph.{Shape, IsGraph}
use Rattle.peer_network.specs.declared.event.Event.{Event}
use Rattle.peer_network.specs.Network.{At, network_of}
use Rattle.peer_index.specs.Places.{HasPlace}
use Rattle.peer_machine.specs.Protocol.{FitsGraphs, IsBoundedBy, StaysAwake}
use Rattle.peer_machine.specs.Rules.{HasKinds, NeverDefers, Outgoing, Rules}
use Rattle.peer_machine.specs.Net.{event_node}
use Rattle.peer_machine.specs.Run.{IsRun}
use Rattle.peer_net.specs.NetState.{net_of, network}
use Rattle.peer_runs.specs.WorldState.{WorldState}
use Rattle.peer_picking.specs.Kept.{AreRounds, AreRoundsBefore, RoundsState, count_of, sent_to, without}
use Rattle.peer_picking.proofs.Following.{room, rounds_more, run_before, same_world, with_event}
use Rattle.peer_picking.proofs.Sending.{all_at}
use Rattle.peer_picking.proofs.Stepping.{done, on_ports}

module _ {S M : Type 0} (r : Rules S M) (never : NeverDefers r) (t : WorldState) (e : Event) (ss : Outgoing M) (x : RoundsState)
    (h : AreRoundsBefore r t e ss x) (ok : IsGraph t.net.graph) (run : IsRun r (network t.net) t.net.trace) where
  abbrev s : WorldState
  s = h.before

  graph : IsGraph s.net.graph
  graph = subst (λ (g : Shape). IsGraph g) h.played.graph ok

  before : IsRun r (network s.net) s.net.trace
  before =
      run_before r (network s.net) s.net.trace e
      (subst₂ (λ (g : Shape) (es : List Event). IsRun r (network_of g) es) h.played.graph h.played.trace run)

  pub ports_before : All (λ (m : ℕ × M). At (network t.net) (event_node e) m.0) ss
  ports_before =
      let d = done r never s.net e (net_of r t.net) ss graph before h.played.event h.sends in
      subst (λ (g : Shape). All (λ (m : ℕ × M). At (network_of g) (event_node e) m.0) ss) (sym h.played.graph)
      (all_at r (network s.net) (event_node e) ss d.some d.node (on_ports r never s.net e (net_of r t.net) ss graph before h.played.event h.sends))

  module _ (stays : StaysAwake r) where
    pub room_before : (bound : Shape → ℕ) → HasKinds r → IsBoundedBy r bound → FitsGraphs bound → (f : Event) → HasPlace (network t.net) f →
        count_of (network t.net) x.next f + length ss < 2 ^ 64
    room_before bound kinds bounded fits =
        subst (λ (g : Shape). (f : Event) → HasPlace (network_of g) f → count_of (network_of g) x.next f + length ss < 2 ^ 64) (sym h.played.graph)
        (room r never stays s e (net_of r t.net) ss x graph before h.of_round h.played.event h.sends h.rounds bound kinds bounded fits)

    pub rounds_behind : AreRounds r t
        (record { round = x.round; here = without (network t.net) e x.here; next = sent_to (network t.net) (event_node e) ss x.next })
    rounds_behind =
        subst (λ (g : Shape). AreRounds r t
        (record { round = x.round; here = without (network_of g) e x.here; next = sent_to (network_of g) (event_node e) ss x.next }))
        (sym h.played.graph)
        (subst (λ (w : WorldState). AreRounds r w
        (record { round = x.round; here = without (network s.net) e x.here; next = sent_to (network s.net) (event_node e) ss x.next }))
        (sym (same_world t (with_event s e) h.played.graph h.played.trace h.played.wake))
        (rounds_more r never stays s e (net_of r t.net) ss x graph before h.of_round h.played.event h.sends h.rounds))
