-- What is kept of a world is kept over an event of the round.
use Rattle.std.proofs.Common.{◌≡◌, ◌≢◌, ℕ, suc, ◌+◌, ◌^◌, ◌<◌, ◌≤◌, true, nat_lt, Option, Some, List, [], ◌∷◌, ◌++◌, length, replicate, sym, ◌∙◌, ap, ap₂, ⊎_elim, arith, length-append}
use Rattle.std.specs.List.{Contains}
use Rattle.std.proofs.lemmas.List.{length-replicate}
use Rattle.std.proofs.lemmas.Bool.{cases_eq}
use Rattle.ghs_graph.specs.Graph.{Shape, IsGraph}
use Rattle.ghs_graph.proofs.lemmas.Members.{in_filter}
use Rattle.peer_network.specs.declared.event.Event.{Event}
use Rattle.peer_network.specs.declared.event.Event.TheVariants.{Wake, Take}
use Rattle.peer_network.specs.Network.{Network}
use Rattle.peer_network.specs.declared.wake_set.WakeSet.{WakeSet}
use Rattle.peer_network.proofs.lemmas.Graphs.{graph_wired}
use Rattle.peer_index.specs.Places.{HasPlace, all_events}
use Rattle.peer_machine.specs.Ledger.{in_all}
use Rattle.peer_machine.specs.Protocol.{FitsGraphs, IsBoundedBy, StaysAwake}
use Rattle.peer_machine.specs.Rules.{HasKinds, NeverDefers, Outcome, Outgoing, Rules}
use Rattle.peer_machine.specs.Net.{Net, are_on_ports, event_node, happens, opening}
use Rattle.peer_machine.specs.Run.{IsNetOf, IsRun}
use Rattle.peer_machine.proofs.lemmas.Events.{happening}
use Rattle.peer_machine.proofs.lemmas.Runs.{after_is_net, after_more, net_after_more, run_splits}
use Rattle.peer_net.specs.NetState.{AreSends, NetState, net_of, network}
use Rattle.peer_lengths.specs.Sends.{sends_at, sends_of}
use Rattle.peer_lengths.proofs.lemmas.Sending.{event_sends}
use Rattle.peer_runs.specs.WorldState.{WorldState, wakers}
use Rattle.peer_runs.proofs.lemmas.Lawful.{lawful_place}
use Rattle.peer_picking.specs.Kept.{AreCounted, AreRounds, AreWakes, RoundsState, count_of, sent_to, taken_in, without}
use Rattle.peer_picking.specs.Rounds.{is_in}
use Rattle.peer_picking.specs.Runs.{round_events}
use Rattle.peer_picking.proofs.Chained.{first_more, in_lawful, lined, timely}
use Rattle.peer_picking.proofs.Counted.{counted_same}
use Rattle.peer_picking.proofs.Lined.{run_few}
use Rattle.peer_picking.proofs.Rounding.{sent_round, sent_takes, sent_wakes, without_other, without_own, without_round, without_takes}
use Rattle.peer_picking.proofs.Stepping.{counted_more, done, numbers_in, on_ports}
use Rattle.peer_picking.proofs.Waking.{wake_gone, wake_same}

-- a world with an event more
abbrev pub with_event : WorldState → Event → WorldState
with_event s e = record { net = record { graph = s.net.graph; trace = s.net.trace ++ e ∷ [] }; wake = s.wake }

pub same_world : (s t : WorldState) → s.net.graph ≡ t.net.graph → s.net.trace ≡ t.net.trace → s.wake ≡ t.wake → s ≡ t
same_world s t graph trace wake =
    let net : s.net ≡ t.net = ap₂ (λ (g : Shape) (es : List Event). record { graph = g; trace = es }) graph trace in
    ap₂ (λ (n : NetState) (w : WakeSet). record { net = n; wake = w }) net wake

module _ {S M : Type 0} (r : Rules S M) where
  -- a run without its last event
  pub run_before : (g : Network) (es : List Event) (e : Event) → IsRun r g (es ++ e ∷ []) → IsRun r g es
  run_before g es e k = run_splits r g es (e ∷ []) (opening r g) k.0 k.1 (λ x a b. (x, a))

  -- an event of a round may happen in it
  pub is_of_round : (s : WorldState) (n : ℕ) (e : Event) → Contains (round_events r s n) e → is_in r (wakers s) s.net.graph s.net.trace n e ≡ true
  is_of_round s n e h = (in_filter (is_in r (wakers s) s.net.graph s.net.trace n) (all_events (network s.net)) e h).1

  module _ (never : NeverDefers r) (stays : StaysAwake r) (s : WorldState) (e : Event) (y : Net S M) (ss : Outgoing M) (x : RoundsState)
      (graph : IsGraph s.net.graph) (run : IsRun r (network s.net) s.net.trace) (of_round : Contains (round_events r s x.round) e)
      (event : happens r (network s.net) (net_of r s.net) e ≡ Some y) (out : AreSends r s.net e ss) (h : AreRounds r s x) where
    is : is_in r (wakers s) s.net.graph s.net.trace x.round e ≡ true
    is = is_of_round s x.round e of_round

    has : HasPlace (network s.net) e
    has = lawful_place r (wakers s) (network s.net) (net_of r s.net) e (in_lawful r (wakers s) s.net.graph s.net.trace x.round e is)

    abbrev y_sends : are_on_ports r (network s.net) (event_node e) ss ≡ true
    y_sends = on_ports r never s.net e y ss graph run event out

    -- the ports
    counted : AreCounted (network s.net) (numbers_in r (with_event s e).net) x.round (taken_in (network s.net) (without (network s.net) e x.here))
        (taken_in (network s.net) (sent_to (network s.net) (event_node e) ss x.next))
    counted =
        let d = done r never s.net e y ss graph run event out in
        let more =
        counted_more r never s.net e y ss graph run event out x.round (taken_in (network s.net) x.here) (taken_in (network s.net) x.next)
        (timely r (wakers s) s.net.graph never s.net.trace x.round run (taken_in (network s.net) x.here) (taken_in
        (network s.net) x.next) e h.ports
        h.wakes.first is) h.ports in
        counted_same (network s.net) x.round (numbers_in r (with_event s e).net) _ _ _ _
        (without_takes (network s.net) x.here h.here e has)
        (sent_takes (network s.net) r (graph_wired s.net.graph graph) (event_node e) d.some d.node ss x.next y_sends h.next) more.0

    now : net_of r (with_event s e).net ≡ y
    now =
        net_after_more r s.net.graph s.net.trace e (net_of r s.net) y (after_is_net r s.net.graph s.net.trace run)
        (happening r (network s.net) (net_of r s.net) y e event)

    -- who may wake
    wakes : AreWakes r (with_event s e)
        (record { round = x.round; here = without (network s.net) e x.here; next = sent_to (network s.net) (event_node e) ss x.next })
    wakes =
        let d = done r never s.net e y ss graph run event out in
        let step = happening r (network s.net) (net_of r s.net) y e event in
        let net : IsNetOf r s.net.graph (net_of r s.net) =
        record { graph = graph; events = s.net.trace; run = after_is_net r s.net.graph s.net.trace run } in
        record {
          here = λ v there. ⊎_elim
              (λ (same : v ≡ event_node e).
              let zero : count_of (network s.net) (without (network s.net) e x.here) (Wake v) ≡ 0 =
              rw same (without_own (network s.net) x.here h.here e has) in
              ap (nat_lt 0) zero ∙ sym (rw now (wake_gone r (wakers s) s.net.graph (net_of r s.net) y e step stays net v same)))
              (λ (ne : v ≢ event_node e).
              ap (nat_lt 0) (without_other (network s.net) x.here h.here e has v there ne) ∙ h.wakes.here v there
              ∙ sym (rw now (wake_same r (wakers s) s.net.graph (net_of r s.net) y e step v ne)))
              (cases_eq v (event_node e));
          next = λ v there.
              sent_wakes (network s.net) r (graph_wired s.net.graph graph) (event_node e) d.some d.node ss x.next y_sends v there
              ∙ h.wakes.next v there;
          first = first_more r (wakers s) s.net.graph never s.net.trace x.round run stays graph e y event h.wakes.first;
        }

    pub rounds_more : AreRounds r (with_event s e)
        (record { round = x.round; here = without (network s.net) e x.here; next = sent_to (network s.net) (event_node e) ss x.next })
    rounds_more =
        let d = done r never s.net e y ss graph run event out in
        record {
          here = without_round (network s.net) x.here h.here e has;
          next = sent_round (network s.net) r (graph_wired s.net.graph graph) (event_node e) d.some d.node ss x.next y_sends h.next;
          ports = counted;
          wakes = wakes;
        }

    -- there is room for what is sent
    pub room : (bound : Shape → ℕ) → HasKinds r → IsBoundedBy r bound → FitsGraphs bound → (f : Event) → HasPlace (network s.net) f →
        count_of (network s.net) x.next f + length ss < 2 ^ 64
    room bound kinds bounded fits f there =
        let step = happening r (network s.net) (net_of r s.net) y e event in
        let sent = event_sends r (network s.net) kinds (net_of r s.net) y e step in
        let same : sends_at r (net_of r s.net) e ≡ ss = ap (λ (z : Option (Outcome S M)). sends_of z) out.1 ∙ sym out.2 in
        let many : length (sends_at r (net_of r s.net) e) ≡ length ss = ap (λ (l : Outgoing M). length l) same in
        let after = after_more r (network s.net) s.net.trace e (net_of r s.net) y (after_is_net r s.net.graph s.net.trace run) step in
        let most = bounded s.net.graph y (record { graph = graph; events = s.net.trace ++ e ∷ []; run = after }) in
        let fit = fits s.net.graph graph in
        let low = before f there in
        omega (arith, sent, many, most, fit, low)
      where
        before : (f : Event) → HasPlace (network s.net) f → count_of (network s.net) x.next f ≤ in_all r (net_of r s.net).sent
        before (Wake v) place = let none = h.wakes.next v place in omega (arith, none)
        before (Take v p) at =
            let queue : length ((numbers_in r s.net).queue v p) ≡
            length (replicate (taken_in (network s.net) x.here v p) x.round ++ replicate (taken_in (network s.net) x.next v p) (suc x.round)) =
            ap length (h.ports.queue v p at) in
            let both = length-append (replicate (taken_in (network s.net) x.here v p) x.round)
            (replicate (taken_in (network s.net) x.next v p) (suc x.round)) in
            let last = length-replicate (taken_in (network s.net) x.next v p) (suc x.round) in
            let line = lined r (wakers s) s.net.graph never s.net.trace x.round run v p in
            let few = run_few r (network s.net) kinds never s.net.trace (net_of r s.net) (after_is_net r s.net.graph s.net.trace run) v p in
            omega (arith, queue, both, last, line, few)
