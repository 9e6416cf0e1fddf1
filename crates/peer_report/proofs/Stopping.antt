-- A world has ended just where none of its events may happen.
use Rattle.std.proofs.Common.{◌≡◌, ◌<◌, true, false, List, [], ◌∷◌, length, refl, sym, subst, arith}
use Rattle.std.specs.List.{Contains}
use Rattle.std.proofs.lemmas.Bool.{and_parts, and_from, false_from_ne_true}
use Rattle.ghs_graph.specs.Graph.{Shape, IsGraph}
use Rattle.ghs_graph.proofs.lemmas.Members.{filter_has, in_filter, first_in}
use Rattle.peer_network.specs.declared.event.Event.{Event}
use Rattle.peer_network.specs.declared.event.Event.TheVariants.{Wake, Take}
use Rattle.peer_network.specs.Network.{is_node, is_port}
use Rattle.peer_index.specs.Places.{has_place, all_events}
use Rattle.peer_index.proofs.lemmas.Listed.{listed}
use Rattle.peer_network.proofs.lemmas.Waking.{each_is_woken}
use Rattle.peer_machine.specs.Ends.{SilenceIsEnd, SilenceWakesAll}
use Rattle.peer_machine.specs.Rules.{Rules}
use Rattle.peer_machine.specs.Net.{Net, is_lawful}
use Rattle.peer_machine.specs.Run.{IsRun, IsNetOf}
use Rattle.peer_net.specs.NetState.{network, net_of}
use Rattle.peer_runs.specs.WorldState.{WorldState, wakers, is_ready, ready_events}
use Rattle.peer_report.proofs.Ending.{run_is_net, stuck_has_ended, end_is_stuck}

module _ {S M : Type 0} (r : Rules S M) (has_ended : Shape → Net S M → Type 0) (ends : SilenceIsEnd r has_ended) (wakes_all : SilenceWakesAll r)
    (s : WorldState) (ok : IsGraph s.net.graph) (run : IsRun r (network s.net) s.net.trace) where
  is_net : IsNetOf r s.net.graph (net_of r s.net)
  is_net = run_is_net r s.net.graph s.net.trace ok run

  -- what is ready is lawful, and of a node or a port
  lawful : (e : Event) → is_ready r s e ≡ true → is_lawful r (network s.net) (net_of r s.net) e ≡ true
  lawful (Wake v) t = (and_parts _ (wakers s v) t).0
  lawful (Take v p) t = t

  placed : (e : Event) → is_lawful r (network s.net) (net_of r s.net) e ≡ true → has_place (network s.net) e ≡ true
  placed (Wake v) t = (and_parts (is_node (network s.net) v) _ t).0
  placed (Take v p) t = (and_parts (is_port (network s.net) v p) _ t).0

  -- what is ready is counted
  none_ready : length (ready_events r s) ≡ 0 → (e : Event) → is_ready r s e ≡ false
  none_ready z e = false_from_ne_true _ (λ t.
      let has = filter_has (is_ready r s) (all_events (network s.net)) e (listed (network s.net) e (placed e (lawful e t))) t in
      let at : has.0 < length (ready_events r s) = has.1 in
      absurd (omega (arith, at, z)))

  pub stopped_has_ended : length (ready_events r s) ≡ 0 → has_ended s.net.graph (net_of r s.net)
  stopped_has_ended z =
      stuck_has_ended r has_ended ends wakes_all s.net.graph (net_of r s.net) is_net (wakers s)
      (λ u may. false_from_ne_true _ (λ t. let yes = and_from _ (wakers s u) t may in let no = none_ready z (Wake u) in cc))
      (λ u p. none_ready z (Take u p)) (each_is_woken s.net.graph s.wake ok)

  pub ended_has_stopped : has_ended s.net.graph (net_of r s.net) → length (ready_events r s) ≡ 0
  ended_has_stopped ended = none (ready_events r s) refl
    where
      none : (es : List Event) → ready_events r s ≡ es → length es ≡ 0
      none [] e = refl
      none (x ∷ xs) e =
          let ready = (in_filter (is_ready r s) (all_events (network s.net)) x (subst (λ es. Contains es x) (sym e) (first_in x xs))).1 in
          let yes = lawful x ready in
          let no = end_is_stuck r has_ended ends wakes_all s.net.graph (net_of r s.net) is_net ended x in
          cc
