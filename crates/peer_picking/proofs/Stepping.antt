-- The numbers of a run by rounds, one event more.
use Rattle.std.proofs.Common.{◌≡◌, ℕ, Bool, true, false, Option, Some, [], ◌∷◌, ◌++◌, refl, sym, ◌∙◌, ap}
use Rattle.ghs_graph.specs.Graph.{IsGraph}
use Rattle.peer_network.specs.declared.event.Event.{Event}
use Rattle.peer_network.specs.declared.event.Event.TheVariants.{Wake, Take}
use Rattle.peer_network.proofs.lemmas.Graphs.{graph_wired}
use Rattle.peer_chains.specs.Chains.{Chains, hears, no_chains, sent}
use Rattle.peer_machine.specs.Rules.{NeverDefers, Outcome, Outgoing, Rules}
use Rattle.peer_machine.specs.Net.{Net, are_on_ports, event_node, happens, opening}
use Rattle.peer_machine.specs.Run.{IsRun}
use Rattle.peer_machine.proofs.lemmas.Events.{happening}
use Rattle.peer_machine.proofs.lemmas.Runs.{after_is_net}
use Rattle.peer_net.specs.NetState.{AreSends, NetState, delivery, is_deferred, net_of, network}
use Rattle.peer_lengths.specs.Chain.{numbers_of, numbers_then}
use Rattle.peer_lengths.specs.Sends.{sends_at, sends_of}
use Rattle.peer_lengths.proofs.lemmas.Following.{followed_more}
use Rattle.peer_runs.proofs.lemmas.Changing.{Done, done_of}
use Rattle.peer_picking.specs.Kept.{AreCounted}
use Rattle.peer_picking.proofs.Counted.{IsTimely, adds, counted_then, took}

-- of a net: the numbers of its run
abbrev pub numbers_in : {S M : Type 0} → Rules S M → NetState → Chains
numbers_in r s = numbers_of r (network s) s.trace

module _ {S M : Type 0} (r : Rules S M) where
  numbers_more : (s : NetState) (e : Event) (y : Net S M) → IsRun r (network s) s.trace → happens r (network s) (net_of r s) e ≡ Some y →
      numbers_of r (network s) (s.trace ++ e ∷ []) ≡ numbers_then r (network s) (net_of r s) e (numbers_in r s)
  unfolding numbers_of
  numbers_more s e y run h =
      followed_more r (numbers_then r (network s)) (network s) s.trace e (opening r (network s)) (net_of r s) y no_chains
      (after_is_net r s.graph s.trace run) h

  not_deferred : NeverDefers r → (w : Net S M) (e : Event) → is_deferred r w e ≡ false
  not_deferred never w (Wake v) = refl
  not_deferred never w (Take v p) = never (w.node v) (delivery p (w.queue v p))

  module _ (never : NeverDefers r) (s : NetState) (e : Event) (y : Net S M) (ss : Outgoing M) (graph : IsGraph s.graph)
      (run : IsRun r (network s) s.trace) (event : happens r (network s) (net_of r s) e ≡ Some y) (out : AreSends r s e ss) where
    pub done : Done r (network s) (net_of r s) y e ss
    done = done_of r (network s) (net_of r s) y e ss out.0 (happening r (network s) (net_of r s) y e event) out.1 out.2

    pub on_ports : are_on_ports r (network s) (event_node e) ss ≡ true
    on_ports = ap (are_on_ports r (network s) (event_node e)) done.sends ∙ done.on_ports

    abbrev asleep : Bool
    asleep = r.is_asleep ((net_of r s).node (event_node e))

    -- what is sent, and nothing is deferred
    numbers_are : numbers_of r (network s) (s.trace ++ e ∷ []) ≡ sent (network s) (event_node e) ss (hears e asleep false (numbers_in r s))
    numbers_are =
        let same : sends_at r (net_of r s) e ≡ ss = ap (λ (z : Option (Outcome S M)). sends_of z) out.1 ∙ sym out.2 in
        numbers_more s e y run event
        ∙ ap (λ (l : Outgoing M). sent (network s) (event_node e) l (hears e asleep (is_deferred r (net_of r s) e) (numbers_in r s))) same
        ∙ ap (λ (b : Bool). sent (network s) (event_node e) ss (hears e asleep b (numbers_in r s))) (not_deferred never (net_of r s) e)

    -- an event of round n: its node has heard of a chain of n messages, and what it sends is of the next round
    pub counted_more : (n : ℕ) (a b : ℕ → ℕ → ℕ) → IsTimely (network s) n a e → AreCounted (network s) (numbers_in r s) n a b →
        AreCounted (network s) (numbers_of r (network s) (s.trace ++ e ∷ [])) n (took e a) (adds (network s) (event_node e) ss b) ×
        ((numbers_of r (network s) (s.trace ++ e ∷ [])).node (event_node e) ≡ n)
    counted_more n a b timely h =
        rw numbers_are
        (counted_then (network s) n r (graph_wired s.graph graph) e (event_node e) ss asleep (numbers_in r s) a b refl done.some done.node on_ports
        timely h)
