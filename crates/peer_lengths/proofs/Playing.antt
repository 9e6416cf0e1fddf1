-- Events of a run where they stand in it, and what each of them sends.
use Rattle.std.proofs.Common.{◌≡◌, ℕ, suc, ◌+◌, ◌<◌, ◌≤◌, ◌^◌, true, Option, Some, List, [], ◌∷◌, ◌++◌, length, take, drop, get_or, sym, ◌∙◌, ap, subst, arith, ltb-true}
use Rattle.std.specs.List.{All}
use Rattle.std.proofs.Math.Seq.{split_at}
use Rattle.std.proofs.lemmas.Bool.{and_parts}
use Rattle.std.proofs.lemmas.List.{take_more}
use Rattle.std.proofs.lemmas.List.Elements.{All-nil, All-cons}
use Rattle.ghs_graph.specs.Graph.{Shape, IsGraph}
use Rattle.peer_network.specs.declared.event.Event.{Event}
use Rattle.peer_network.specs.declared.event.Event.TheVariants as events
use Rattle.peer_network.specs.Network.{Network, network_of}
use Rattle.peer_network.proofs.lemmas.Events.{if_some}
use Rattle.peer_machine.specs.Rules.{Rules, Outcome, Outgoing, HasKinds, messages}
use Rattle.peer_machine.specs.Net.{Net, event_node, happens, is_lawful, effect, opening, are_on_ports}
use Rattle.peer_machine.specs.Run.{IsAfter, IsRun, net_after, run}
use Rattle.peer_machine.specs.Ledger.{in_all}
use Rattle.peer_machine.specs.Protocol.{IsBoundedBy, FitsGraphs}
use Rattle.peer_machine.specs.Steps.{Happens, Woke, Took}
use Rattle.peer_machine.proofs.lemmas.Events.{happening}
use Rattle.peer_machine.proofs.lemmas.Runs.{both_some, run_splits, run_more, net_after_is, after_is_net}
use Rattle.peer_net.specs.NetState.{NetState, network, net_of, delivery, work_at, AreSends, IsLawful}
use Rattle.peer_runs.specs.Following.{HasHappened}
use Rattle.peer_lengths.specs.Sends.{sends_of, sends_at, sent_then, all_sent}
use Rattle.peer_lengths.proofs.lemmas.Following.{followed_more}
use Rattle.peer_lengths.proofs.lemmas.Sending.{event_sends}

-- the events so far, one more
pub next_of : (es ts us : List Event) (i : ℕ) (d : Event) → i < length es → ts ≡ take i es → us ≡ ts ++ get_or es i d ∷ [] → us ≡ take (i + 1) es
next_of es ts us i d lt was is = is ∙ ap (λ (l : List Event). l ++ get_or es i d ∷ []) was ∙ sym (take_more es i d lt)

module _ {S M : Type 0} (r : Rules S M) where
  -- an event of a run may happen in the net that those before it have
  pub lawful_at : (g : Shape) (es : List Event) (i : ℕ) (d : Event) (s : NetState) → s.graph ≡ g → s.trace ≡ take i es → i < length es →
      IsRun r (network_of g) es → IsLawful r s (get_or es i d)
  lawful_at g es i d s graph trace lt k =
      let n = network_of g in
      let e = get_or es i d in
      let parts : es ≡ take i es ++ e ∷ drop (suc i) es = split_at es i d lt in
      let whole : run r n (take i es ++ e ∷ drop (suc i) es) (opening r n) ≡ Some k.0 =
      subst (λ (l : List Event). run r n l (opening r n) ≡ Some k.0) parts k.1 in
      run_splits r n (take i es) (e ∷ drop (suc i) es) (opening r n) k.0 whole
      (λ x here on. both_some r (happens r n x e) (λ y. run r n (drop (suc i) es) y) k.0 on
      (λ y happened rest. if_some (is_lawful r n x e) (effect r n x e) y happened
      (λ lawful led.
      let at : net_of r s ≡ x =
      ap (λ (h : Shape). net_after r h s.trace) graph ∙ ap (net_after r g) trace ∙ net_after_is r g (take i es) x here in
      subst (λ (w : Net S M). is_lawful r (network s) w e ≡ true) (sym at)
      (subst (λ (h : Shape). is_lawful r (network_of h) x e ≡ true) (sym graph) lawful))))

  -- messages that go out on ports
  all_on : (g : Network) (v : ℕ) (ss : Outgoing M) → are_on_ports r g v ss ≡ true → All (λ (s : ℕ × M). s.0 < length (g.ports v)) ss
  all_on g v [] t = All-nil (λ (s : ℕ × M). s.0 < length (g.ports v))
  all_on g v (s ∷ ss) t =
      let h = and_parts _ _ t in
      All-cons (λ (x : ℕ × M). x.0 < length (g.ports v)) s ss (ltb-true s.0 _ h.0) (all_on g v ss h.1)

  -- what an event sends goes out on ports of a node
  abbrev GoOut : Network → Net S M → Event → Type 0
  GoOut g w e = (1 ≤ event_node e) × (event_node e ≤ g.count) × All (λ (s : ℕ × M). s.0 < length (g.ports (event_node e))) (sends_at r w e)

  go_out : (g : Network) (w x : Net S M) (e : Event) → Happens r g w e x → GoOut g w e
  go_out g w _ _ (Woke v o lo hi s e t) = (
    lo,
    hi,
    subst (λ (p : Option (Outcome S M)). All (λ (m : ℕ × M). m.0 < length (g.ports v)) (sends_of p)) (sym e) (all_on g v o.sends t),
  )
  go_out g w _ _ (Took v p m ms o at q e t) =
      let rule : r.reaction (w.node v) (work_at w (events.Take v p)) ≡ Some o = ap (λ (l : List M). r.reaction (w.node v) (delivery p l)) q ∙ e in (
        at.some,
        at.node,
        subst (λ (y : Option (Outcome S M)). All (λ (m : ℕ × M). m.0 < length (g.ports v)) (sends_of y)) (sym rule) (all_on g v o.sends t),
      )

  -- an event more of a run, the net behind it, and what its node has sent
  pub record Played (s : NetState) (e : Event) (y : Net S M) (ss : Outgoing M) : Type 0 where
    pub graph : IsGraph s.graph
    pub run : IsRun r (network s) s.trace
    pub event : happens r (network s) (net_of r s) e ≡ Some y
    pub sends : AreSends r s e ss

  -- and so is one that has happened
  pub played_of : (s t : NetState) (e : Event) (ss : Outgoing M) → IsGraph t.graph → IsRun r (network t) t.trace → HasHappened r s e t ss →
      Played s e (net_of r t) ss
  played_of s t e ss graph is_run h =
      let n = network s in
      let whole : IsRun r n (s.trace ++ e ∷ []) =
      subst (λ (es : List Event). IsRun r n es) h.trace (subst (λ (g : Shape). IsRun r (network_of g) t.trace) h.graph is_run) in
      record {
        graph = subst (λ (g : Shape). IsGraph g) h.graph graph;
        run = run_splits r n s.trace (e ∷ []) (opening r n) whole.0 whole.1 (λ x here _. (x, here));
        event = h.event;
        sends = h.sends;
      }

  module _ (s : NetState) (e : Event) (y : Net S M) (ss : Outgoing M) (played : Played s e y ss) where
    pub sends_are : ss ≡ sends_at r (net_of r s) e
    sends_are = let a = played.sends in a.2 ∙ ap (λ (o : Option (Outcome S M)). sends_of o) (sym a.1)

    pub before : IsAfter r (network s) s.trace (net_of r s)
    before = after_is_net r s.graph s.trace played.run

    pub behind : IsAfter r (network s) (s.trace ++ e ∷ []) y
    behind = run_more r (network s) s.trace e (opening r (network s)) (net_of r s) before ∙ played.event

    goes_out : GoOut (network s) (net_of r s) e
    goes_out = go_out (network s) (net_of r s) y e (happening r (network s) (net_of r s) y e played.event)

    pub low : 1 ≤ event_node e
    low = goes_out.0

    pub high : event_node e ≤ s.graph.nodes
    high = goes_out.1

    pub on_ports : All (λ (m : ℕ × M). m.0 < length ((network s).ports (event_node e))) ss
    on_ports = subst (λ (l : Outgoing M). All (λ (m : ℕ × M). m.0 < length ((network s).ports (event_node e))) l) (sym sends_are) goes_out.2

    -- one event more sends so much more
    pub sent_more : all_sent r (network s) (s.trace ++ e ∷ []) ≡ all_sent r (network s) s.trace ++ messages ss
    unfolding all_sent
    sent_more =
        followed_more r (sent_then r) (network s) s.trace e (opening r (network s)) (net_of r s) y [] before played.event
        ∙ ap (λ (l : Outgoing M). all_sent r (network s) s.trace ++ messages l) (sym sends_are)

    module _ (kinds : HasKinds r) where
      pub count_more : in_all r y.sent ≡ in_all r (net_of r s).sent + length ss
      count_more =
          event_sends r (network s) kinds (net_of r s) y e (happening r (network s) (net_of r s) y e played.event)
          ∙ ap (λ (l : Outgoing M). in_all r (net_of r s).sent + length l) (sym sends_are)

    -- the messages sent are below 2^64
    pub few : (bound : Shape → ℕ) → IsBoundedBy r bound → FitsGraphs bound → in_all r y.sent < 2 ^ 64
    few bound bounded fits =
        let a = bounded s.graph y (record { graph = played.graph; events = s.trace ++ e ∷ []; run = behind }) in
        let b = fits s.graph played.graph in
        omega (arith, a, b)
