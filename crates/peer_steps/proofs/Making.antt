-- What is at hand of an event is what its line says.
use Rattle.std.proofs.Common.{◌≡◌, ℕ, ◌+◌, Bool, List, [], ◌∷◌, ◌++◌, length, Option, Some, map, refl, sym, ◌∙◌, ap, ap₂}
use Rattle.ghs_graph.specs.Graph.{Shape}
use Rattle.ghs_graph.specs.Ports.{ports_of}
use Rattle.peer_network.specs.declared.event.Event.{Event}
use Rattle.ghs_choices.specs.declared.form.Form.{Form}
use Rattle.peer_machine.specs.declared.work.Work.{Work}
use Rattle.peer_machine.specs.Rules.{Outcome, Rules}
use Rattle.peer_machine.specs.Net.{event_node, happens}
use Rattle.peer_machine.specs.Ledger.{in_all}
use Rattle.peer_machine.specs.Run.{net_after}
use Rattle.peer_machine.proofs.lemmas.Events.{happening}
use Rattle.peer_net.specs.NetState.{NetState, network, net_of, is_deferred, work_at}
use Rattle.peer_words.specs.declared.value.Saying.{Saying}
use Rattle.peer_words.specs.Words.{Words}
use Rattle.peer_steps.specs.declared.change.Change.{Change}
use Rattle.peer_steps.specs.declared.moment.Moment.{Moment}
use Rattle.peer_steps.specs.declared.sent.Sent.{Sent}
use Rattle.peer_steps.specs.Changes.{changes}
use Rattle.peer_steps.specs.Step.{message_of, sent_by, sends_of, moment_of, changes_by, sends_by}
use Rattle.peer_steps.specs.Told.{event_far}
use Rattle.peer_steps.specs.Lines.{line_by, line_in}
use Rattle.peer_steps.proofs.Ruled.{node_by}

module _ {S M : Type 0} (r : Rules S M) (words : Words S M) where
  -- an event that has happened by a reaction
  module _ (s new : NetState) (e : Event) (n : S) (k : Work M) (o : Outcome S M) (graph : new.graph ≡ s.graph)
      (trace : new.trace ≡ s.trace ++ e ∷ []) (is_n : n ≡ (net_of r s).node (event_node e)) (is_k : k ≡ work_at (net_of r s) e)
      (reacts : r.reaction n k ≡ Some o) where
    rule : r.reaction ((net_of r s).node (event_node e)) (work_at (net_of r s) e) ≡ Some o
    rule = ap₂ (λ (m : S) (j : Work M). r.reaction m j) (sym is_n) (sym is_k) ∙ reacts

    -- the node's state afterwards
    pub state_is : happens r (network s) (net_of r s) e ≡ Some (net_of r new) → o.state ≡ (net_of r new).node (event_node e)
    state_is h =
        sym
        (node_by r (network s) (net_of r s) (net_of r new) e o
        (happening r (network s) (net_of r s) (net_of r new) e h) rule)

    pub sends_are : map (sent_by words s.graph (event_node e)) o.sends ≡ sends_by r words s.graph s.trace e
    sends_are = ap (map (sent_by words s.graph (event_node e))) (sym (ap sends_of rule))

  -- what differs at its node
  pub changes_are : (s new : NetState) (e : Event) (n now : S) (ports : ℕ) → new.graph ≡ s.graph → new.trace ≡ s.trace ++ e ∷ [] →
      n ≡ (net_of r s).node (event_node e) → now ≡ (net_of r new).node (event_node e) → ports ≡ length (ports_of s.graph.keys (event_node e)) →
      changes words n now ports ≡ changes_by r words s.graph s.trace e
  changes_are s new e n now ports graph trace is_n is_now is_ports = rw (is_n, is_now, is_ports, graph, trace) refl

  -- its line
  pub line_is : (f : Form) (g : Shape) (done : List Event) (e : Event) (s : NetState) (m : Moment) (cs : List Change) (ss : List Sent) (total : ℕ) →
      s.graph ≡ g → s.trace ≡ done ++ e ∷ [] → m ≡ moment_of r words g done e → cs ≡ changes_by r words g done e →
      ss ≡ sends_by r words g done e → total ≡ in_all r (net_of r s).sent →
      line_in f m cs ss total ≡ line_by r words f g done e
  line_is f g done e s m cs ss total graph trace is_m is_cs is_ss is_total = rw (is_m, is_cs, is_ss, is_total, graph, trace) refl

  -- when and how it happens
  pub moment_is : (s : NetState) (e : Event) (n : S) (number : ℕ) (other : Option ℕ) (k : Work M) (message : Option Saying) (row : List ℕ)
      (waits : Bool) →
      number ≡ length s.trace + 1 → other ≡ event_far s.graph e → k ≡ work_at (net_of r s) e →
      n ≡ (net_of r s).node (event_node e) → message ≡ message_of words k → row ≡ words.row n k → waits ≡ is_deferred r (net_of r s) e →
      ◌≡◌ {A = Moment} (record { number = number; event = e; far = other; message = message; row = row; waits = waits })
      (moment_of r words s.graph s.trace e)
  moment_is s e n number other k message row waits is_number is_other is_k is_n is_message is_row is_waits =
      rw (is_waits, is_row, is_message, is_k, is_n, is_other, is_number) refl
