-- The figures of a run by a book.
use Rattle.std.proofs.Common.{◌≡◌, ◌↔◌, ◌∙◌, ℕ, Bool, true, false, ap, List, [], length, Option, Result, Ok, Err, IfOk, refl, subst, sym}
use Rattle.std.proofs.lemmas.List.{nil_from_length}
use Rattle.ghs_choices.specs.declared.check.Check.{Check}
use Rattle.ghs_graph.specs.Graph.{Shape}
use Rattle.own_book.specs.Entry.{Entry}
use Rattle.own_rules.specs.Check.{IsChecked}
use Rattle.own_rules.specs.Faults.{faults}
use Rattle.own_rules.specs.Run.{IsRunOf}
use Rattle.own_rules.specs.Stops.{lacking, stops_in}
use Rattle.own_rules.specs.declared.node.Node.{Node}
use Rattle.own_rules.specs.declared.node.Stop.{Stop}
use Rattle.own_runs.specs.Sweep.{AreFigures, AreFiguresOf, HasEnded}
use Rattle.own_runs.specs.declared.sweep.BookFigures.{BookFigures}
use Rattle.peer_machine.specs.Rules.{Rules}
use Rattle.peer_machine.specs.Run.{net_after}
use Rattle.peer_net.specs.NetState.{NetState, net_of}
use Rattle.peer_network.specs.declared.wake_set.WakeSet.{WakeSet}
use Rattle.peer_network.specs.declared.event.Event.{Event}
use Rattle.peer_runs.specs.WorldState.{WorldState, ready_events}
use Rattle.peer_sweep.specs.Figures.{AreCounts}
use Rattle.peer_sweep.specs.declared.figures.Figures.{Figures}

module _ {M : Type 0} (r : Rules Node M) where
  -- a world's run has ended where nothing is ready and these are no nodes that have stopped
  pub ended_by : (s : WorldState) (ready : ℕ) (stops : List (ℕ × Stop)) (b : Bool) → ready ≡ length (ready_events r s) →
      stops ≡ stops_in (net_of r s.net).node s.net.graph.nodes → (b ≡ true) ↔ ((ready ≡ 0) × (stops ≡ [])) →
      (b ≡ true) ↔ HasEnded r s.net.graph s.wake s.net.trace
  ended_by s ready stops b counted noted is = (
    λ yes. let both = is.0 yes in record { over = nil_from_length _ (sym counted ∙ both.0); none = sym noted ∙ both.1 },
    λ over. is.1 (counted ∙ ap (λ es. length es) over.over, noted ∙ over.none),
  )

  -- what is counted of a net, but for the end
  counted_so : (bound : Shape → ℕ) (g : Shape) (es : List Event) (f : Figures) → AreCounts r bound g es f →
      AreCounts r bound g es (record f { ended = false })
  counted_so bound g es f counts =
      let messages = counts.messages in
      record {
        nodes = counts.nodes;
        links = counts.links;
        events = counts.events;
        messages = record {
          sent = messages.sent;
          kinds = messages.kinds;
          requeued = messages.requeued;
          queued = messages.queued;
          bound = messages.bound;
          within = messages.within;
        };
        level = counts.level;
        fragments = counts.fragments;
        weight = counts.weight;
        ended = refl;
        lengths = counts.lengths;
        room = record { weight = counts.room.weight; bits = counts.room.bits };
      }

  -- the figures of the world whose net that is
  pub figures_here : (bound : Shape → ℕ) (s : WorldState) (n : NetState) (f : Figures) (ready : ℕ) (stops : List (ℕ × Stop)) (b : Bool) →
      n ≡ s.net → AreCounts r bound n.graph n.trace f → ready ≡ length (ready_events r s) →
      stops ≡ stops_in (net_of r n).node n.graph.nodes → (b ≡ true) ↔ ((ready ≡ 0) × (stops ≡ [])) →
      AreFigures r bound s.net.graph s.wake s.net.trace (record f { ended = b })
  figures_here bound s n f ready stops b same counts counted noted is = record {
    counts = counted_so bound s.net.graph s.net.trace f (subst (λ (m : NetState). AreCounts r bound m.graph m.trace f) same counts);
    ended = ended_by s ready stops b counted (subst (λ (m : NetState). stops ≡ stops_in (net_of r m).node m.graph.nodes) same noted) is;
  }

  module _ (bound : Shape → ℕ) (book : List Entry) (check : Option Check) (seed turns : ℕ) (g copy : Shape) (wake : WakeSet) (s : WorldState)
      (same : copy ≡ g) (own : s.net.graph ≡ copy) (woken : s.wake ≡ wake) (run : IsRunOf r seed turns copy wake s.net.trace) where
    -- what is told of the world that the seed's run has left of a copy of the graph is told of that run
    pub figures_of_run : {E : Type 0} (x : Result BookFigures E) →
        IfOk x (λ f. AreFigures r bound s.net.graph s.wake s.net.trace f.figures) →
        IfOk x (λ f. f.lacking.items ≡ lacking book s.net.graph (stops_in (net_of r s.net).node s.net.graph.nodes)) →
        IfOk x (λ f. f.faults.items ≡ faults book s.net.graph (stops_in (net_of r s.net).node s.net.graph.nodes)) →
        IfOk x (λ f. IsChecked book s.net.graph (net_of r s.net).node check f.wrong.items) →
        IfOk x (AreFiguresOf r bound book check seed turns g wake)
    figures_of_run (Ok f) figures lacks says wrong = record {
      events = s.net.trace;
      run = subst (λ h. IsRunOf r seed turns h wake s.net.trace) same run;
      figures =
          subst (λ h. AreFigures r bound h wake s.net.trace f.figures) (own ∙ same)
          (subst (λ k. AreFigures r bound s.net.graph k s.net.trace f.figures) woken figures);
      lacking = subst (λ h. f.lacking.items ≡ lacking book h (stops_in (net_after r h s.net.trace).node h.nodes)) (own ∙ same) lacks;
      faults = subst (λ h. f.faults.items ≡ faults book h (stops_in (net_after r h s.net.trace).node h.nodes)) (own ∙ same) says;
      wrong = subst (λ h. IsChecked book h (net_after r h s.net.trace).node check f.wrong.items) (own ∙ same) wrong;
    }
    figures_of_run (Err e) figures lacks says wrong = tt
