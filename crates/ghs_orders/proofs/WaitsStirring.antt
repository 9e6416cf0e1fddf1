-- What an event leaves of the marks.
use Rattle.std.proofs.Common.{◌≡◌, ◌∙◌, sym, subst}
use Rattle.ghs_graph.specs.Graph.{Shape}
use Rattle.ghs_node.specs.declared.delta.Delta.{Delta}
use Rattle.ghs_node.specs.declared.head.Head.{Head}
use Rattle.peer_network.specs.declared.event.Event.{Event}
use Rattle.peer_network.specs.Network.{network_of}
use Rattle.peer_network.specs.Events.{event_node}
use Rattle.ghs_core.specs.NetState.{IsAnswer, network}
use Rattle.ghs_flags.specs.Flags.{at}
use Rattle.peer_index.specs.Index.{IndexState, IsFor}
use Rattle.peer_index.specs.Places.{HasPlace, place}
use Rattle.peer_index.proofs.lemmas.Marks.{is_for, mark_is}
use Rattle.ghs_world.specs.Steps.{Makes}
use Rattle.peer_network.specs.Wakes.{may_wake}
use Rattle.ghs_world.specs.WorldState.{WorldState, home}
use Rattle.ghs_patient.specs.Choices.{IsStirred}
use Rattle.ghs_patient.specs.Patience.{puts_back}
use Rattle.ghs_patient.proofs.lemmas.Stirring.{same_back}
use Rattle.ghs_orders.specs.Marks.{AreMarks, AreMarksBut}

-- the marks of the world before an event are those of the world after it, but for what it has stirred
module _ (s t : WorldState) (e : Event) (d : Delta) (x : IndexState) (are : AreMarks s x) (made : Makes s e t) (answer : IsAnswer s.net e d) where
  abbrev before : Head
  before = ((home s).node (event_node e)).head

  abbrev Marks : Shape → Type 0
  Marks g = (f : Event) → HasPlace (network_of g) f → (IsStirred (network_of g) e before d f → ⊥) →
      at x.marks (place (network_of g) f) ≡ puts_back (home t) f

  marks : Marks s.net.graph
  marks f there none =
      mark_is (network s.net) (puts_back (home s)) x f are there
      ∙ sym (same_back (network s.net) (may_wake s.net.graph s.wake) (home s) (home t) e d made.event answer f none)

  pub keeps : AreMarksBut t (IsStirred (network t.net) e before d) x
  keeps = record {
    for_all = subst (λ (g : Shape). IsFor (network_of g) x) (sym made.graph) (is_for (network s.net) (puts_back (home s)) x are);
    marks = subst Marks (sym made.graph) marks;
  }
