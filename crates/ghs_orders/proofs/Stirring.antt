-- What an event leaves of what is kept.
use Rattle.std.proofs.Common.{◌≡◌, [], ◌∷◌, ◌++◌, length, get_or, sym, ◌∙◌, ap, subst, subst₂}
use Rattle.ghs_graph.specs.Graph.{Shape}
use Rattle.ghs_node.specs.declared.delta.Delta.{Delta}
use Rattle.ghs_node.specs.declared.head.Head.{Head}
use Rattle.peer_network.specs.declared.event.Event.{Event}
use Rattle.peer_network.specs.declared.event.Event.TheVariants.{Wake, Take}
use Rattle.peer_network.specs.Network.{network_of}
use Rattle.peer_network.specs.Events.{event_node}
use Rattle.ghs_protocol.specs.Run.{IsRun}
use Rattle.ghs_core.specs.NetState.{IsAnswer, network}
use Rattle.peer_index.specs.Places.{HasPlace, all_events, place}
use Rattle.peer_network.specs.declared.wake_set.WakeSet.{WakeSet}
use Rattle.ghs_world.specs.Steps.{Makes}
use Rattle.peer_network.specs.Wakes.{may_wake}
use Rattle.ghs_world.specs.WorldState.{WorldState, home}
use Rattle.ghs_patient.proofs.lemmas.Stirring.{same_moves}
use Rattle.ghs_patient.proofs.lemmas.Stirring as patient
use Rattle.ghs_orders.specs.Kept.{AreLatest, AreLatestBefore, AreNumbers, IsUnranked, LatestState, rank_by, rank_if}
use Rattle.ghs_orders.specs.Newest.{newest_of, sent}
use Rattle.ghs_orders.specs.LifoRuns.{newest_in}
use Rattle.ghs_orders.proofs.Counting.{newest_of_more}

module _ (s t : WorldState) (e : Event) (d : Delta) (x : LatestState) (are : AreLatest s x) (made : Makes s e t) (answer : IsAnswer s.net e d)
    (is_run : IsRun (network s.net) s.net.trace) where
  abbrev before : Head
  before = ((home s).node (event_node e)).head

  abbrev Ranks : Shape → WakeSet → Type 0
  Ranks g wake = (f : Event) → HasPlace (network_of g) f → (IsUnranked (network_of g) e before d f → ⊥) →
      get_or x.ranks (place (network_of g) f) 0 ≡ rank_by (may_wake g wake) (network_of g) (home t) x.numbers.newest f

  ranks : Ranks s.net.graph s.wake
  ranks (Wake u) there none = are.ranks.rank (Wake u) there
  ranks (Take u q) there none =
      are.ranks.rank (Take u q) there
      ∙ ap (λ b. rank_if b (get_or x.numbers.newest (place (network s.net) (Take u q)) 0))
      (sym (same_moves (network s.net) (may_wake s.net.graph s.wake) (home s) (home t) e d made.event answer (Take u q) none))

  grown : newest_in t ≡ sent (network t.net) (event_node e) d.sends (newest_in s)
  grown =
      ap (newest_of (network t.net)) made.trace ∙ ap (λ (g : Shape). newest_of (network_of g) (s.net.trace ++ e ∷ [])) made.graph
      ∙ newest_of_more s.net e d (home t) is_run made.event answer
      ∙ ap (λ (g : Shape). sent (network_of g) (event_node e) d.sends (newest_in s)) (sym made.graph)

  pub keeps : AreLatestBefore t e before d x
  keeps = record {
    choices = patient.keeps s t e d x.choices are.choices made answer;
    newest = newest_in s;
    numbers = subst (λ (g : Shape). AreNumbers (network_of g) (newest_in s) x.numbers) (sym made.graph) are.numbers;
    grown = grown;
    ranks = record {
      many = subst (λ (g : Shape). length x.ranks ≡ length (all_events (network_of g))) (sym made.graph) are.ranks.many;
      rank = subst₂ Ranks (sym made.graph) (sym made.wake) ranks;
    };
  }
