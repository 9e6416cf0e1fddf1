-- The world to which two sound texts lead.
use Rattle.std.proofs.Common.{◌≡◌, ℕ, List, refl, sym, ◌∙◌, subst}
use Rattle.ghs_graph.specs.Graph.{Shape}
use Rattle.peer_network.specs.declared.event.Event.{Event}
use Rattle.peer_network.specs.declared.wake_set.WakeSet.{WakeSet}
use Rattle.peer_machine.specs.Rules.{Rules}
use Rattle.peer_machine.specs.Run.{IsRunUnder}
use Rattle.peer_net.specs.NetState.{network}
use Rattle.peer_runs.specs.Replays.{HasReplayed}
use Rattle.peer_runs.specs.WorldState.{WorldState, wakers}
use Rattle.peer_trace.specs.Reading.{HasEventsOf}
use Rattle.peer_trace.specs.declared.protocol.Protocol.{Protocol}
use Rattle.peer_hand.specs.Led.{IsLed}
use Rattle.peer_hand.specs.Texts.{IsTextOf}

pub leads : {S M : Type 0} (r : Rules S M) (p : Protocol) (wake : WakeSet) (graph trace : List ℕ) (g : Shape) (es played : List Event)
    (w : WorldState) →
    IsTextOf graph g → HasEventsOf p trace es → played ≡ es → HasReplayed g wake played w →
    IsRunUnder r (wakers w) (network w.net) w.net.trace →
    IsLed r p wake graph trace w
leads r p wake graph trace g es played w is has same done run = record {
  is_graph = subst (λ (s : Shape). IsTextOf graph s) (sym done.graph) is;
  is_trace = subst (λ (l : List Event). HasEventsOf p trace l) (sym (done.trace ∙ same)) has;
  replayed = record { graph = refl; wake_set = done.wake_set; trace = refl };
  run = run;
}
