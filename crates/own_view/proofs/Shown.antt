-- The events that a page shows are a run.
use Rattle.std.proofs.Common.{ℕ, List, take, drop, length, ◌∙◌, ap}
use Rattle.std.specs.Prelude.{min}
use Rattle.std.proofs.lemmas.List.{take-append-drop}
use Rattle.ghs_graph.specs.Graph.{Shape}
use Rattle.peer_machine.specs.Net.{opening}
use Rattle.peer_machine.specs.Rules.{Rules}
use Rattle.peer_machine.specs.Run.{IsRun, run}
use Rattle.peer_machine.proofs.lemmas.Runs.{run_splits}
use Rattle.peer_network.specs.declared.event.Event.{Event}
use Rattle.peer_network.specs.Network.{network_of}
use Rattle.peer_page.specs.Limits.{events_to}

pub shown_is_run : {S M : Type 0} (r : Rules S M) (g : Shape) (es : List Event) (to : ℕ) → IsRun r (network_of g) es →
    IsRun r (network_of g) (events_to to es)
shown_is_run r g es to is_run =
    let k = min to (length es) in
    let n = network_of g in
    run_splits r n (take k es) (drop k es) (opening r n) is_run.0
    (ap (λ (fs : List Event). run r n fs (opening r n)) (take-append-drop k es) ∙ is_run.1)
    (λ x front rest. (x, front))
