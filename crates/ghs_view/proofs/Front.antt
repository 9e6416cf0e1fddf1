-- The first events of a run are a run.
use Rattle.std.proofs.Common.{ℕ, List, take, drop, ◌∙◌, ap}
use Rattle.std.proofs.lemmas.List.{take-append-drop}
use Rattle.peer_network.specs.declared.event.Event.{Event}
use Rattle.peer_network.specs.Network.{Network}
use Rattle.ghs_protocol.specs.Net.{opening}
use Rattle.ghs_protocol.specs.Run.{IsRun, run}
use Rattle.ghs_protocol.proofs.lemmas.Runs.{run_splits}

pub front_is_run : (n : Network) (es : List Event) (k : ℕ) → IsRun n es → IsRun n (take k es)
front_is_run n es k is_run =
    run_splits n (take k es) (drop k es) (opening n) is_run.0
    (ap (λ (fs : List Event). run n fs (opening n)) (take-append-drop k es) ∙ is_run.1)
    (λ x front rest. (x, front))
