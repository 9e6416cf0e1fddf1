-- The first events of a run are a run.
use Rattle.std.proofs.Common.{ℕ, List, take, drop, ◌∙◌, ap}
use Rattle.std.proofs.lemmas.List.{take-append-drop}
use Rattle.peer_network.specs.declared.event.Event.{Event}
use Rattle.peer_network.specs.Network.{Network}
use Rattle.peer_machine.specs.Net.{opening}
use Rattle.peer_machine.specs.Rules.{Rules}
use Rattle.peer_machine.specs.Run.{IsRun, run}
use Rattle.peer_machine.proofs.lemmas.Runs.{run_splits}

pub front_is_run : {S M : Type 0} (r : Rules S M) (n : Network) (es : List Event) (k : ℕ) → IsRun r n es → IsRun r n (take k es)
front_is_run r n es k is_run =
    run_splits r n (take k es) (drop k es) (opening r n) is_run.0
    (ap (λ (fs : List Event). run r n fs (opening r n)) (take-append-drop k es) ∙ is_run.1)
    (λ x front rest. (x, front))
