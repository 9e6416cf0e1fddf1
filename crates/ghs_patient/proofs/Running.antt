-- What a patient run keeps.
use Rattle.std.proofs.Common.{List, [], ℕ}
use Rattle.ghs_core.specs.NetState.{network}
use Rattle.ghs_world.specs.WorldState.{WorldState, home, wakers}
use Rattle.ghs_patient.specs.Keeping.{HasGone, IsNextAmong}
use Rattle.ghs_patient.specs.Runs.{patient_after}
use Rattle.ghs_patient.proofs.lemmas.Picks.{pick_is_patient}
use Rattle.ghs_patient.proofs.lemmas.Gone.{among_grown}
use Rattle.ghs_patient.proofs.lemmas.Growing.{HasGrown}

pub patient_grown : (old new : WorldState) (words after : List ℕ) → HasGone (IsNextAmong patient_after) (record old { outs = [] }) words new after →
    HasGrown old.net.graph old.net.trace new.net.trace
patient_grown old new words after gone =
    among_grown patient_after old words (λ s used rest e out next. pick_is_patient (wakers s) (network s.net) (home s) used e next.0) gone
