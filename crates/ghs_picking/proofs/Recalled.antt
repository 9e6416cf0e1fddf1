-- What was out before a patient run doesn't matter to it.
use Rattle.std.proofs.Common.{◌≡◌, ℕ, List, [], ap, sym, subst}
use Rattle.ghs_patient.specs.Runs.{HasRun, HasTurns}
use Rattle.ghs_world.specs.Outs.{Outs}
use Rattle.ghs_world.specs.WorldState.{WorldState}

-- where nothing is out it is as recalled
pub recalled : (s : WorldState) → s.outs ≡ [] → s ≡ record s { outs = [] }
recalled s home = ap (λ (o : Outs). record s { outs = o }) home

pub run_recalled : (s t new : WorldState) (words after : List ℕ) → t ≡ record s { outs = [] } → HasRun t new words after → HasRun s new words after
run_recalled s t new words after e run =
    let z = subst (λ (x : WorldState). HasRun x new words after) e run in
    record { graph = z.graph; wake = z.wake; turns = z.turns; outs = z.outs; numbers = z.numbers; picked = z.picked }

pub turns_recalled : (s t : WorldState) → t ≡ record s { outs = [] } → HasTurns s → HasTurns t
turns_recalled s t e enough =
    let same : HasTurns (record s { outs = [] }) =
    record { bound = enough.bound; is = enough.is; turns = enough.turns; numbers = enough.numbers } in
    subst HasTurns (sym e) same
