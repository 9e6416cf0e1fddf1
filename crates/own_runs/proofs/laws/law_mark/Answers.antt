use Rattle.std.proofs.Common.{ap, arith}
use Rattle.std.proofs.Math.Seq.{take-append_seam}
use Rattle.std.proofs.lemmas.List.{length-append}
use Rattle.own_runs.specs.Sum.{sum_text}
use Rattle.own_runs.proofs.laws.law_mark.Goals as goal

pub returns : goal.returns
returns c = λ book more.
    let both = length-append book more in
    record { many = omega (arith, both); same = ap sum_text (take-append_seam book more) }
