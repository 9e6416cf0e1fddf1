use Rattle.std.proofs.Common.{◌≡◌, ◌+◌, ◌-◌, ◌<◌, ◌≤◌, ◌%◌, arith}
use Rattle.std.proofs.Math.Nat.{mod-lt}
use Rattle.ghs_make.proofs.Parts.{part_some, part_within}
use Rattle.ghs_make.proofs.picks.pick.Goals as goal

pub overflow_cast-result : goal.overflow_cast-result
overflow_cast-result c =
    let parting = c.args.parting.now in
    let here = c.requires.here in
    let each = c.requires.each in
    let few = c.requires.few in
    let more = part_some parting.nodes parting.parts c.args.part (omega arith) each in
    let within = part_within parting.nodes parting.parts (c.args.part + 1) (omega arith) in
    let start = c.part_start-start.ensures in
    let end = c.part_start.ensures in
    let some : 0 < c.part_start.result - c.part_start-start.result = omega arith in
    let offset : c.word.result % (c.part_start.result - c.part_start-start.result) < c.part_start.result - c.part_start-start.result =
    mod-lt _ some in
    omega arith
