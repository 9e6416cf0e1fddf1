use Rattle.std.proofs.Common.{◌≡◌, map, take}
use Rattle.own_judge.specs.Deed.{spelled}
use Rattle.own_judge.proofs.deed.posted.Given as goal

abbrev pub invariant-loop-port : goal.invariant-loop-port
invariant-loop-port l = l.list.items ≡ map spelled (take l.port-index l.sends)
