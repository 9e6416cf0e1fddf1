use Rattle.std.proofs.Common.{◌≡◌, ◌-◌, ◌++◌}
use Rattle.ghs_make.specs.Ends.{firsts, pick}
use Rattle.ghs_make.proofs.picks.put_picked_ends.Given as goal

abbrev pub invariant-loop-part : goal.invariant-loop-part
invariant-loop-part l = l.ends.items ≡ l.fn.ends.items ++ firsts (pick l.parting.seed l.parting.first l.parting.nodes l.parting.parts) l.part
