use Rattle.std.proofs.Common.{take}
use Rattle.ghs_outcomes.specs.Outcomes.{HasRunsBehind, by_ghs}
use Rattle.ghs_outcomes.proofs.ghs.put_runs.Given as goal

abbrev pub invariant-loop-k : goal.invariant-loop-k
invariant-loop-k l = HasRunsBehind by_ghs l.explored.graph l.explored.wake (take l.k l.explored.rows) l.fn.text.items l.text.items
