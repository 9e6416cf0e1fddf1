use Rattle.std.proofs.Common.{take}
use Rattle.ghs_outcomes.specs.Outcomes.{HasRunsBehind, by_any}
use Rattle.ghs_outcomes.proofs.any.put_runs.Given as goal

abbrev pub invariant-loop-k : goal.invariant-loop-k
invariant-loop-k g l =
    HasRunsBehind (by_any g.P.Protocol.rules g.P.Spoken.words.kind g.P.Protocol.bound l.protocol) l.explored.graph l.explored.wake
    (take l.k l.explored.rows) l.fn.text.items l.text.items
