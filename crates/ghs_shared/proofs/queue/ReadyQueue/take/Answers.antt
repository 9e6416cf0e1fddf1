use Rattle.std.proofs.Common.{sym, ap, ◌∙◌, arith}
use Rattle.crossbeam_queue.specs.Passes.{view}
use Rattle.ghs_shared.proofs.QueueMoves.{takes, learns, held, some_share}
use Rattle.ghs_shared.proofs.queue.ReadyQueue.take.Goals as goal

pub pop_as-requires-clause-rule : goal.pop_as-requires-clause-rule
pop_as-requires-clause-rule g c =
    let i = c.pass.invariant in
    let s = some_share _ _ i.1 i.2 in
    (takes _ _ s, learns _ _ s)

pub returns-in_default-clause-empty : goal.returns-in_default-clause-empty
returns-in_default-clause-empty g c =
    let same = ap (λ b. b.name.all) c.pass.view_is ∙ ap (λ n. n.all) c.requires ∙ sym (ap (λ q. q.name.all) c.self.view_is) in
    rw (← c.pass.view_is, ← c.self.view_is)
    (λ whole. let h = held (view c.pass.inside.pass) 0 c.in_default.ensures.rule.1 (whole ∙ sym same) in omega arith)
