use Rattle.std.proofs.Common.{sym, ap, ◌∙◌}
use Rattle.crossbeam_queue.specs.Passes.{view}
use Rattle.ghs_shared.proofs.QueueMoves.{learns, held, some_share}
use Rattle.ghs_shared.proofs.queue.ReadyQueue.len.Goals as goal

pub len_as-requires-clause-rule : goal.len_as-requires-clause-rule
len_as-requires-clause-rule g c = let i = c.pass.invariant in learns _ _ (some_share _ _ i.1 i.2)

pub returns-clause-all : goal.returns-clause-all
returns-clause-all g c =
    let same = ap (λ b. b.name.all) c.pass.view_is ∙ ap (λ n. n.all) c.requires ∙ sym (ap (λ q. q.name.all) c.self.view_is) in
    rw (← c.pass.view_is, ← c.self.view_is)
    (λ whole. held (view c.pass.inside.pass) _ c.len_as.ensures.rule.1 (whole ∙ sym same))
