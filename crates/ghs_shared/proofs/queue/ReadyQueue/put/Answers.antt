use Rattle.std.proofs.Common.{◌≡◌, sym, ap, ◌∙◌}
use Rattle.crossbeam_queue.specs.Passes.{view}
use Rattle.ghs_shared.proofs.QueueMoves.{puts, learns, held, some_share}
use Rattle.ghs_shared.proofs.queue.ReadyQueue.put.Goals as goal

pub push_as-requires-clause-rule : goal.push_as-requires-clause-rule
push_as-requires-clause-rule g c =
    let i = c.pass.invariant in
    let s = some_share _ _ i.1 i.2 in
    (puts _ _ _ _ s, learns _ _ s)

pub returns-clause-full : goal.returns-clause-full
returns-clause-full g c = rw (← c.pass.view_is, ← c.self.view_is)
    (λ whole. held (view c.pass.inside.pass) _ c.in-Err.ensures.rule.2 (whole ∙ sym (all_same g c)))
  where
    all_same : (g : _) (c : goal.In-Err g) → (view c.pass.inside.pass).all ≡ c.self.inside.all
    all_same g c = ap (λ b. b.name.all) c.pass.view_is ∙ ap (λ n. n.all) c.requires ∙ sym (ap (λ q. q.name.all) c.self.view_is)
