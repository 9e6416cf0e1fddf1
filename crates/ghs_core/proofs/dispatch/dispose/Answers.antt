use Rattle.ghs_core.proofs.dispatch.dispose.Goals as goal

pub returns-in-Take : goal.returns-in-Take
returns-in-Take c = rw c.in-Take.is (λ m ms e. (c.meet_fate.ensures.met m ms e, c.meet_fate.ensures.counts m ms e))
