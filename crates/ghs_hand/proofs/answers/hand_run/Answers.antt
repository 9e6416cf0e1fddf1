use Rattle.std.proofs.Common.{inl}
use Rattle.ghs_hand.specs.Answers.{HasNoRun, IsRunText}
use Rattle.peer_hand.proofs.lemmas.Handing.{handed}
use Rattle.ghs_hand.proofs.answers.hand_run.Goals as goal

pub returns : goal.returns
returns c =
    let a = c.args in
    handed (λ text. text.items) (IsRunText a.wake a.graph.now a.trace.now a.patient a.seed) (HasNoRun a.wake a.graph.now a.trace.now a.patient a.seed)
    c.run_of.result _ _ _ c.run_of.ensures.text c.run_of.ensures.fault (inl tt) c.hand_over.ensures
