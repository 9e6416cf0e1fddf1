use Rattle.std.proofs.Common.{inl}
use Rattle.peer_hand.specs.Answers.{HasNoRun, IsRunText}
use Rattle.peer_hand.proofs.lemmas.Handing.{handed}
use Rattle.peer_hand.proofs.answers.hand_run.Goals as goal

pub returns : goal.returns
returns g c =
    let a = c.args in
    let r = g.P.Protocol.rules in
    handed (λ text. text.items) (IsRunText r g.P.Ends.has_ended a.protocol a.wake a.graph.now a.trace.now a.seed)
    (HasNoRun r g.P.Ends.has_ended a.protocol a.wake a.graph.now a.trace.now a.seed)
    c.run_of.result _ _ _ c.run_of.ensures.text c.run_of.ensures.fault (inl tt) c.hand_over.ensures
