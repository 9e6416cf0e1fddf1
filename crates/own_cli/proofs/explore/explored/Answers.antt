use Rattle.std.proofs.Common.{◌∙◌, ap, subst, sym}
use Rattle.std.specs.Prelude.{IfErr, IfOk}
use Rattle.own_runs.specs.Mark.{mark_of}
use Rattle.own_cli.specs.Explore.{HasNoOwnExploration, IsOwnExploration}
use Rattle.own_cli.proofs.explore.explored.Goals as goal

pub explored_under-requires-clause-mark : goal.explored_under-requires-clause-mark
explored_under-requires-clause-mark c = c.in_ok-mark.ensures ∙ ap mark_of (sym c.in_ok-rules.ensures)

pub returns-clause-told : goal.returns-clause-told
returns-clause-told c =
    subst (λ b. IfOk c.explored_under.result (λ told. IsOwnExploration c.args.options.now c.args.check c.args.graph.now b told.end told.text.items))
    c.in_ok-rules.ensures c.explored_under.ensures.told

pub returns-clause-fault : goal.returns-clause-fault
returns-clause-fault c =
    subst (λ b. IfErr c.explored_under.result (HasNoOwnExploration c.args.options.now c.args.check c.args.graph.now b)) c.in_ok-rules.ensures
    c.explored_under.ensures.fault
