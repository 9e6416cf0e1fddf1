use Rattle.std.proofs.Common.{◌∙◌, sym}
use Rattle.ghs_gr.proofs.Passes.{stopped}
use Rattle.ghs_gr.proofs.pass.Pass.go_over.Goals as goal

pub returns-then-is_some-clause-pass : goal.returns-then-is_some-clause-pass
returns-then-is_some-clause-pass c = λ lines h.
    let i = c.lines.invariant.pass lines h in
    stopped lines i.0 _ _ c.lines.self (sym c.is_some.ensures ∙ c.if-is_some.true) i.1 i.2
