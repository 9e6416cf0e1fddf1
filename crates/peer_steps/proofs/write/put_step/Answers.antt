use Rattle.std.proofs.Common.{◌++◌, ◌∙◌, ap}
use Rattle.peer_steps.proofs.Making.{line_is}
use Rattle.peer_steps.proofs.write.put_step.Goals as goal

pub returns-clause-text : goal.returns-clause-text
returns-clause-text g c =
    let s = c.args.net.now in
    let made = c.in_ok-effects.ensures in
    c.in_ok-put_line.ensures
    ∙ ap (λ t. c.args.text.now.items ++ t)
    (line_is g.P.Protocol.rules g.P.Spoken.words c.args.form s.graph s.trace c.args.event c.make.new.net _ _ _ _ made.graph made.trace
    c.in_ok-moment.ensures
    made.changes made.sends c.total.ensures)
