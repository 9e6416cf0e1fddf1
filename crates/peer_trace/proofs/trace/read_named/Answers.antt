use Rattle.std.proofs.Common.{◌≡◌, ◌≢◌, ◌∙◌, IfErr, IfOk, ap, subst, sym}
use Rattle.peer_texts.specs.Line.{meanings}
use Rattle.peer_texts.specs.Reading.{HaveFault, IsTrace}
use Rattle.peer_texts.specs.declared.fault.TraceFault.TheVariants.{Memory}
use Rattle.peer_trace.specs.Head.{has_name}
use Rattle.peer_trace.specs.Reading.{says}
use Rattle.peer_trace.proofs.Heads.{says-same}
use Rattle.peer_trace.proofs.trace.read_named.Goals as goal

pub returns-then-not-has_name-clause-events : goal.returns-then-not-has_name-clause-events
returns-then-not-has_name-clause-events c =
    let same : meanings c.args.text.now ≡ says c.args.text.now =
    says-same c.args.text.now c.requires.unmarked (sym (ap has_name c.requires.named) ∙ sym c.has_name.ensures ∙ c.if-not-has_name.true) in
    subst (λ lines. IfOk c.read_trace.result (λ events. IsTrace lines events.items)) same c.read_trace.ensures.events

pub returns-then-not-has_name-clause-fault : goal.returns-then-not-has_name-clause-fault
returns-then-not-has_name-clause-fault c =
    let same : meanings c.args.text.now ≡ says c.args.text.now =
    says-same c.args.text.now c.requires.unmarked (sym (ap has_name c.requires.named) ∙ sym c.has_name.ensures ∙ c.if-not-has_name.true) in
    subst (λ lines. IfErr c.read_trace.result (λ fault. fault ≢ Memory → HaveFault lines fault)) same c.read_trace.ensures.fault
