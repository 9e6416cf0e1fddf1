use Rattle.std.proofs.Common.{◌≢◌, ◌∙◌, IfErr, IfOk, ap, subst}
use Rattle.peer_texts.specs.Reading.{HaveFault, IsTrace}
use Rattle.peer_texts.specs.declared.fault.TraceFault.TheVariants.{Memory}
use Rattle.peer_trace.specs.Head.{fields_in}
use Rattle.peer_trace.proofs.Heads.{says-plain}
use Rattle.peer_trace.proofs.trace.read_plain.Goals as goal

pub returns-clause-events : goal.returns-clause-events
returns-clause-events c =
    subst (λ lines. IfOk c.read_trace.result (λ events. IsTrace lines events.items))
    (says-plain c.deref.result.now c.args.text.now (ap fields_in c.deref.ensures.value ∙ c.in_ok-plain.ensures)) c.read_trace.ensures.events

pub returns-clause-fault : goal.returns-clause-fault
returns-clause-fault c =
    subst (λ lines. IfErr c.read_trace.result (λ fault. fault ≢ Memory → HaveFault lines fault))
    (says-plain c.deref.result.now c.args.text.now (ap fields_in c.deref.ensures.value ∙ c.in_ok-plain.ensures)) c.read_trace.ensures.fault
