use Rattle.std.proofs.Common.{List, subst}
use Rattle.std.specs.Prelude.{IfErr, IfOk}
use Rattle.peer_network.specs.declared.event.Event.{Event}
use Rattle.ghs_cli.specs.Verbs.{verbs_of}
use Rattle.ghs_cli.proofs.Serves.{cause_of_both, output_of_both}
use Rattle.ghs_cli.proofs.viewing.stored_view_of.Goals as goal

pub returns-clause-text : goal.returns-clause-text
returns-clause-text g c =
    let views = (verbs_of c.args.protocol).views_stored c.args.options.now in
    output_of_both c.args.options.now.wake c.stored_viewed_by.result (λ text. text.items)
    c.args.protocol views c.in_ok-graph.graph c.in_ok-events.events.items _ _
    (subst (λ (es : List Event). IfOk c.stored_viewed_by.result (λ text. views c.in_ok-graph.graph es text.items))
    c.deref.ensures.value c.stored_viewed_by.ensures.text)
    c.in_ok-events.ensures.events c.in_ok-graph.ensures.text

pub returns-clause-fault : goal.returns-clause-fault
returns-clause-fault g c =
    let cant_view = (verbs_of c.args.protocol).cant_view_stored c.args.options.now in
    cause_of_both c.args.options.now.wake c.stored_viewed_by.result c.args.protocol cant_view c.in_ok-graph.graph c.in_ok-events.events.items _ _
    (subst (λ (es : List Event). IfErr c.stored_viewed_by.result (cant_view c.in_ok-graph.graph es)) c.deref.ensures.value
    c.stored_viewed_by.ensures.fault)
    c.in_ok-events.ensures.events c.in_ok-graph.ensures.text
