use Rattle.std.proofs.Common.{List, subst}
use Rattle.std.specs.Prelude.{IfErr, IfOk}
use Rattle.peer_network.specs.declared.event.Event.{Event}
use Rattle.ghs_cli.specs.Verbs.{verbs_of}
use Rattle.ghs_cli.proofs.Serves.{cause_of_both, output_of_both}
use Rattle.ghs_cli.proofs.replaying.replay_text_of.Goals as goal

pub returns-clause-text : goal.returns-clause-text
returns-clause-text g c =
    let replays = (verbs_of c.args.protocol).replays c.args.wake in
    output_of_both c.args.wake c.replayed_by.result (λ text. text.items)
    c.args.protocol replays c.in_ok-graph.graph c.in_ok-events.events.items _ _
    (subst (λ (es : List Event). IfOk c.replayed_by.result (λ text. replays c.in_ok-graph.graph es text.items))
    c.deref.ensures.value c.replayed_by.ensures.text)
    c.in_ok-events.ensures.events c.in_ok-graph.ensures.text

pub returns-clause-fault : goal.returns-clause-fault
returns-clause-fault g c =
    let cant_replay = (verbs_of c.args.protocol).cant_replay c.args.wake in
    cause_of_both c.args.wake c.replayed_by.result c.args.protocol cant_replay c.in_ok-graph.graph c.in_ok-events.events.items _ _
    (subst (λ (es : List Event). IfErr c.replayed_by.result (cant_replay c.in_ok-graph.graph es)) c.deref.ensures.value
    c.replayed_by.ensures.fault)
    c.in_ok-events.ensures.events c.in_ok-graph.ensures.text
