use Rattle.std.proofs.Common.{◌∙◌, ap, not, sym, subst}
use Rattle.ghs_core.specs.NetState.{net_of, network}
use Rattle.peer_index.specs.Places.{HasPlace}
use Rattle.ghs_patient.proofs.Going.{first_goes, none_goes}
use Rattle.ghs_patient.proofs.lemmas.Stirring.{port_below}
use Rattle.ghs_patient.proofs.choices.goes.Goals as goal

pub front_from-requires-clause-start : goal.front_from-requires-clause-start
front_from-requires-clause-start c = rw c.requires.take at c.start_of.ensures

pub front_from-requires-clause-port : goal.front_from-requires-clause-port
front_from-requires-clause-port c = subst (HasPlace (network c.args.net.now)) c.requires.take c.requires.placed.event

pub waits-requires : goal.waits-requires
waits-requires c =
    rw c.node.ensures (port_below c.args.net.now c.args.v c.args.port c.trace.ensures.graph c.trace.ensures.run
    (subst (HasPlace (network c.args.net.now)) c.requires.take c.requires.placed.event))

pub returns-in-Some : goal.returns-in-Some
returns-in-Some c = λ may.
    ap not (rw c.node.ensures at c.waits.ensures.test)
    ∙ sym (first_goes may (network c.args.net.now) (net_of c.args.net.now) c.args.v c.args.port
    (subst (HasPlace (network c.args.net.now)) c.requires.take c.requires.placed.event) c.in-Some.message
    (sym c.front_from.ensures ∙ c.in-Some.is))

pub returns-in-None : goal.returns-in-None
returns-in-None c = λ may.
    sym (none_goes may (network c.args.net.now) (net_of c.args.net.now) c.args.v c.args.port
    (subst (HasPlace (network c.args.net.now)) c.requires.take c.requires.placed.event) (sym c.front_from.ensures ∙ c.in-None.is))
