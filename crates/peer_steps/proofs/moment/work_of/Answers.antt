use Rattle.std.proofs.Common.{subst}
use Rattle.peer_network.specs.declared.event.Event.{Event}
use Rattle.peer_net.specs.NetState.{IsLawful}
use Rattle.peer_steps.proofs.Lawful.{lawful_port}
use Rattle.peer_steps.proofs.moment.work_of.Goals as goal

pub front-requires : goal.front-requires
front-requires g c = lawful_port g.P.Protocol.rules c.args.net.now _ _ (subst (λ
    (e : Event). IsLawful g.P.Protocol.rules c.args.net.now e) c.in-Take.is c.requires)
