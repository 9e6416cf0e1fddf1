use Rattle.std.proofs.Common.{◌≡◌, subst, sym}
use Rattle.peer_network.specs.declared.event.Event.{Event}
use Rattle.ghs_world.specs.WorldState.{wakers}
use Rattle.ghs_patient.specs.Choices.{moves_in}
use Rattle.ghs_patient.proofs.choices.moves_on_placed.Goals as goal

pub returns-in-Take : goal.returns-in-Take
returns-in-Take c = subst (λ (e : Event). c.goes.result ≡ moves_in c.args.world.now e) (sym c.in-Take.is)
    ((rw c.net.ensures.net at c.goes.ensures) (wakers c.args.world.now))
