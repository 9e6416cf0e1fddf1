use Rattle.peer_index.proofs.lemmas.Places.{of_own_node}
use Rattle.peer_index.proofs.placed.Placed.wake.Goals as goal

pub returns-clause-placed : goal.returns-clause-placed
returns-clause-placed c = λ g is.
    rw c.node.ensures (record { event = of_own_node g c.args.self.event is.event; base = is.base })
