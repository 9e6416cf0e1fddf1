use Rattle.peer_index.proofs.placed.Placed.take.Goals as goal

pub returns-clause-placed : goal.returns-clause-placed
returns-clause-placed c = λ g is port. rw c.node.ensures (record { event = port; base = is.base })
