use Rattle.peer_index.proofs.lemmas.Marks.{marked_one}
use Rattle.peer_net.specs.NetState.{network}
use Rattle.peer_runs.specs.WorldState.{lawful_in}
use Rattle.peer_runs.proofs.upkeep.mark.Goals as goal

pub returns : goal.returns
returns g c =
    marked_one (network c.args.net.now) (lawful_in g.P.Protocol.rules c.args.net.now c.args.wake) c.args.placed.event c.args.index.now
    c.set_placed.new.self
    c.may_happen_placed.result (rw c.graph.ensures at c.set_placed.ensures) c.may_happen_placed.ensures c.requires.placed.event
