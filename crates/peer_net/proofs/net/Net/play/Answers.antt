use Rattle.peer_net.proofs.net.Net.play.Goals as goal

pub returns-clause-sends : goal.returns-clause-sends
returns-clause-sends g c = rw c.placed-placed.ensures.event at c.play_placed.ensures.sends
