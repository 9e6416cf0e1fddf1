use Rattle.ghs_shared.proofs.queue.+count_up.Given as goal

abbrev pub decreases-count_up : goal.decreases-count_up
decreases-count_up l = l.number
