use Rattle.ghs_rounds.proofs.Settling.{begun}
use Rattle.ghs_rounds.proofs.rounds.Rounds.of.Goals as goal

pub returns-clause-rounds : goal.returns-clause-rounds
returns-clause-rounds c =
    begun c.args.world.now c.in_ok-clock.clock c.in_ok-choices.choices c.new-fresh.result.items c.graph.result.now c.graph.ensures c.requires.trace
    c.in_ok-clock.ensures.fits c.in_ok-clock.ensures.none c.in_ok-choices.ensures c.new-fresh.ensures.items
