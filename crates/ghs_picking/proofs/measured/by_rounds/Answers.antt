use Rattle.ghs_picking.proofs.Happening.{rounds_are_chain}
use Rattle.ghs_picking.proofs.measured.by_rounds.Goals as goal

pub with_chain-requires : goal.with_chain-requires
with_chain-requires c = record {
  chain = rounds_are_chain c.args.seed c.args.world.now.wake c.args.world.now.turns c.args.world.now.net.graph c.run_timed-rounds.new.world
      c.run_timed-rounds.result.0
      c.in-Some.rounds c.run_timed-rounds.result.1 c.in-Ok.field-0 c.run_timed-rounds.ensures.graph c.run_timed-rounds.ensures.rounds c.in-Some.is
      c.run_timed-rounds.ensures.halted c.in-Ok.is;
}
