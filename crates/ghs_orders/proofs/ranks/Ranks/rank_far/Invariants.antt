use Rattle.std.proofs.Common.{◌≡◌, drop}
use Rattle.ghs_core.specs.NetState.{network}
use Rattle.ghs_patient.specs.Choices.{far_takes}
use Rattle.ghs_orders.specs.Kept.{ranked_all}
use Rattle.ghs_orders.proofs.Ranking.{IsRankEach}
use Rattle.ghs_orders.proofs.ranks.Ranks.rank_far.Given as goal

abbrev pub invariant-loop-port : goal.invariant-loop-port
invariant-loop-port l = record {
  many : IsRankEach l.world l.self;
  ranked : ranked_all l.world l.numbers.newest (far_takes (network l.world.net) l.v (drop l.port-index l.sends)) l.self ≡ ranked_all l.world
      l.numbers.newest (far_takes (network l.world.net) l.v l.sends) l.fn.self;
}
