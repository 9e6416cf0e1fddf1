use Rattle.std.proofs.Common.{◌≡◌}
use Rattle.ghs_orders.specs.Kept.{ranked_to}
use Rattle.ghs_orders.proofs.Ranking.{IsRankEach}
use Rattle.ghs_orders.proofs.ranks.Ranks.rank_ports.Given as goal

abbrev pub invariant-loop-port : goal.invariant-loop-port
invariant-loop-port l = record {
  many : IsRankEach l.world l.self;
  ranked : l.self ≡ ranked_to l.world l.numbers.newest l.v l.port l.fn.self;
}
