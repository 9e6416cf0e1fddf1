use Rattle.std.proofs.Common.{◌≡◌, ℕ, ◌<◌, length, take, get_or, sum}
use Rattle.ghs_graph.proofs.layout.starts_of.Given as goal

abbrev pub invariant-loop-count : goal.invariant-loop-count
invariant-loop-count l = record {
  count : length l.starts.items ≡ l.count-index;
  end : l.at ≡ sum (take l.count-index l.counts);
  each : (v : ℕ) → v < l.count-index → get_or l.starts.items v 0 ≡ sum (take v l.counts);
}
