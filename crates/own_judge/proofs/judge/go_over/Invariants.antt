use Rattle.std.proofs.Common.{◌≡◌, false, [], length, take, drop, vec_len}
use Rattle.own_judge.specs.Judging.{carried}
use Rattle.own_judge.specs.Verdict.{looks, looks_behind}
use Rattle.own_judge.proofs.judge.go_over.Given as goal

abbrev pub invariant-loop-event : goal.invariant-loop-event
invariant-loop-event l = record {
  graph : l.net.graph ≡ l.fn.graph;
  trace : l.net.trace ≡ take l.event-index l.events;
  nodes : length l.owns.items ≡ l.fn.graph.nodes;
  places : vec_len l.owns ≡ l.fn.graph.nodes;
  empty : l.asked ≡ false → l.text.items ≡ [];
  same : carried l.fn.asked l.fn.text.items 0 (looks l.book l.kinds l.fn.graph l.events)
      ≡ carried l.asked l.text.items l.event-index
      (looks_behind l.book l.kinds l.fn.graph (take l.event-index l.events) l.owns.items (drop l.event-index l.events));
}
