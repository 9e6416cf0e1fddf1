use Rattle.std.proofs.Common.{◌∙◌, ◌+◌, get_or, sym, ap}
use Rattle.ghs_graph.specs.Key.{no_key}
use Rattle.ghs_report.proofs.merging.merged.Goals as goal

pub loop-key-init : goal.loop-key-init
loop-key-init c = record {
  count = c.in_ok-fragments.ensures.count ∙ ap (λ n. n + 1) c.nodes.ensures.nodes;
  merged = c.in_ok-fragments.ensures.merged c.args.graph.now.keys;
}

pub loop-key-preserved : goal.loop-key-preserved
loop-key-preserved c = record {
  count = c.take.ensures.count ∙ c.loop-key.invariant.count;
  merged =
      c.take.ensures.merged c.args.graph.now.keys c.loop-key.key-index c.keys-key-items.ensures.graph.rising
      (rw (← c.keys-key-items.ensures.keys) c.loop-key-test.true)
      (ap (λ ks. get_or ks c.loop-key.key-index no_key) (sym c.keys-key-items.ensures.keys)) c.loop-key.invariant.merged;
}
