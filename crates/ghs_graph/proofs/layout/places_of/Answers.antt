use Rattle.ghs_graph.proofs.Blocks.{one_placed}
use Rattle.ghs_graph.proofs.layout.places_of.Goals as goal

pub loop-key-preserved : goal.loop-key-preserved
loop-key-preserved c =
    let both = one_placed c.args.nodes c.args.keys.now c.loop-key.counts.items c.loop-key.key-index c.index-at_a.result.now c.index-at_b.result.now
    c.loop-key.places.items c.push.new.self.items c.requires.among c.loop-key-test.true c.loop-key.invariant.counts c.index-at_a.ensures
    c.index-at_b.ensures c.loop-key.invariant.places c.in_ok-push.ensures.items in
    record { counts = both.0; places = both.1 }
