use Rattle.std.proofs.Common.{get_or, refl}
use Rattle.ghs_graph.specs.Key.{no_key}
use Rattle.ghs_graph.proofs.Growing.{spanned_more}
use Rattle.ghs_graph.proofs.spanning.span.Goals as goal

pub loop-key-preserved : goal.loop-key-preserved
loop-key-preserved c =
    spanned_more c.args.nodes c.args.keys.now c.loop-key.key-index (get_or c.args.keys.now c.loop-key.key-index no_key) c.loop-key.spanning.roots
    c.take.new.self.roots c.loop-key.spanning.tree.items c.take.new.self.tree.items c.requires.rising c.loop-key-test.true refl
    (λ js. c.in_ok-take.ensures c.args.nodes js) c.loop-key.invariant
