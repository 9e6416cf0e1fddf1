use Rattle.std.proofs.Common.{◌∙◌, ◌&&◌, List, get_or, sym, ap, rules}
use Rattle.std.proofs.lemmas.List.{get_or_default}
use Rattle.ghs_graph.specs.declared.key.Key.{Key}
use Rattle.ghs_graph.specs.Key.{no_key}
use Rattle.gather_node.specs.Forest.{follows, is_link}
use Rattle.gather_node.proofs.Orders.{order_more, order_skips}
use Rattle.gather_node.proofs.forest.links_in.Goals as goal
use Rattle.gather_node.proofs.forest.links_in.Goals.{then-is_next+in_ok-push, else-is_next}

pub loop-key-preserved : goal.loop-key-preserved
loop-key-preserved c =
    let k = get_or c.args.sorted.now c.loop-key.key-index no_key in
    let same = get_or_default c.args.sorted.now c.loop-key.key-index k no_key c.loop-key-test.true in
    let test = ap (λ (ks : List Key). is_link k && follows ks k) (sym c.deref.ensures.value) ∙ sym c.is_next.ensures in
    elim c.if-is_next.branch [
      | then-is_next+in_ok-push w ↦
          order_more c.args.sorted.now c.loop-key.keys.items c.if-is_next.keys.items c.loop-key.key-index k c.requires c.loop-key-test.true same
          c.loop-key.invariant (test ∙ w.if-is_next.true) (search rules)
      | else-is_next w ↦
          order_skips c.args.sorted.now c.loop-key.keys.items c.if-is_next.keys.items c.loop-key.key-index k c.requires c.loop-key-test.true same
          c.loop-key.invariant (test ∙ w.if-is_next.false) (let e = w.keys-is in cc)
    ]
