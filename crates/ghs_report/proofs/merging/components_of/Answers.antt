use Rattle.std.proofs.Common.{◌≤◌, subst, arith}
use Rattle.ghs_graph.specs.Components.{IsRoot}
use Rattle.ghs_report.specs.Components.{IsOfGraph}
use Rattle.ghs_report.proofs.Listing.{below_none, below_one}
use Rattle.ghs_report.proofs.merging.components_of.Goals as goal
use Rattle.ghs_report.proofs.merging.components_of.Goals.{then-root-v+in_ok-push, else-root-v}

pub loop-v-preserved : goal.loop-v-preserved
loop-v-preserved c =
    let within : c.loop-v.v ≤ c.args.graph.now.nodes = let t = c.loop-v-test.true in let n = c.nodes-v-end.ensures.nodes in omega (arith, t, n) in
    elim c.if-root-v.branch [
      | then-root-v+in_ok-push w ↦ rw w.components-is
          (below_one c.args.graph.now (IsOfGraph c.args.graph.now) c.loop-v.v c.loop-v.components.items c.loop-v.invariant w.component.result
          w.push.new.self.items c.loop-v.auto.v
          within w.component.ensures.root (subst (λ r. IsRoot c.args.graph.now.keys c.loop-v.v r) w.if-root-v.true c.root.ensures.root)
          (w.component.ensures.core c.args.graph.now c.in_ok-fragments.ensures.merged) w.in_ok-push.ensures.items)
      | else-root-v w ↦ rw w.components-is
          (below_none c.args.graph.now (IsOfGraph c.args.graph.now) c.loop-v.v c.loop-v.components.items c.loop-v.invariant c.root.result
          c.root.ensures.root w.if-root-v.false)
    ]
