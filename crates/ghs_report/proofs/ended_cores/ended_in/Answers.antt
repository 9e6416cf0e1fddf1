use Rattle.std.proofs.Common.{◌≡◌, ◌∙◌, ◌≤◌, ◌<◌, length, get_or, sym, ap, subst, arith}
use Rattle.std.proofs.lemmas.Grind.{get_or_default_zero}
use Rattle.ghs_graph.specs.Components.{IsRoot}
use Rattle.ghs_core.specs.NetState.{net_of}
use Rattle.ghs_report.specs.Components.{HasEndedIn}
use Rattle.ghs_report.specs.Halting.{IsHaltedOf}
use Rattle.ghs_report.proofs.Halts.{halts_somewhere}
use Rattle.ghs_report.proofs.Listing.{below_none, below_one}
use Rattle.ghs_report.proofs.ended_cores.ended_in.Goals as goal
use Rattle.ghs_report.proofs.ended_cores.ended_in.Goals.{then-root-v+in_ok-push, else-root-v}

pub component-requires-clause-low : goal.component-requires-clause-low
component-requires-clause-low c =
    let g = c.args.net.now.graph in
    let w = net_of c.args.net.now in
    let within : c.loop-v.v ≤ g.nodes =
    (let t = c.loop-v-test.true in let n = c.nodes-v-end.ensures.nodes in let e = ap (λ g. g.nodes) c.graph-graph.ensures in
    omega (arith, t, n, e)) in
    let inside : c.loop-v.v < length c.in_ok-halted.halted.items = (let p = c.in_ok-halted.ensures.places in omega (arith, within, p)) in
    let read : c.index.result.now ≡ get_or c.in_ok-halted.halted.items c.loop-v.v 0 =
    c.index.ensures ∙ get_or_default_zero c.in_ok-halted.halted.items c.loop-v.v c.index.result.now inside in
    let root : IsRoot g.keys c.loop-v.v c.loop-v.v =
    subst (λ r. IsRoot g.keys c.loop-v.v r) c.if-root-v.true (rw c.graph-graph.ensures at c.root.ensures.root) in
    rw read (halts_somewhere g w c.in_ok-halted.halted.items c.loop-v.v c.in_ok-halted.ensures c.requires c.loop-v.auto.v within root).some

pub loop-v-preserved : goal.loop-v-preserved
loop-v-preserved c =
    let g = c.args.net.now.graph in
    let w = net_of c.args.net.now in
    let within : c.loop-v.v ≤ g.nodes =
    (let t = c.loop-v-test.true in let n = c.nodes-v-end.ensures.nodes in let e = ap (λ g. g.nodes) c.graph-graph.ensures in
    omega (arith, t, n, e)) in
    let inside : c.loop-v.v < length c.in_ok-halted.halted.items = (let p = c.in_ok-halted.ensures.places in omega (arith, within, p)) in
    let root : IsRoot g.keys c.loop-v.v c.root.result = (rw c.graph-graph.ensures at c.root.ensures.root) in
    elim c.if-root-v.branch [
      | then-root-v+in_ok-push b ↦ rw b.components-is
          (let itself : IsRoot g.keys c.loop-v.v c.loop-v.v = subst (λ r. IsRoot g.keys c.loop-v.v r) b.if-root-v.true root in
          let read : b.index.result.now ≡ get_or c.in_ok-halted.halted.items c.loop-v.v 0 =
          b.index.ensures ∙ get_or_default_zero c.in_ok-halted.halted.items c.loop-v.v b.index.result.now inside in
          let h : IsHaltedOf g w c.loop-v.v b.index.result.now =
          rw read (halts_somewhere g w c.in_ok-halted.halted.items c.loop-v.v c.in_ok-halted.ensures c.requires c.loop-v.auto.v within itself) in
          below_one g (HasEndedIn g w) c.loop-v.v c.loop-v.components.items c.loop-v.invariant b.component.result b.push.new.self.items
          c.loop-v.auto.v within b.component.ensures.root itself
          (record {
            node = b.index.result.now;
            some = h.some;
            within = h.within;
            root = rw b.component.ensures.root h.root;
            halted = h.halted;
            level = sym b.component.ensures.level;
            name = sym b.component.ensures.name;
          }) b.in_ok-push.ensures.items)
      | else-root-v b ↦ rw b.components-is
          (below_none g (HasEndedIn g w) c.loop-v.v c.loop-v.components.items c.loop-v.invariant c.root.result root b.if-root-v.false)
    ]
