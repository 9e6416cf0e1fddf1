use Rattle.std.proofs.Common.{◌≡◌, ◌≤◌, true≢false, sym, ◌∙◌, ap, ⊎_elim, arith}
use Rattle.std.proofs.lemmas.Bool.{both_ways, cases_lt}
use Rattle.ghs_graph.specs.Graph.{Shape}
use Rattle.peer_net.specs.NetState.{net_of}
use Rattle.peer_report.proofs.ended.all_awake.Goals as goal

pub returns-then-is_asleep : goal.returns-then-is_asleep
returns-then-is_asleep g c = (
  λ t. absurd (true≢false (sym t)),
  λ awake. absurd
      (let lt = c.loop-v-test.true in
      let n = c.nodes-v-end.ensures.nodes in
      let same = ap (λ (s : Shape). s.nodes) c.graph.ensures in
      both_ways c.is_asleep.result
      (c.is_asleep.ensures ∙ ap (g.P.Protocol.rules.is_asleep) c.node.ensures
      ∙ awake c.loop-v.v (record { some = c.loop-v.auto.v; node = omega (arith, lt, n, same) }))
      c.if-is_asleep.true),
)

pub loop-v-preserved : goal.loop-v-preserved
loop-v-preserved g c x lo lt = ⊎_elim
    (λ below. c.loop-v.invariant x lo below)
    (λ (ge : c.loop-v.v ≤ x).
    let e : x ≡ c.loop-v.v = omega (arith, ge, lt) in
    ap (λ v. g.P.Protocol.rules.is_asleep ((net_of g.P.Protocol.rules c.args.net.now).node v)) e
    ∙ sym (ap (g.P.Protocol.rules.is_asleep) c.node.ensures) ∙ sym c.is_asleep.ensures ∙ c.if-is_asleep.false)
    (cases_lt x c.loop-v.v)
