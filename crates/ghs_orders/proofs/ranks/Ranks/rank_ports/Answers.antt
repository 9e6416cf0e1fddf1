use Rattle.std.proofs.Common.{◌≡◌, ◌+◌, ◌∙◌, ℕ, suc, ap, length, length-set, arith}
use Rattle.ghs_graph.specs.Graph.{Shape}
use Rattle.ghs_graph.specs.Ports.{ports_of}
use Rattle.peer_network.specs.declared.event.Event.TheVariants.{Take}
use Rattle.peer_network.proofs.lemmas.Graphs.{graph_few}
use Rattle.ghs_core.specs.NetState.{network}
use Rattle.peer_index.specs.Places.{place}
use Rattle.ghs_orders.specs.Kept.{rank_in, ranked, ranked_to}
use Rattle.ghs_orders.proofs.ranks.Ranks.rank_ports.Goals as goal

pub overflow_cast-port-end : goal.overflow_cast-port-end
overflow_cast-port-end c = let few = graph_few c.graph-graph.result.now c.nodes.ensures.graph c.args.v in rw c.ports.ensures (omega arith)

pub rank-requires-clause-place : goal.rank-requires-clause-place
rank-requires-clause-place c = record {
  some = c.requires.low;
  node = c.requires.high;
  port = rw (c.ports.ensures, c.graph-graph.ensures) at
      c.loop-port-test.true;
}

pub rank-requires-clause-many : goal.rank-requires-clause-many
rank-requires-clause-many c = c.loop-port.invariant.many

pub loop-port-preserved : goal.loop-port-preserved
loop-port-preserved c =
    let s = c.args.world.now in
    let newest = c.args.numbers.now.newest in
    let up : suc c.loop-port.port ≡ c.loop-port.port + 1 = omega arith in
    record {
      many =
          ap length c.rank.ensures ∙ length-set c.loop-port.self (place (network s.net) (Take c.args.v c.loop-port.port))
          (rank_in s newest (Take c.args.v c.loop-port.port))
          ∙ c.loop-port.invariant.many;
      ranked =
          c.rank.ensures ∙ ap (ranked s newest (Take c.args.v c.loop-port.port)) c.loop-port.invariant.ranked
          ∙ ap (λ (n : ℕ). ranked_to s newest c.args.v n c.args.self.now) up;
    }

pub returns : goal.returns
returns c =
    let end = c.loop-port-test.false in
    let within = c.loop-port.auto.port-end in
    let many : c.loop-port.port ≡ length c.ports.result.now = omega arith in
    c.loop-port.invariant.ranked
    ∙ ap (λ (n : ℕ). ranked_to c.args.world.now c.args.numbers.now.newest c.args.v n c.args.self.now)
    (many ∙ ap length (c.ports.ensures ∙ ap (λ (g : Shape). ports_of g.keys c.args.v) c.graph-graph.ensures))
