use Rattle.ghs_cli.proofs.Views.{run_of_same, same_page}
use Rattle.ghs_cli.proofs.any_view.pair_page_of.Goals as goal

pub pair_page-requires-clause-first : goal.pair_page-requires-clause-first
pair_page-requires-clause-first g c =
    run_of_same g.P.Protocol.rules c.in_ok-graph.graph c.net-net.result.now.graph c.trace.result.now c.net-net.result.now.trace
    (cc (c.in_ok-graph.ensures, c.graph.ensures)) c.trace.ensures.trace c.trace.ensures.run

pub pair_page-requires-clause-second : goal.pair_page-requires-clause-second
pair_page-requires-clause-second g c =
    run_of_same g.P.Protocol.rules c.in_ok-graph.graph c.net-other.result.now.graph c.trace-2.result.now c.net-other.result.now.trace
    (cc (c.in_ok-graph.ensures, c.graph.ensures, c.net-net.ensures.net, c.requires.graph, c.net-other.ensures.net)) c.trace-2.ensures.trace
    c.trace-2.ensures.run

pub returns-in-Ok-clause-text : goal.returns-in-Ok-clause-text
returns-in-Ok-clause-text g c = record {
  first = c.args.first.now.net.trace;
  second = c.args.second.now.net.trace;
  run = c.requires.first;
  run_beside = c.requires.second;
  page = same_page g.P.Protocol.rules g.P.Spoken.words g.P.Viewed.looks g.P.Protocol.bound c.args.options.now.from c.args.options.now.to _
      c.in_ok-graph.graph c.args.first.now.net.graph c.trace.result.now c.args.first.now.net.trace c.trace-2.result.now c.args.second.now.net.trace
      (cc (c.in_ok-graph.ensures, c.graph.ensures, c.net-net.ensures.net)) (cc (c.trace.ensures.trace, c.net-net.ensures.net))
      (cc (c.trace-2.ensures.trace, c.net-other.ensures.net)) c.in-Ok.ensures.page;
}
