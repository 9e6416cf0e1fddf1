use Rattle.ghs_cli.proofs.beside.pair_page_of.Goals as goal

pub returns-in-Ok-clause-text : goal.returns-in-Ok-clause-text
returns-in-Ok-clause-text c = record {
  first = c.args.first.now.net.trace;
  second = c.args.second.now.net.trace;
  picked = c.requires.first;
  picked_beside = c.requires.second;
  page = rw (c.in_ok-graph.ensures, c.graph.ensures, c.trace.ensures.trace, c.trace-2.ensures.trace) at c.in-Ok.ensures.page;
}
