use Rattle.ghs_cli.proofs.viewing.page_of.Goals as goal

pub returns-in-Ok-clause-text : goal.returns-in-Ok-clause-text
returns-in-Ok-clause-text c = record {
  events = c.args.world.now.net.trace;
  picked = c.requires;
  page = rw (c.in_ok-graph.ensures, c.graph.ensures, c.trace.ensures.trace) at c.in-Ok.ensures.page;
}
