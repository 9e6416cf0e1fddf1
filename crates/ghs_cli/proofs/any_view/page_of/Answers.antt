use Rattle.ghs_cli.proofs.any_view.page_of.Goals as goal

pub run_page-requires : goal.run_page-requires
run_page-requires g c = record {
  setting = c.setting.ensures;
  run = rw (c.in_ok-graph.ensures, c.graph.ensures, c.trace.ensures.trace) c.trace.ensures.run;
}

pub returns-in-Ok-clause-text : goal.returns-in-Ok-clause-text
returns-in-Ok-clause-text g c = record {
  events = c.args.world.now.net.trace;
  run = c.requires.run;
  page = rw (c.in_ok-graph.ensures, c.graph.ensures, c.trace.ensures.trace, c.net-net.ensures.net) at c.in-Ok.ensures.page;
}
