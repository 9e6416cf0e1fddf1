use Rattle.std.proofs.Common.{◌∙◌, refl}
use Rattle.peer_steps.proofs.lemmas.Replayed.{replayed}
use Rattle.peer_view.proofs.stored.stored_page.Goals as goal

pub run_page-requires : goal.run_page-requires
run_page-requires g c = record {
  setting = c.requires.setting;
  run =
      rw (c.into_graph.ensures ∙ c.in-Ok.ensures.ok.graph)
      (replayed g.P.Protocol.rules c.args.graph c.args.wake c.args.events.now _ c.in-Ok.ensures.ok c.net.ensures.run).0;
}

pub returns-in-Ok-run_page-clause-run : goal.returns-in-Ok-run_page-clause-run
returns-in-Ok-run_page-clause-run g c = replayed g.P.Protocol.rules c.args.graph c.args.wake c.args.events.now _ c.in-Ok.ensures.ok c.net.ensures.run

pub returns-in-Ok-run_page-clause-page : goal.returns-in-Ok-run_page-clause-page
returns-in-Ok-run_page-clause-page g c = rw (c.into_graph.ensures, c.in-Ok.ensures.ok.graph) at c.in-Ok-run_page.ensures.page

pub returns-in-Ok-run_page-clause-small : goal.returns-in-Ok-run_page-clause-small
returns-in-Ok-run_page-clause-small g c =
    let exact = rw (c.into_graph.ensures, c.in-Ok.ensures.ok.graph) at c.in-Ok-run_page.ensures.large in
    λ large. let made = exact.1 large in cc

pub returns-in-Err-TooLarge-clause-fault : goal.returns-in-Err-TooLarge-clause-fault
returns-in-Err-TooLarge-clause-fault g c =
    let large = rw (c.into_graph.ensures, c.in-Ok.ensures.ok.graph, c.in-Err-TooLarge.field-0-is) at c.in-Err-TooLarge.ensures.large in (
      replayed g.P.Protocol.rules c.args.graph c.args.wake c.args.events.now _ c.in-Ok.ensures.ok c.net.ensures.run,
      large.0 refl,
    )
