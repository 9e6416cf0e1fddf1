use Rattle.std.proofs.Common.{◌∙◌, refl, subst}
use Rattle.ghs_graph.specs.Graph.{Shape}
use Rattle.own_view.specs.Page.{IsOwnPage}
use Rattle.peer_steps.proofs.lemmas.Replayed.{replayed}
use Rattle.own_view.proofs.page.stored_page_under.Goals as goal

pub run_page_under-requires : goal.run_page_under-requires
run_page_under-requires g c = record {
  setting = c.requires.setting;
  run =
      rw (c.into_graph.ensures ∙ c.in-Ok.ensures.ok.graph)
      (replayed g.P.Protocol.rules c.args.graph c.args.wake c.args.events.now _ c.in-Ok.ensures.ok c.net.ensures.run).0;
}

pub returns-in-Ok-run_page_under-clause-run : goal.returns-in-Ok-run_page_under-clause-run
returns-in-Ok-run_page_under-clause-run g c =
    replayed g.P.Protocol.rules c.args.graph c.args.wake c.args.events.now _ c.in-Ok.ensures.ok c.net.ensures.run

pub returns-in-Ok-run_page_under-clause-page : goal.returns-in-Ok-run_page_under-clause-page
returns-in-Ok-run_page_under-clause-page g c =
    let is = IsOwnPage g.P.Protocol.rules g.P.Spoken.words g.P.Viewed.looks g.P.Protocol.bound in
    subst (λ (h : Shape). is h c.args.events.now c.args.from c.args.to c.in-Ok-run_page_under.text.items)
    (c.into_graph.ensures ∙ c.in-Ok.ensures.ok.graph) c.in-Ok-run_page_under.ensures.page

pub returns-in-Ok-run_page_under-clause-small : goal.returns-in-Ok-run_page_under-clause-small
returns-in-Ok-run_page_under-clause-small g c =
    let exact = rw (c.into_graph.ensures, c.in-Ok.ensures.ok.graph) at c.in-Ok-run_page_under.ensures.large in
    λ large. let made = exact.1 large in cc

pub returns-in-Err-TooLarge-clause-fault : goal.returns-in-Err-TooLarge-clause-fault
returns-in-Err-TooLarge-clause-fault g c =
    let large = rw (c.into_graph.ensures, c.in-Ok.ensures.ok.graph, c.in-Err-TooLarge.field-0-is) at c.in-Err-TooLarge.ensures.large in (
      replayed g.P.Protocol.rules c.args.graph c.args.wake c.args.events.now _ c.in-Ok.ensures.ok c.net.ensures.run,
      large.0 refl,
    )
