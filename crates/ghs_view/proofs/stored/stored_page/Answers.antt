use Rattle.ghs_view.proofs.stored.stored_page.Goals as goal

pub returns-in-Ok-run_page-clause-run : goal.returns-in-Ok-run_page-clause-run
returns-in-Ok-run_page-clause-run c =
    let ok = c.in-Ok.ensures.ok in
    rw (ok.graph, ok.wake_set, ok.trace) at c.trace.ensures.run

pub returns-in-Ok-run_page-clause-page : goal.returns-in-Ok-run_page-clause-page
returns-in-Ok-run_page-clause-page c = rw (c.into_graph.ensures, c.in-Ok.ensures.ok.graph) at c.in-Ok-run_page.ensures.page

pub returns-in-Ok-run_page-clause-small : goal.returns-in-Ok-run_page-clause-small
returns-in-Ok-run_page-clause-small c =
    let exact = rw (c.into_graph.ensures, c.in-Ok.ensures.ok.graph) at c.in-Ok-run_page.ensures.large in
    λ large. let made = exact.1 large in cc
