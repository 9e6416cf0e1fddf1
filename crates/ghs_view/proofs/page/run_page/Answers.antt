use Rattle.std.proofs.Common.{◌∙◌, ap, rules, sym}
use Rattle.std.proofs.lemmas.Bool.{false≢true}
use Rattle.peer_page.specs.Page.{page_text}
use Rattle.peer_network.specs.Network.{network_of}
use Rattle.ghs_view.proofs.Front.{front_is_run}
use Rattle.ghs_view.proofs.page.run_page.Goals as goal

pub data_of-requires-clause-run : goal.data_of-requires-clause-run
data_of-requires-clause-run c =
    rw c.first_events-shown.ensures (front_is_run (network_of c.args.graph) c.args.events.now _ c.requires.run)

pub returns-clause-page : goal.returns-clause-page
returns-clause-page c = record {
  bound = c.bound-most.result;
  is_bound = rw (c.nodes.ensures.nodes, c.links.ensures) at c.bound-most.ensures;
  printed = c.in_ok-page.ensures ∙ ap page_text (c.deref.ensures.value ∙ rw c.first_events-shown.ensures at c.in_ok-data.ensures);
}

-- a page that is made isn't too large
pub returns-clause-large : goal.returns-clause-large
returns-clause-large c =
    (λ e. search rules, λ large. absurd (false≢true (sym c.if-is_too_large.false ∙ c.is_too_large.ensures.1 large)))
