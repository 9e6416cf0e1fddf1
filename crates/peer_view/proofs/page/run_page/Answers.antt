use Rattle.std.proofs.Common.{◌∙◌, ap, rules, sym}
use Rattle.std.proofs.lemmas.Bool.{false≢true}
use Rattle.peer_page.specs.Page.{page_text}
use Rattle.peer_network.specs.Network.{network_of}
use Rattle.peer_view.proofs.Front.{front_is_run}
use Rattle.peer_view.proofs.page.run_page.Goals as goal

pub data_of-requires : goal.data_of-requires
data_of-requires g c = record {
  setting = c.requires.setting;
  run = rw c.first_events-shown.ensures (front_is_run g.P.Protocol.rules (network_of c.args.graph) c.args.events.now _ c.requires.run);
}

pub returns-clause-page : goal.returns-clause-page
returns-clause-page g c =
    c.in_ok-page.ensures ∙ ap page_text (c.deref.ensures.value ∙ rw c.first_events-shown.ensures at c.in_ok-data.ensures)

-- a page that is made isn't too large
pub returns-clause-large : goal.returns-clause-large
returns-clause-large g c =
    (λ e. search rules, λ large. absurd (false≢true (sym c.if-is_too_large.false ∙ c.is_too_large.ensures.1 large)))
