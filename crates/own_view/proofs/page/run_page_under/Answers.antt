use Rattle.std.proofs.Common.{◌∙◌, ap, rules, sym}
use Rattle.std.proofs.lemmas.Bool.{false≢true}
use Rattle.peer_page.specs.Page.{page_text}
use Rattle.own_view.proofs.page.run_page_under.Goals as goal

pub returns-clause-page : goal.returns-clause-page
returns-clause-page g c = c.in_ok-page.ensures ∙ ap page_text (c.deref.ensures.value ∙ c.in_ok-told.ensures)

-- a page that is made isn't too large
pub returns-clause-large : goal.returns-clause-large
returns-clause-large g c =
    (λ e. search rules, λ large. absurd (false≢true (sym c.if-is_too_large.false ∙ c.is_too_large.ensures.1 large)))
