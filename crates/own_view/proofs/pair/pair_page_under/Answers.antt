use Rattle.std.proofs.Common.{◌≡◌, ◌∙◌, ap, rules, subst, sym, ⊎_elim}
use Rattle.std.proofs.lemmas.Bool.{false≢true}
use Rattle.ghs_graph.specs.Graph.{Shape}
use Rattle.own_view.specs.Page.{told_json}
use Rattle.own_view.proofs.pair.pair_page_under.Goals as goal
use Rattle.peer_machine.specs.Run.{IsRun}
use Rattle.peer_network.specs.Network.{network_of}
use Rattle.peer_page.specs.Page.{pair_text}

pub told_of-requires-2 : goal.told_of-requires-2
told_of-requires-2 g c = record {
  setting = c.requires.setting;
  run =
      subst (λ (h : Shape). IsRun g.P.Protocol.rules (network_of h) c.args.second.now) (sym c.in_ok-same.ensures) c.requires.second;
}

pub returns-clause-page : goal.returns-clause-page
returns-clause-page g c =
    let json = told_json g.P.Protocol.rules g.P.Spoken.words g.P.Viewed.looks g.P.Protocol.bound in
    let one = json c.args.graph c.args.first.now c.args.from c.args.to in
    let two = json c.args.graph c.args.second.now c.args.from c.args.to in
    let first : c.deref.result.now ≡ one = c.deref.ensures.value ∙ c.in_ok-told.ensures in
    let second : c.deref-2.result.now ≡ two =
    c.deref-2.ensures.value ∙ (c.in_ok-other.ensures
    ∙ ap (λ (h : Shape). json h c.args.second.now c.args.from c.args.to) c.in_ok-same.ensures) in
    c.in_ok-pair_page.ensures ∙ (ap (λ text. pair_text text c.deref-2.result.now) first ∙ ap (pair_text one) second)

-- a page that is made isn't too large
pub returns-clause-large : goal.returns-clause-large
returns-clause-large g c = (
  λ e. search rules,
  λ large. absurd (⊎_elim (λ first. false≢true (sym c.if-is_too_large.false ∙ c.is_too_large.ensures.1 first))
      (λ second. false≢true (sym c.if-is_too_large-2.false ∙ c.is_too_large-else-is_too_large.ensures.1 second)) large),
)
