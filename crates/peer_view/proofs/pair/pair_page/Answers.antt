use Rattle.std.proofs.Common.{◌≡◌, ◌∙◌, ap, rules, sym, ⊎_elim}
use Rattle.std.proofs.lemmas.Bool.{false≢true}
use Rattle.peer_page.specs.Page.{pair_text}
use Rattle.peer_network.specs.Network.{network_of}
use Rattle.peer_view.specs.RunPage.{run_json}
use Rattle.peer_view.proofs.Front.{front_is_run}
use Rattle.peer_view.proofs.pair.pair_page.Goals as goal

pub data_of-requires : goal.data_of-requires
data_of-requires g c = record {
  setting = c.requires.setting;
  run = rw c.first_events-shown.ensures (front_is_run g.P.Protocol.rules (network_of c.args.graph) c.args.first.now _ c.requires.first);
}

pub data_of-requires-2 : goal.data_of-requires-2
data_of-requires-2 g c = record {
  setting = c.requires.setting;
  run =
      rw (c.in_ok-same.ensures, c.first_events-beside.ensures)
      (front_is_run g.P.Protocol.rules (network_of c.args.graph) c.args.second.now _ c.requires.second);
}

pub returns-clause-page : goal.returns-clause-page
returns-clause-page g c =
    let json = run_json g.P.Protocol.rules g.P.Spoken.words g.P.Viewed.looks g.P.Protocol.bound c.args.graph in
    let first : c.deref.result.now ≡ json c.args.first.now c.args.from c.args.to =
    c.deref.ensures.value ∙ rw c.first_events-shown.ensures at c.in_ok-data.ensures in
    let second : c.deref-2.result.now ≡ json c.args.second.now c.args.from c.args.to =
    c.deref-2.ensures.value ∙ rw (c.first_events-beside.ensures, c.in_ok-same.ensures) at c.in_ok-other.ensures in
    c.in_ok-pair_page.ensures ∙ (ap (λ text. pair_text text c.deref-2.result.now) first
    ∙ ap (pair_text (json c.args.first.now c.args.from c.args.to)) second)

-- a page that is made isn't too large
pub returns-clause-large : goal.returns-clause-large
returns-clause-large g c = (
  λ e. search rules,
  λ large. absurd (⊎_elim (λ first. false≢true (sym c.if-is_too_large.false ∙ c.is_too_large.ensures.1 first))
      (λ second. false≢true (sym c.if-is_too_large-2.false ∙ c.is_too_large-else-is_too_large.ensures.1 second)) large),
)
