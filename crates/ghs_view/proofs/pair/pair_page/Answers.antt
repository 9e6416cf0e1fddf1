use Rattle.std.proofs.Common.{◌≡◌, ◌∙◌, ap, rules, sym, ⊎_elim, ℕ, List}
use Rattle.std.proofs.lemmas.Bool.{false≢true}
use Rattle.peer_page.specs.Page.{pair_text}
use Rattle.peer_network.specs.Network.{network_of}
use Rattle.ghs_view.specs.RunPage.{run_json}
use Rattle.ghs_view.proofs.Front.{front_is_run}
use Rattle.ghs_view.proofs.pair.pair_page.Goals as goal

pub data_of-requires-clause-run : goal.data_of-requires-clause-run
data_of-requires-clause-run c =
    rw c.first_events-shown.ensures (front_is_run (network_of c.args.graph) c.args.first.now _ c.requires.first)

pub data_of-requires-2-clause-run : goal.data_of-requires-2-clause-run
data_of-requires-2-clause-run c =
    rw (c.in_ok-same.ensures, c.first_events-beside.ensures) (front_is_run (network_of c.args.graph) c.args.second.now _ c.requires.second)

pub returns-clause-page : goal.returns-clause-page
returns-clause-page c =
    let first : c.deref.result.now ≡ run_json c.args.graph c.args.first.now c.args.from c.args.to c.bound-most.result =
    c.deref.ensures.value ∙ rw c.first_events-shown.ensures at c.in_ok-data.ensures in
    let second : c.deref-2.result.now ≡ run_json c.args.graph c.args.second.now c.args.from c.args.to c.bound-most.result =
    c.deref-2.ensures.value ∙ rw (c.first_events-beside.ensures, c.in_ok-same.ensures) at c.in_ok-other.ensures in
    record {
      bound = c.bound-most.result;
      is_bound = rw (c.nodes.ensures.nodes, c.links.ensures) at c.bound-most.ensures;
      printed =
          c.in_ok-pair_page.ensures ∙ (ap (λ text. pair_text text c.deref-2.result.now) first
          ∙ ap (pair_text (run_json c.args.graph c.args.first.now c.args.from c.args.to c.bound-most.result)) second);
    }

-- a page that is made isn't too large
pub returns-clause-large : goal.returns-clause-large
returns-clause-large c = (
  λ e. search rules,
  λ large. absurd (⊎_elim (λ first. false≢true (sym c.if-is_too_large.false ∙ c.is_too_large.ensures.1 first))
      (λ second. false≢true (sym c.if-is_too_large-2.false ∙ c.is_too_large-else-is_too_large.ensures.1 second)) large),
)
