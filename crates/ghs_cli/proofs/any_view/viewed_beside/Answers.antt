use Rattle.std.proofs.Common.{subst, sym}
use Rattle.std.specs.Prelude.{IfErr, IfOk}
use Rattle.ghs_graph.specs.Graph.{Shape}
use Rattle.peer_view.specs.PairPage.{IsPairPage}
use Rattle.peer_view.specs.RunPage.{IsRunPage}
use Rattle.ghs_cli.specs.AnyView.{HasNoView, IsPairView, IsShownBy}
use Rattle.ghs_cli.proofs.Views.{shown_run}
use Rattle.ghs_cli.proofs.any_view.viewed_beside.Goals as goal

pub pair_page_of-requires-clause-first : goal.pair_page_of-requires-clause-first
pair_page_of-requires-clause-first g c =
    let o = c.args.options.now in
    subst (λ (s : Shape). IsShownBy g.P.Protocol.rules g.P.Ends.has_ended o.seed o s c.args.first.now.net.trace) (sym c.requires.graph)
    c.requires.first

pub pair_page_of-requires-clause-second : goal.pair_page_of-requires-clause-second
pair_page_of-requires-clause-second g c =
    let r = g.P.Protocol.rules in
    let has_ended = g.P.Ends.has_ended in
    let o = c.args.options.now in
    let trace = c.in_ok-second.second.net.trace in
    subst (λ (s : Shape). IsShownBy r has_ended c.args.beside o s trace) (sym c.requires.graph)
    (shown_run r has_ended c.args.beside o c.args.graph trace _ c.in_ok-second.ensures.1)

pub returns-clause-text : goal.returns-clause-text
returns-clause-text g c =
    let r = g.P.Protocol.rules in
    let words = g.P.Spoken.words in
    let looks = g.P.Viewed.looks in
    let bound = g.P.Protocol.bound in
    let o = c.args.options.now in
    subst (λ (s : Shape). IfOk c.pair_page_of.result (λ text.
    IsPairView r (IsRunPage r words looks bound) g.P.Ends.has_ended (IsPairPage r words looks bound) o c.args.beside s text.items))
    c.requires.graph c.pair_page_of.ensures.text

pub returns-clause-fault : goal.returns-clause-fault
returns-clause-fault g c =
    subst (λ (s : Shape). IfErr c.pair_page_of.result (λ fault. HasNoView g.P.Protocol.rules g.P.Ends.has_ended c.args.options.now s fault))
    c.requires.graph c.pair_page_of.ensures.fault
