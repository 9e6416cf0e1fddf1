use Rattle.std.proofs.Common.{subst, sym}
use Rattle.std.specs.Prelude.{IfErr, IfOk}
use Rattle.ghs_graph.specs.Graph.{Shape}
use Rattle.peer_view.specs.PairPage.{IsPairPage}
use Rattle.peer_view.specs.RunPage.{IsRunPage}
use Rattle.ghs_cli.specs.AnyView.{HasNoView, IsPairView, IsShownBy}
use Rattle.ghs_cli.proofs.Views.{shown_run}
use Rattle.ghs_cli.proofs.any_view.pair_viewed.Goals as goal

pub viewed_beside-requires-clause-graph : goal.viewed_beside-requires-clause-graph
viewed_beside-requires-clause-graph g c = cc (c.in_ok-first.ensures.0, c.in_ok-same.ensures)

pub viewed_beside-requires-clause-first : goal.viewed_beside-requires-clause-first
viewed_beside-requires-clause-first g c =
    let r = g.P.Protocol.rules in
    let has_ended = g.P.Ends.has_ended in
    let o = c.args.options.now in
    let trace = c.in_ok-first.first.net.trace in
    subst (λ (s : Shape). IsShownBy r has_ended o.seed o s trace) (sym c.in_ok-same.ensures)
    (shown_run r has_ended o.seed o c.args.graph trace _ c.in_ok-first.ensures.1)

pub returns-clause-text : goal.returns-clause-text
returns-clause-text g c =
    let r = g.P.Protocol.rules in
    let words = g.P.Spoken.words in
    let looks = g.P.Viewed.looks in
    let bound = g.P.Protocol.bound in
    let o = c.args.options.now in
    subst (λ (s : Shape). IfOk c.viewed_beside.result (λ text.
    IsPairView r (IsRunPage r words looks bound) g.P.Ends.has_ended (IsPairPage r words looks bound) o c.args.beside s text.items))
    c.in_ok-same.ensures c.viewed_beside.ensures.text

pub returns-clause-fault : goal.returns-clause-fault
returns-clause-fault g c =
    subst (λ (s : Shape). IfErr c.viewed_beside.result (λ fault. HasNoView g.P.Protocol.rules g.P.Ends.has_ended c.args.options.now s fault))
    c.in_ok-same.ensures c.viewed_beside.ensures.fault
