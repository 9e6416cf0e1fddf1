use Rattle.std.proofs.Common.{subst, sym}
use Rattle.std.specs.Prelude.{IfErr, IfOk}
use Rattle.ghs_graph.specs.Graph.{Shape}
use Rattle.peer_view.specs.RunPage.{IsRunPage}
use Rattle.ghs_cli.specs.AnyView.{HasNoView, IsRunView, IsShownBy}
use Rattle.ghs_cli.proofs.Views.{shown_run}
use Rattle.ghs_cli.proofs.any_view.run_viewed.Goals as goal

pub page_of-requires-clause-run : goal.page_of-requires-clause-run
page_of-requires-clause-run g c =
    let r = g.P.Protocol.rules in
    let has_ended = g.P.Ends.has_ended in
    let o = c.args.options.now in
    let trace = c.in_ok-world.world.net.trace in
    let ran = c.in_ok-world.ensures in
    subst (λ (s : Shape). IsShownBy r has_ended o.seed o s trace) (sym ran.0) (shown_run r has_ended o.seed o c.args.graph trace _ ran.1)

pub returns-clause-text : goal.returns-clause-text
returns-clause-text g c =
    let r = g.P.Protocol.rules in
    let is_page = IsRunPage r g.P.Spoken.words g.P.Viewed.looks g.P.Protocol.bound in
    subst (λ (s : Shape). IfOk c.page_of.result (λ text. IsRunView r is_page g.P.Ends.has_ended c.args.options.now s text.items))
    c.in_ok-world.ensures.0 c.page_of.ensures.text

pub returns-clause-fault : goal.returns-clause-fault
returns-clause-fault g c =
    subst (λ (s : Shape). IfErr c.page_of.result (λ fault. HasNoView g.P.Protocol.rules g.P.Ends.has_ended c.args.options.now s fault))
    c.in_ok-world.ensures.0 c.page_of.ensures.fault
