use Rattle.std.proofs.Common.{◌∙◌, [], ap, subst, sym}
use Rattle.ghs_core.specs.NetState.{NetState}
use Rattle.ghs_graph.specs.Graph.{Shape}
use Rattle.ghs_following.proofs.lemmas.Moved.{moved}
use Rattle.ghs_picking.proofs.followed.played_again.Goals as goal

pub follow_all-requires-clause-kept : goal.follow_all-requires-clause-kept
follow_all-requires-clause-kept g c =
    let graph = c.graph.ensures ∙ ap (λ (n : NetState). n.graph) c.net-net.ensures.net ∙ c.run_by_seed-end.ensures.graph in
    subst (λ (x : Shape). g.F.Follower.is_of x [] c.args.kept.now) (sym graph) c.requires.kept

pub returns-in-Ok-clause-kept : goal.returns-in-Ok-clause-kept
returns-in-Ok-clause-kept g c =
    let graph = c.graph.ensures ∙ ap (λ (n : NetState). n.graph) c.net-net.ensures.net in
    let trace = c.trace.ensures.trace ∙ ap (λ (n : NetState). n.trace) c.net-net.ensures.net in
    λ _. moved g.F.Follower.is_of _ _ _ _ _ (sym graph) (sym trace) c.in-Ok.ensures.kept
