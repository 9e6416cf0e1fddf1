use Rattle.std.proofs.Common.{◌∙◌, ◌&&◌, ap}
use Rattle.ghs_graph.specs.Computing.{is_root}
use Rattle.peer_network.specs.Wakes.{is_under}
use Rattle.peer_network.proofs.Firsts.{root_is}
use Rattle.peer_network.proofs.wake_set.is_under.Goals as goal

pub returns-then-is_in : goal.returns-then-is_in
unfolding is_under
returns-then-is_in c =
    root_is c.args.graph.now.keys c.args.waker c.root.result c.args.root c.root.ensures.root ∙
    ap (λ b. b && is_root c.args.graph.now.keys c.args.waker c.args.root) c.if-is_in.ensures

pub returns-else-is_in : goal.returns-else-is_in
unfolding is_under
returns-else-is_in c =
    c.if-is_in.false ∙ ap (λ b. b && is_root c.args.graph.now.keys c.args.waker c.args.root) c.if-is_in.ensures
