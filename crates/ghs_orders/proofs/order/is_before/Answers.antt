use Rattle.std.proofs.Common.{sym, ◌∙◌}
use Rattle.ghs_orders.proofs.InOrder.{by_nodes, by_ports}
use Rattle.ghs_orders.proofs.order.is_before.Goals as goal

pub returns-then-u-v : goal.returns-then-u-v
returns-then-u-v c =
    λ g h k. rw (c.ports_done.ensures, c.ports_done-then-u-v.ensures)
    (by_ports g c.args.left c.args.right (sym c.node_of-u.ensures ∙ c.if-u-v.true ∙ c.node_of-v.ensures))

pub returns-else-u-v : goal.returns-else-u-v
returns-else-u-v c =
    λ g h k. rw (c.node_of-u.ensures, c.node_of-v.ensures)
    (by_nodes g c.args.left c.args.right h k (λ z. c.if-u-v.false (c.node_of-u.ensures ∙ z ∙ sym c.node_of-v.ensures)))
