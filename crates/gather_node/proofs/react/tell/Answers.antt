use Rattle.std.proofs.Common.{rules}
use Rattle.gather_node.specs.State.{after}
use Rattle.gather_node.proofs.Known.{trees_some, trees_none}
use Rattle.gather_node.proofs.react.tell.Goals as goal
use Rattle.gather_node.proofs.react.tell.Goals.{in-Some+in_ok-both+in_ok-kept+in_ok-push, in_default}

pub loop-port-preserved : goal.loop-port-preserved
loop-port-preserved c = elim c.match-brought_at.branch [
  | in-Some+in_ok-both+in_ok-kept+in_ok-push w ↦
      trees_some c.args.sends.items c.loop-port.sends.items c.match-brought_at.sends.items c.args.tree.now w.in-Some.links w.in_ok-kept.field-0
      (after c.args.node.now c.args.change.now).brought c.loop-port.port c.loop-port.invariant (search rules)
      (search rules) (search rules)
  | in_default w ↦
      trees_none c.args.sends.items c.loop-port.sends.items c.match-brought_at.sends.items c.args.tree.now
      (after c.args.node.now c.args.change.now).brought c.loop-port.port c.loop-port.invariant (search rules) (let k = w.sends-is in cc)
]
