use Rattle.std.proofs.Common.{rules}
use Rattle.gather_node.specs.State.{after}
use Rattle.gather_node.proofs.Known.{known_some, known_none}
use Rattle.gather_node.proofs.react.known.Goals as goal
use Rattle.gather_node.proofs.react.known.Goals.{in-Some+in_ok-extend_from_slice-2, in_default}

pub loop-port-preserved : goal.loop-port-preserved
loop-port-preserved c = elim c.match-brought_at.branch [
  | in-Some+in_ok-extend_from_slice-2 w ↦
      known_some c.args.node.now.keys c.loop-port.keys.items c.match-brought_at.keys.items w.in-Some.links
      (after c.args.node.now c.args.change.now).brought c.loop-port.port c.loop-port.invariant (search rules)
      (search rules)
  | in_default w ↦
      known_none c.args.node.now.keys c.loop-port.keys.items c.match-brought_at.keys.items (after c.args.node.now c.args.change.now).brought
      c.loop-port.port c.loop-port.invariant (search rules) (let k = w.keys-is in cc)
]
