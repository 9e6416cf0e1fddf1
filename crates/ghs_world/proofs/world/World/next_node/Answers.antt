use Rattle.std.proofs.Common.{◌∙◌, sym}
use Rattle.ghs_world.proofs.Nodes.{found_next, else_next}
use Rattle.ghs_world.proofs.world.World.next_node.Goals as goal

pub returns-in-Some : goal.returns-in-Some
returns-in-Some c = sym (found_next c.args.self.now c.args.from c.in-Some.v (sym c.first_node.ensures ∙ c.in-Some.is))

pub returns-in-None : goal.returns-in-None
returns-in-None c = c.first_node-in-None.ensures ∙ sym (else_next c.args.self.now c.args.from (sym c.first_node.ensures ∙ c.in-None.is))
