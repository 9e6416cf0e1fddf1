use Rattle.std.proofs.Common.{rules, ◌∙◌}
use Rattle.std.proofs.lemmas.Fn.{filter_same}
use Rattle.ghs_world.specs.Ready.{has_ready}
use Rattle.ghs_world.proofs.world.World.ready_of.Goals as goal

pub returns : goal.returns
returns c = c.of.ensures ∙ filter_same _ (has_ready c.args.self.now) _ (λ x b f' k. search rules) _ _ c.retain.ensures.filtered
