use Rattle.std.proofs.Common.{rules}
use Rattle.std.proofs.lemmas.Fn.{filter_same}
use Rattle.ghs_core.specs.Census.{has_nodes}
use Rattle.ghs_core.proofs.census.keep_counted.Goals as goal

pub returns : goal.returns
returns c = filter_same _ has_nodes _ (λ x b f' k. search rules) _ _ c.retain.ensures.filtered
