use Rattle.std.proofs.Common.{◌∙◌}
use Rattle.ghs_commands.proofs.Choices.{among_borrowed}
use Rattle.ghs_commands.proofs.values.is_among.Goals as goal

pub returns-in-Some : goal.returns-in-Some
returns-in-Some c = rw c.in-Some.is (c.is_one_of.ensures ∙ among_borrowed c.in-Some.value.now c.args.choices.now)
