use Rattle.std.proofs.Common.{◌≡◌, take}
use Rattle.std.specs.List.{flat_map}
use Rattle.own_judge.specs.Verdict.{line}
use Rattle.own_cli.proofs.judging.asked.Given as goal

abbrev pub invariant-loop-question : goal.invariant-loop-question
invariant-loop-question l = l.text.items ≡ flat_map line (take l.question-index l.questions)
