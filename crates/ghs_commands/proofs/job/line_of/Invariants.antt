use Rattle.std.proofs.Common.{◌≡◌, map, take, string_bytes}
use Rattle.ghs_commands.specs.Job.{with_name}
use Rattle.ghs_commands.proofs.job.line_of.Given as goal

abbrev pub invariant-loop-word : goal.invariant-loop-word
invariant-loop-word l = map (λ t. t.now) l.line.items ≡ with_name (map string_bytes (take l.word-index l.words))
