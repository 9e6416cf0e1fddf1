use Rattle.std.proofs.Common.{◌≡◌, ◌++◌, slice_index, codes}
use Rattle.peer_report.specs.Account.{counts_text}
use Rattle.peer_report.proofs.account.put_kinds.Given as goal

abbrev pub invariant-loop-k : goal.invariant-loop-k
invariant-loop-k g l =
    l.text.items ≡ (l.fn.text.items ++ codes "m") ++ counts_text l.k g.P.Spoken.words.kind (λ k. slice_index l.sent k)
