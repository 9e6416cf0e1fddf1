use Rattle.std.proofs.Common.{◌≡◌, ◌++◌, slice_index}
use Rattle.peer_page.specs.Counts.{parts_json}
use Rattle.peer_page.proofs.counts.put_parts.Given as goal

abbrev pub invariant-loop-kind : goal.invariant-loop-kind
invariant-loop-kind l = l.text.items ≡ l.fn.text.items ++ parts_json l.kind (λ k. slice_index l.counts k)
