use Rattle.std.proofs.Common.{◌≡◌, []}
use Rattle.std.specs.Prelude.{slice_index_or}
use Rattle.peer_sweep.specs.Columns.{kind_named}
use Rattle.peer_sweep.proofs.teller.kind_among.Given as goal

abbrev pub invariant-loop-kind : goal.invariant-loop-kind
invariant-loop-kind l = l.found ≡ kind_named (λ k. slice_index_or l.kinds k []) l.name l.kind
