use Rattle.std.proofs.Common.{◌≡◌, ◌≤◌, Bor, List, ℕ, map, take}
use Rattle.std.specs.Prelude.{count_by}
use Rattle.ghs_commands.specs.Values.{is_dash}
use Rattle.ghs_commands.proofs.networks.dashes_among.Given as goal

abbrev pub invariant-loop-file : goal.invariant-loop-file
invariant-loop-file l = record {
  some : l.dashes ≡ count_by is_dash (map (λ (t : Bor (List ℕ)). t.now) (take l.file-index l.files));
  few : l.dashes ≤ l.file-index;
}
