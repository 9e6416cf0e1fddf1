use Rattle.std.proofs.Common.{◌≡◌, Bor, List, ℕ, map, string_bytes, take}
use Rattle.ghs_commands.proofs.networks.all_of.Given as goal

abbrev pub invariant-loop-text : goal.invariant-loop-text
invariant-loop-text l = map string_bytes l.all.items ≡ map (λ (t : Bor (List ℕ)). t.now) (take l.text-index l.texts)
