use Rattle.std.proofs.Common.{◌≡◌, ◌<◌, ◌-◌, ◌^◌, ℕ, length, slice_index}
use Rattle.ghs_report.proofs.fragments.Fragments.leader.Given as goal

abbrev pub invariant-loop-at : goal.invariant-loop-at
invariant-loop-at l = record {
  inside : l.at < length l.self.parents.items;
  same : (f : ℕ → ℕ) → ((x : ℕ) → x < length l.self.parents.items → f (slice_index l.self.parents.items x) ≡ f x) → f l.at ≡ f l.v;
}

abbrev pub decreases-loop-at : goal.decreases-loop-at
decreases-loop-at l = 2 ^ 32 - slice_index l.self.levels.items l.at
