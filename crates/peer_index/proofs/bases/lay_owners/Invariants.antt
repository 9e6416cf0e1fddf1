use Rattle.std.proofs.Common.{◌≡◌, ℕ, ◌<◌, length, slice_index}
use Rattle.peer_index.specs.Index.{IsOwner}
use Rattle.peer_index.proofs.bases.lay_owners.Given as goal

abbrev pub invariant-loop-v : goal.invariant-loop-v
invariant-loop-v l = record {
  count : length l.owners.items ≡ slice_index l.bases l.v;
  owner : (at : ℕ) → at < length l.owners.items → IsOwner l.bases at (slice_index l.owners.items at);
}
