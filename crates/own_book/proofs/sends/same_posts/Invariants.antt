use Rattle.std.proofs.Common.{◌≡◌, ◌<◌, ℕ, get_or}
use Rattle.own_book.specs.Sends.{Sending}
use Rattle.own_book.proofs.sends.same_posts.Given as goal

abbrev pub invariant-loop-place : goal.invariant-loop-place
invariant-loop-place l = (k : ℕ) (d : Sending) → k < l.place → get_or l.left k d ≡ get_or l.right k d
