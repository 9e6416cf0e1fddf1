use Rattle.std.proofs.Common.{arith, refl}
use Rattle.std.proofs.lemmas.List.{same_lists}
use Rattle.own_book.proofs.sends.same_posts.Goals as goal

pub returns : goal.returns
returns c = (λ t. same_lists _ _ c.if-left-right.false (λ k d lt. c.loop-place.invariant k d (omega arith)), λ e. refl)
