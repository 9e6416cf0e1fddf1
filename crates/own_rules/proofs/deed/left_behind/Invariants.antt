use Rattle.std.proofs.Common.{◌≡◌, true, length}
use Rattle.own_book.specs.Answer.{are_sends, sends_in}
use Rattle.own_rules.specs.Deed.{left_then}
use Rattle.own_rules.proofs.deed.left_behind.Given as goal

abbrev pub invariant-sends : goal.invariant-sends
invariant-sends l = record {
  readable : are_sends l.rest ≡ true;
  left : left_then l.fn.most (length (sends_in l.sends)) ≡ left_then l.left (length (sends_in l.rest));
}

abbrev pub decreases-sends : goal.decreases-sends
decreases-sends l = length (sends_in l.rest)
