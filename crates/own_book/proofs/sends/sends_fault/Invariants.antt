use Rattle.std.proofs.Common.{◌≡◌, true, length}
use Rattle.own_book.specs.Answer.{are_sends, sends_in}
use Rattle.own_book.specs.Sends.{sends_fault}
use Rattle.own_book.proofs.sends.sends_fault.Given as goal

abbrev pub invariant-sends : goal.invariant-sends
invariant-sends l = record {
  readable : are_sends l.rest ≡ true;
  fault : sends_fault l.kinds l.ports (sends_in l.sends) ≡ sends_fault l.kinds l.ports (sends_in l.rest);
}

abbrev pub decreases-sends : goal.decreases-sends
decreases-sends l = length (sends_in l.rest)
