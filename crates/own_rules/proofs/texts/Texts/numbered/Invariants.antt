use Rattle.std.proofs.Common.{◌≡◌, ◌++◌, true, length}
use Rattle.own_book.specs.Answer.{are_sends, sends_in}
use Rattle.own_rules.specs.Rules.{numbered}
use Rattle.own_rules.proofs.texts.Texts.numbered.Given as goal

abbrev pub invariant-sends : goal.invariant-sends
invariant-sends l = record {
  readable : are_sends l.rest ≡ true;
  all : numbered l.self (sends_in l.sends) ≡ l.list.items ++ numbered l.self (sends_in l.rest);
}

abbrev pub decreases-sends : goal.decreases-sends
decreases-sends l = length (sends_in l.rest)
