use Rattle.std.proofs.Common.{◌≡◌, true, fold, length}
use Rattle.own_book.specs.Answer.{are_sends, sends_in}
use Rattle.own_rules.specs.Texts.{messages_of, noted}
use Rattle.own_rules.proofs.texts.Texts.note_messages.Given as goal

abbrev pub invariant-sends : goal.invariant-sends
invariant-sends l = record {
  readable : are_sends l.rest ≡ true;
  all : fold noted l.fn.self (messages_of (sends_in l.sends)) ≡ fold noted l.self (messages_of (sends_in l.rest));
}

abbrev pub decreases-sends : goal.decreases-sends
decreases-sends l = length (sends_in l.rest)
