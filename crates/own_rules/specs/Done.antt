-- What a program's deeds stand for.
use Rattle.std.specs.Prelude.{◌≡◌, true}
use Rattle.own_book.specs.Answer.{are_sends, sends_in}
use Rattle.own_rules.specs.Deed.{Deed, goes_on, stops}
use Rattle.own_rules.specs.declared.deed.Done.{Done}
use Rattle.own_rules.specs.declared.deed.Done.TheVariants.{GoesOn, Stops}

abbrev pub done_by : Done → Deed
done_by (GoesOn after waits sends left) = goes_on after.now waits (sends_in sends.now) left
done_by (Stops reason) = stops reason

-- what is sent can be read, one after the other
abbrev pub AreSends : Done → Type 0
AreSends (GoesOn after waits sends left) = are_sends sends.now ≡ true
AreSends (Stops reason) = Unit {0}
