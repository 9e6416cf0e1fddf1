use Rattle.std.proofs.Common.{◌≡◌, take}
use Rattle.own_rules.specs.Texts.{texts_of}
use Rattle.own_rules.proofs.texts.texts_of.Given as goal

abbrev pub invariant-loop-index : goal.invariant-loop-index
invariant-loop-index l = l.texts ≡ texts_of (take l.index l.book)
