use Rattle.std.proofs.Common.{take}
use Rattle.own_rules.specs.Places.{ArePlaces}
use Rattle.own_rules.proofs.places.places_of.Given as goal

abbrev pub invariant-loop-index : goal.invariant-loop-index
invariant-loop-index l = ArePlaces l.texts (take l.index l.book) l.places
