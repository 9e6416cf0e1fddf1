use Rattle.std.proofs.Common.{◌≡◌, fold, take}
use Rattle.own_rules.specs.Lacks.{lacks_of}
use Rattle.own_rules.specs.Texts.{noted}
use Rattle.own_rules.proofs.lacks.note_lacks.Given as goal

abbrev pub invariant-loop-node : goal.invariant-loop-node
invariant-loop-node l = l.lacks ≡ fold noted l.fn.lacks (lacks_of l.rules l.graph (take l.node-index l.stops))
