use Rattle.std.proofs.Common.{◌≡◌, ◌++◌, codes, take}
use Rattle.std.specs.List.{flat_map}
use Rattle.own_book.specs.Entry.{told_in}
use Rattle.own_rules.specs.Faults.{fault_text, greeting_fault}
use Rattle.own_rules.proofs.faults.faults_text.Given as goal

abbrev pub invariant-loop-node : goal.invariant-loop-node
invariant-loop-node l =
    l.text.items ≡ greeting_fault (told_in l.rules (codes "own 1")) ++ flat_map (fault_text l.rules l.graph) (take l.node-index l.stops)
