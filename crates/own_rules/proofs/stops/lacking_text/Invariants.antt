use Rattle.std.proofs.Common.{◌≡◌, ◌++◌, codes, take}
use Rattle.std.specs.List.{flat_map}
use Rattle.own_book.specs.Entry.{told_in}
use Rattle.own_rules.specs.Stops.{greeting_line, stop_line}
use Rattle.own_rules.proofs.stops.lacking_text.Given as goal

abbrev pub invariant-loop-node : goal.invariant-loop-node
invariant-loop-node l =
    l.text.items ≡ greeting_line (told_in l.rules (codes "own 1")) ++ flat_map (stop_line l.rules l.graph) (take l.node-index l.stops)
