use Rattle.std.proofs.Common.{◌≡◌, ◌++◌, take}
use Rattle.std.specs.List.{flat_map}
use Rattle.own_book.specs.Asking.{key_behind_blank}
use Rattle.own_book.proofs.asking.put_keys.Given as goal

abbrev pub invariant-loop-port : goal.invariant-loop-port
invariant-loop-port l = l.text.items ≡ l.fn.text.items ++ flat_map key_behind_blank (take l.port-index l.ports)
