use Rattle.std.proofs.Common.{◌≡◌, take}
use Rattle.std.specs.List.{flat_map}
use Rattle.own_view.specs.Page.{shield}
use Rattle.own_view.proofs.shield.shielded.Given as goal

abbrev pub invariant-loop-byte : goal.invariant-loop-byte
invariant-loop-byte l = l.shown.items ≡ flat_map shield (take l.byte-index l.text)
