use Rattle.std.proofs.Common.{◌≡◌, length}
use Rattle.own_rules.specs.Ready.{AreReady}
use Rattle.own_rules.proofs.ready.ready_of.Given as goal

abbrev pub invariant-loop-index : goal.invariant-loop-index
invariant-loop-index l = record {
  many : length l.all.items ≡ l.index;
  ready : AreReady l.texts l.kinds l.book l.all.items;
}
