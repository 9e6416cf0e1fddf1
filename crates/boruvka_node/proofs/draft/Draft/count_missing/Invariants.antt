use Rattle.std.proofs.Common.{◌≡◌, ◌≤◌, take, count_by}
use Rattle.boruvka_node.specs.Draft.{drafted}
use Rattle.boruvka_node.specs.State.{is_missing}
use Rattle.boruvka_node.proofs.draft.Draft.count_missing.Given as goal

abbrev pub invariant-loop-port : goal.invariant-loop-port
invariant-loop-port l = record {
  few : l.count ≤ l.port;
  counted : l.count ≡ count_by (is_missing l.level) (take l.port (drafted l.node l.self).ports);
}
