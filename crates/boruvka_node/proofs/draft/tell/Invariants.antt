use Rattle.std.proofs.Common.{◌≡◌, ◌++◌, drop}
use Rattle.boruvka_node.specs.Draft.{change_of, drafted}
use Rattle.boruvka_node.specs.Entering.{told_from}
use Rattle.boruvka_node.proofs.draft.tell.Given as goal

abbrev pub invariant-loop-port : goal.invariant-loop-port
invariant-loop-port l = record {
  change : change_of l.draft ≡ change_of l.initial.draft;
  told : l.draft.sends.items ++ told_from l.entry l.port (drop l.port (drafted l.node l.initial.draft).ports)
      ≡ l.initial.draft.sends.items ++ told_from l.entry 0 (drafted l.node l.initial.draft).ports;
}
