use Rattle.std.proofs.Common.{◌≡◌, ◌≤◌, ◌++◌, length, drop}
use Rattle.ghs_node.specs.Words.{on_branches, on_branches_from}
use Rattle.ghs_node.proofs.responses.send_on_branches.Given as goal

abbrev pub invariant-loop-branch : goal.invariant-loop-branch
invariant-loop-branch l = record {
  head : l.delta.head ≡ l.initial.delta.head;
  mark : l.delta.mark ≡ l.initial.delta.mark;
  fate : l.delta.fate ≡ l.initial.delta.fate;
  halts : l.delta.halts ≡ l.initial.delta.halts;
  grown : length l.initial.delta.sends ≤ length l.delta.sends;
  sends : l.delta.sends ++ on_branches_from l.branch (drop l.branch l.node.marks) l.port l.message
      ≡ l.initial.delta.sends ++ on_branches l.node.marks l.port l.message;
}
